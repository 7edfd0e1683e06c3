use Rattle.std.proofs.Common.{rules, ◌≡◌, ◌<◌, List, length, map, sym, ap, subst, ◌∙◌}
use Rattle.std.proofs.Math.ListN.{length-map}
use Rattle.gp_workers.specs.declared.worker.Worker.{Worker}
use Rattle.gp_workers.proofs.Shifting.{have_done, have_worked, written_whole}
use Rattle.gp_workers.proofs.staff.employ.Goals as goal

pub returns : goal.returns
returns g c before of_turn shared =
    let parts = g.K.Kit.parts in
    let tells = g.K.Listen.Listen.tells in
    let means = g.M.Maker.means c.args.crew.now.maker.now in
    let turn = c.args.crew.now.hub.now in
    let claims = c.args.crew.now.claims.now in
    let limit = c.args.crew.now.limit in
    let seen = c.args.pass.now.seen in
    let ws = c.hire.new.workers.items in
    let zs = c.from_vec-served.result in
    let is_ws : c.as_mut_slice.result.now ≡ ws = search rules in
    let is_zs : c.serve_all.new.workers ≡ zs = sym (c.from_vec-served.ensures ∙ written_whole c.hire.new.workers.len c.serve_all.new.workers ws (c.serve_all.ensures.count ∙ ap length is_ws) (search rules)) in
    let same : length zs ≡ length ws = ap length (sym is_zs) ∙ (c.serve_all.ensures.count ∙ ap length is_ws) in
    let kits : map (λ (w : Worker _). w.kit) ws ≡ c.args.kits.now.items = search rules in
    let count : length c.args.desks.items ≡ length ws = c.requires.count ∙ (sym (ap length kits) ∙ length-map ws (λ (w : Worker _). w.kit)) in
    have_worked parts tells means turn claims limit seen before c.args.pass.now c.dismiss.new.pass c.args.desks.items c.args.claimer.now c.dismiss.new.claimer c.next.result ws zs
    c.args.kits.now.items c.dismiss.new.kits.items c.dismiss.new.reports.items
    of_turn (sym shared.seen) shared count c.hire.ensures.numbers same
    (have_done parts tells means turn claims limit seen ws zs same
    (λ i d lt.
    let new = c.hire.ensures.new i d lt in
    let served = c.serve_all.ensures.served i d (subst (λ (l : List (Worker _)). i < length l) (sym is_ws) lt) in
    record {
      has_seen = new.0;
      new = new.1;
      served = rw (← is_zs, ← is_ws) served;
    }))
    c.dismiss.ensures.pass c.dismiss.ensures.grown c.dismiss.ensures.joined c.dismiss.ensures.claimer c.next.ensures.later c.next.ensures.all kits c.dismiss.ensures.kits c.dismiss.ensures.reports
