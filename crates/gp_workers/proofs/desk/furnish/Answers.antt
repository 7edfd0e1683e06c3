use Rattle.std.proofs.Common.{rules, ◌≡◌}
use Rattle.std.proofs.lemmas.List.Elements.{All-push}
use Rattle.gp_workers.specs.Desks.{IsDesk}
use Rattle.gp_workers.proofs.Furnishing.{shared_push}
use Rattle.gp_workers.proofs.desk.furnish.Goals as goal

-- src/desk.rt:76:5
pub loop-preserved : goal.loop-preserved
loop-preserved c =
    let shared = c.loop.invariant.4 in
    let seen : c.loop.pass.seen ≡ c.args.pass.now.seen = shared.seen in
    let made : IsDesk c.args.hub.now c.args.claims.now c.args.pass.now.seen c.in_ok-made.made = rw seen at c.in_ok-made.ensures.ok in (
      rw c.push_reserved.ensures.items (All-push (IsDesk c.args.hub.now c.args.claims.now c.args.pass.now.seen) c.loop.desks.items c.in_ok-made.made c.loop.invariant.0 made),
      search rules,
      search rules,
      search rules,
      rw c.push_reserved.ensures.items
          (shared_push c.args.hub.now c.args.claims.now c.args.pass.now.seen c.loop.desks.items c.in_ok-made.made c.args.pass.now c.loop.pass c.place.new.pass c.loop.claimer c.place.new.claimer shared made c.in_ok-made.ensures.number c.in_ok-made.ensures.pass c.in_ok-made.ensures.claimer (search rules)),
    )
