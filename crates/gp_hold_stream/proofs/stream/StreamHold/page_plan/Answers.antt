use Rattle.std.proofs.Common.{refl, sym, ap, ◌∙◌, subst, Bool, ◌&&◌, ◌||◌}
use Rattle.gp_plain.specs.Holds.{begins_at, page_run}
use Rattle.gp_plain.specs.History.{page_of}
use Rattle.gp_plain.specs.Growth.{IsWithin, no_growth, with_pieces}
use Rattle.gp_plain.specs.Plans.{Machine, machine}
use Rattle.gp_plain.specs.Tails.{ahead}
use Rattle.gp_hold_stream.specs.declared.page.PagePlan.TheVariants.{Page}
use Rattle.gp_hold_stream.specs.Pages.{IsPagePlanned}
use Rattle.gp_hold_stream.specs.States.{stream_state}
use Rattle.gp_hold_stream.proofs.Pages.{page_planned}
use Rattle.gp_hold_stream.proofs.stream.StreamHold.page_plan.Goals as goal

pub returns : goal.returns
returns g c =
    let s = c.self.inside in
    let w = g.I.Tail.items c.args.window.now in
    let page = page_of c.args.from.now c.args.to.now c.args.bytes.now c.args.then in
    let m = machine (stream_state s.channel s.link s.pending.items s.position s.ended s.want s.asked s.late s.misses) s.pending.spare in
    let run = c.in_ok-run.run' in
    let is = c.in_ok-run.ensures.0 ∙ ap (λ (n : Machine). with_pieces n.state.pending no_growth (page_run n.state.terms page w)) (sym c.self.view_is) in
    let within = subst (λ (n : Machine). IsWithin n.state.pending run.pieces) (sym c.self.view_is) c.in_ok-run.ensures.1 in
    let begins = ap (λ (n : Machine). begins_at n.state.position c.args.from.now) c.self.view_is ∙ sym c.begins.ensures ∙ c.if-not-begins.false in
    let want = c.wants_behind-want.ensures ∙ ap (λ b. s.link && (b || (s.late && ahead s.channel c.moved_from-behind.result.now w))) c.has_next.ensures in
    subst (λ (n : Machine). IsPagePlanned n w page (Page c.reserve.new.self c.in_ok-position.position c.is_last-last.result c.wants_behind-want.result)) c.self.view_is
    (subst (λ (last : Bool). IsPagePlanned m w page (Page c.reserve.new.self c.in_ok-position.position last c.wants_behind-want.result)) (sym c.is_last-last.ensures)
    (page_planned m w page run c.reserve.new.self c.in_ok-position.position s.position c.moved_from-behind.result.now c.wants_behind-want.result
    (ap (λ (n : Machine). n.state.ended) c.self.view_is ∙ c.requires) refl refl begins is within c.in_ok-reserve.ensures.same.0 c.in_ok-reserve.ensures.same.1
    c.in_ok-reserve.ensures.room c.in_ok-position.ensures c.moved_from-behind.ensures want))
