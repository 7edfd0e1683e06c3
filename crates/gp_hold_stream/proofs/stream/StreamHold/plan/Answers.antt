use Rattle.std.proofs.Common.{sym, ap, ◌∙◌, subst}
use Rattle.gp_plain.specs.Holds.{offered}
use Rattle.gp_plain.specs.Plans.{Machine, IsPlanned}
use Rattle.gp_hold_stream.proofs.Streams.{if_ok, next_planned}
use Rattle.gp_hold_stream.proofs.stream.StreamHold.plan.Goals as goal

pub returns : goal.returns
returns g c =
    let s = c.self.inside in
    let w = g.I.Tail.items c.args.window.now in
    let none = ap (λ (m : Machine). m.state.ended) c.self.view_is ∙ c.requires in
    if_ok c.into_plan.result (λ plan made.
    subst (λ (m : Machine). IsPlanned m (offered c.args.item.now w m.state) plan) c.self.view_is
    (next_planned s.channel s.link s.pending.items s.position s.ended s.want s.asked s.late s.misses s.pending.spare c.args.item.now w c.in_ok-run.run' plan
    none (sym c.is_on.ensures ∙ c.if-not-is_on.false) (sym c.leaves_gap.ensures ∙ c.if-leaves_gap.false) (sym c.comes_next.ensures ∙ c.if-not-comes_next.false) c.in_ok-run.ensures.0 made))
    c.into_plan.ensures
