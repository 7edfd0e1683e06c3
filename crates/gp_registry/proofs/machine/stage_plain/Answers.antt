use Rattle.std.proofs.Common.{sym, ◌∙◌}
use Rattle.gp_plain.specs.Follow.{is_heard}
use Rattle.gp_registry.proofs.Planning.{live_by, run_staged}
use Rattle.gp_registry.proofs.machine.stage_plain.Goals as goal

pub returns-in_ok-plan : goal.returns-in_ok-plan
returns-in_ok-plan c =
    let m = c.args.hold.now in
    λ window. run_staged c.args.item.now window m c.in_ok-plan.field-0 (live_by m.state.ended (is_heard m.state.terms.channels c.args.item.now) (sym c.hears.ensures ∙ c.if-hears.true)) (c.in_ok-plan.ensures window)
