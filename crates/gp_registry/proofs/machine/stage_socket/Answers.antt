use Rattle.std.proofs.Common.{sym, ◌∙◌}
use Rattle.gp_plain.specs.Follow.{is_heard}
use Rattle.gp_registry.proofs.Planning.{live_by, run_staged}
use Rattle.gp_registry.proofs.machine.stage_socket.Goals as goal

pub returns-in_ok-offer : goal.returns-in_ok-offer
returns-in_ok-offer c =
    let m = c.args.hold.now in
    λ window. run_staged c.args.item.now window m c.in_ok-offer.field-0 (live_by m.state.ended (is_heard m.state.terms.channels c.args.item.now) (sym c.hears.ensures ∙ c.if-hears.true)) (c.in_ok-offer.ensures window)
