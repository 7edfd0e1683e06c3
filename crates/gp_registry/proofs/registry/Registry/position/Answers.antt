use Rattle.std.proofs.Common.{◌∙◌, sym, ap}
use Rattle.gp_registry.specs.Stages.{state_of}
use Rattle.gp_registry.specs.Steps.{kept_position}
use Rattle.gp_registry.proofs.Standing.{position_is}
use Rattle.gp_registry.proofs.registry.Registry.position.Goals as goal

pub returns-in-Some : goal.returns-in-Some
returns-in-Some c = λ past at. c.position.ensures ∙ ap (λ m. (state_of m).position) c.machine.ensures ∙ ap kept_position c.in-Some.ensures ∙ sym (position_is past c.args.self.now c.args.hold at)

pub returns-in-None : goal.returns-in-None
returns-in-None c = λ past at. ap kept_position c.in-None.ensures ∙ sym (position_is past c.args.self.now c.args.hold at)
