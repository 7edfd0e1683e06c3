use Rattle.std.proofs.Common.{◌∙◌, sym, ap}
use Rattle.gp_registry.specs.Stages.{state_of}
use Rattle.gp_registry.specs.Steps.{kept_cause}
use Rattle.gp_registry.proofs.Standing.{cause_is}
use Rattle.gp_registry.proofs.registry.Registry.cause.Goals as goal

pub returns-in-Some : goal.returns-in-Some
returns-in-Some c = λ past at. c.cause.ensures ∙ ap (λ m. (state_of m).ended) c.machine.ensures ∙ ap kept_cause c.in-Some.ensures ∙ sym (cause_is past c.args.self.now c.args.hold at)

pub returns-in-None : goal.returns-in-None
returns-in-None c = λ past at. ap kept_cause c.in-None.ensures ∙ sym (cause_is past c.args.self.now c.args.hold at)
