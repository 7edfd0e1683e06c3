use Rattle.std.proofs.Common.{◌∙◌, sym, ap}
use Rattle.std.proofs.lemmas.Result.{IfOk-weaker}
use Rattle.gp_registry.specs.Stages.{state_of}
use Rattle.gp_registry.specs.Steps.{kept_pending}
use Rattle.gp_registry.proofs.Standing.{pending_is}
use Rattle.gp_registry.proofs.registry.Registry.pending.Goals as goal

pub returns-in-Some : goal.returns-in-Some
returns-in-Some c = λ past at. IfOk-weaker c.pending.result _ _ (λ pieces e. e ∙ ap (λ m. (state_of m).pending) c.machine.ensures ∙ ap kept_pending c.in-Some.ensures ∙ sym (pending_is past c.args.self.now c.args.hold at)) c.pending.ensures

pub returns-in-None : goal.returns-in-None
returns-in-None c = λ past at. c.new.ensures ∙ ap kept_pending c.in-None.ensures ∙ sym (pending_is past c.args.self.now c.args.hold at)
