use Rattle.std.proofs.Common.{◌≡◌, ℕ, ◌≤◌, ◌+◌, ◌∙◌, false, sym, ap, subst, arith, Result, Ok, Err}
use Rattle.std.specs.Result.{IfOk, IfErr, OnErr}
use Rattle.gp_plain.specs.Refusals.{refuses}
use Rattle.gp_plain.specs.Standing.{Standing}
use Rattle.gp_plain.specs.declared.event.Event.{Event}
use Rattle.gp_plain.specs.declared.reply.Reply.{Reply}
use Rattle.gp_registry.specs.Steps.{answered, stepped}
use Rattle.std.proofs.lemmas.Result.{IfOk-weaker}
use Rattle.gp_registry.proofs.Standing.{stands_more, reply_is, stepped_next}
use Rattle.gp_registry.proofs.registry.Registry.step.Goals as goal

pub returns-clause-reply : goal.returns-clause-reply
returns-clause-reply c = λ past at.
    IfOk-weaker c.step_now.result _ _ (λ r e. (e.0 ∙ sym (reply_is past c.args.self.now c.args.who c.args.event at), stands_more past c.args.self.now c.step_now.new.self c.args.who c.args.event at e.1)) c.step_now.ensures.ok

number_by : {E : Type 0} (r : Result Reply (Event × E)) (old new : Standing) (who : ℕ) (event : Event) → IfOk r (λ reply. (reply ≡ answered old who event) × (new ≡ stepped old who event)) → IfErr r (λ e. (e.0 ≡ event) × (new ≡ old)) → new.next ≤ old.next + 1
number_by (Ok reply) old new who event is left = omega (arith, stepped_next old who event, ap (λ (s : Standing). s.next) is.1)
number_by (Err e) old new who event is left = omega (arith, ap (λ (s : Standing). s.next) left.1)

pub returns-clause-number : goal.returns-clause-number
returns-clause-number c = number_by c.step_now.result c.args.self.now c.step_now.new.self c.args.who c.args.event c.step_now.ensures.ok c.step_now.ensures.err

pub returns-clause-due : goal.returns-clause-due
returns-clause-due c = λ past at.
    subst (λ (r : Reply). OnErr c.step_now.result (refuses r ≡ false)) (sym (reply_is past c.args.self.now c.args.who c.args.event at)) c.step_now.ensures.due
