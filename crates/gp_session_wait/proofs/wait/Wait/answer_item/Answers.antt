use Rattle.std.proofs.Common.{rules, subst}
use Rattle.gp_plain.specs.declared.reply.EndCause.TheVariants.{Answered}
use Rattle.gp_session_wait.specs.declared.answer.Answer.{Answer}
use Rattle.gp_session_wait.specs.Waits.{AnswersAs}
use Rattle.gp_session_wait.proofs.wait.Wait.answer_item.Goals as goal

pub returns : goal.returns
returns g c = subst (λ (a : Answer). AnswersAs c.args.wire.now c.answer_with.new.wire c.args.self.hold Answered a c.answer_with.result) c.of_part.ensures (search rules)
