use Rattle.gp_plain.proofs.EndLaws.{answer_law_holds}
use Rattle.gp_plain.proofs.law.answer_law.Goals as goal

pub returns : goal.returns
returns c = answer_law_holds
