use Rattle.gp_session_wait.proofs.Laws.{answer_law_is}
use Rattle.gp_session_wait.proofs.law.answer_law.Goals as goal

pub returns : goal.returns
returns c = answer_law_is
