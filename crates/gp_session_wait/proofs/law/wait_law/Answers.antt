use Rattle.gp_session_wait.proofs.Laws.{wait_law_holds}
use Rattle.gp_session_wait.proofs.law.wait_law.Goals as goal

pub returns : goal.returns
returns c = wait_law_holds
