use Rattle.gp_session_wait.proofs.Published.{poll_item_law_holds}
use Rattle.gp_session_wait.proofs.law.poll_item_law.Goals as goal

pub returns : goal.returns
returns c = poll_item_law_holds
