use Rattle.gp_session_hold.proofs.Following.{stream_law_holds}
use Rattle.gp_session_hold.proofs.law.stream_law.Goals as goal

pub returns : goal.returns
returns c = stream_law_holds
