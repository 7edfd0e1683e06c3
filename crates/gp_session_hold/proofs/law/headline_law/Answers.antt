use Rattle.gp_session_hold.proofs.Following.{headline_law_holds, whole_law_holds}
use Rattle.gp_session_hold.proofs.law.headline_law.Goals as goal

pub returns : goal.returns
returns c = record { begins = headline_law_holds; whole = whole_law_holds }
