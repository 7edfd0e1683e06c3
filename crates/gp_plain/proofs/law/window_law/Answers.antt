use Rattle.gp_plain.proofs.ChainLaw.{window_law_holds}
use Rattle.gp_plain.proofs.law.window_law.Goals as goal

pub returns : goal.returns
returns c = window_law_holds
