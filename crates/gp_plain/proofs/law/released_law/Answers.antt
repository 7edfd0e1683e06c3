use Rattle.gp_plain.proofs.OthersLaw.{released_law_holds}
use Rattle.gp_plain.proofs.law.released_law.Goals as goal

pub returns : goal.returns
returns c = released_law_holds
