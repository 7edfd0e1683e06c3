use Rattle.gp_plain.proofs.OthersLaw.{others_law_holds}
use Rattle.gp_plain.proofs.law.others_law.Goals as goal

pub returns : goal.returns
returns c = others_law_holds
