use Rattle.gp_plain.proofs.OthersLaw.{owners_law_holds}
use Rattle.gp_plain.proofs.law.owners_law.Goals as goal

pub returns : goal.returns
returns c = owners_law_holds
