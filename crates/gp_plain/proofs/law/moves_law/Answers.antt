use Rattle.gp_plain.proofs.ShareLaws.{moves_law_holds}
use Rattle.gp_plain.proofs.law.moves_law.Goals as goal

pub returns : goal.returns
returns c = moves_law_holds
