use Rattle.gp_plain.proofs.EndLaws.{position_law_holds}
use Rattle.gp_plain.proofs.law.position_law.Goals as goal

pub returns : goal.returns
returns c = position_law_holds
