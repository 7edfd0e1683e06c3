use Rattle.gp_plain.proofs.EndLaws.{told_law_holds}
use Rattle.gp_plain.proofs.law.told_law.Goals as goal

pub returns : goal.returns
returns c = told_law_holds
