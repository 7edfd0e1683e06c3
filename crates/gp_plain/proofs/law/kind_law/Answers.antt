use Rattle.gp_plain.proofs.KindLaws.{kind_law_holds}
use Rattle.gp_plain.proofs.law.kind_law.Goals as goal

pub returns : goal.returns
returns c = kind_law_holds
