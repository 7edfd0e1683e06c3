use Rattle.gp_asking.proofs.Taking.{asking_law_holds}
use Rattle.gp_asking.proofs.law.asking_law.Goals as goal

pub returns : goal.returns
returns c = asking_law_holds
