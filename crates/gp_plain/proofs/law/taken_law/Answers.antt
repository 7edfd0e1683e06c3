use Rattle.gp_plain.proofs.TakenLaw.{taken_law_holds}
use Rattle.gp_plain.proofs.law.taken_law.Goals as goal

pub returns : goal.returns
returns c = taken_law_holds
