use Rattle.gp_ws.proofs.CutLemmas.{cut, again}
use Rattle.gp_ws.proofs.law.cut_law.Goals as goal

pub returns : goal.returns
returns c = record { cut = cut; again = again }
