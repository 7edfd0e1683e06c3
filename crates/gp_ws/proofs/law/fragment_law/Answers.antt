use Rattle.gp_ws.proofs.FragmentLemmas.{begins, goes_on, ends}
use Rattle.gp_ws.proofs.law.fragment_law.Goals as goal

pub returns : goal.returns
returns c = record { begins = begins; goes_on = goes_on; ends = ends }
