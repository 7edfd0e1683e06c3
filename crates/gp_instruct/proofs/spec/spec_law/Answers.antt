use Rattle.gp_instruct.proofs.SpecFits.{spec_law_holds}
use Rattle.gp_instruct.proofs.spec.spec_law.Goals as goal

pub returns : goal.returns
returns c = spec_law_holds
