use Rattle.gp_asking.proofs.Failures.{failing_law_holds}
use Rattle.gp_asking.proofs.law.failing_law.Goals as goal

pub returns : goal.returns
returns c = failing_law_holds
