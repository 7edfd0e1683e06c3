use Rattle.gp_forward.proofs.Conditions.{forward_holds}
use Rattle.gp_forward.proofs.law.forward_law.Goals as goal

pub returns : goal.returns
returns c = forward_holds c.head_law.ensures
