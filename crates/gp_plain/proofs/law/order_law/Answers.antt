use Rattle.gp_plain.proofs.OrderLaw.{order_law_holds}
use Rattle.gp_plain.proofs.law.order_law.Goals as goal

pub returns : goal.returns
returns c = order_law_holds
