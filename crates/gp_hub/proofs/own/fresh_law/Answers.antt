use Rattle.gp_hub.proofs.Owned.{fresh_law_holds}
use Rattle.gp_hub.proofs.own.fresh_law.Goals as goal

pub returns : goal.returns
returns c = fresh_law_holds
