use Rattle.gp_plain.proofs.ShareLaws.{released_share_law_holds, released_shares_law_holds}
use Rattle.gp_plain.proofs.law.released_shares_law.Goals as goal

pub returns-clause-one : goal.returns-clause-one
returns-clause-one c = released_share_law_holds

pub returns-clause-all : goal.returns-clause-all
returns-clause-all c = released_shares_law_holds
