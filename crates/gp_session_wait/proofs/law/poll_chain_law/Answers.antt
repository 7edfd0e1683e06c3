use Rattle.gp_session_wait.proofs.Chains.{poll_chain_law_holds}
use Rattle.gp_session_wait.proofs.law.poll_chain_law.Goals as goal

pub returns : goal.returns
returns c = poll_chain_law_holds
