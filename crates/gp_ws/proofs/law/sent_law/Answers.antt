use Rattle.gp_ws.proofs.SentLemmas.{sent_is_read}
use Rattle.gp_ws.proofs.law.sent_law.Goals as goal

pub returns : goal.returns
returns c = record { read = sent_is_read }
