use Rattle.gp_plain.proofs.SocketLaw.{socket_law_holds}
use Rattle.gp_plain.proofs.law.socket_law.Goals as goal

pub returns : goal.returns
returns c = socket_law_holds
