use Rattle.gp_one_request.proofs.Reading.{request_law_holds}
use Rattle.gp_one_request.proofs.law.request_law.Goals as goal

pub returns : goal.returns
returns c = request_law_holds
