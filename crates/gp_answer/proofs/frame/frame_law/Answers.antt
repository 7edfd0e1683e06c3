use Rattle.gp_answer.proofs.Frames.{frame_law_holds}
use Rattle.gp_answer.proofs.frame.frame_law.Goals as goal

pub returns : goal.returns
returns c = frame_law_holds
