use Rattle.gp_one_answer.proofs.Heads.{one_head_holds}
use Rattle.gp_one_answer.proofs.Talks.{one_content, no_fault}
use Rattle.gp_one_answer.proofs.Instructions.{instruct_holds, one_instruct_holds}
use Rattle.gp_one_answer.proofs.Reading.{answer_holds, one_answer_holds}
use Rattle.gp_one_answer.proofs.law.answer_law.Goals as goal

pub returns : goal.returns
returns c = record {
  one_head = one_head_holds;
  refused = λ asked head ended ended' content content' received given fault ends not by.
      no_fault asked head ended content received ends ended' content' given fault not by;
  one_body = λ asked head head' ended content content' received ends gave. one_content asked head ended content received ends head' content' gave;
  instruct = instruct_holds;
  one_instruct = one_instruct_holds;
  answer = answer_holds;
  one_answer = one_answer_holds;
}
