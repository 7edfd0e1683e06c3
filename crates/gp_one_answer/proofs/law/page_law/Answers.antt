use Rattle.gp_one_answer.proofs.Paging.{page_holds, failed_holds, one_page_holds}
use Rattle.gp_one_answer.proofs.law.page_law.Goals as goal

pub returns : goal.returns
returns c = record {
  page = λ sought ended ended' page fault received gives refuses. page_holds sought ended page received gives ended' fault refuses;
  failed = λ sought ended page fault over received gives not fails. failed_holds sought ended page received gives fault over not fails;
  one_page = λ sought ended ended' a b received gives gives'. one_page_holds sought ended a received gives ended' b gives';
}
