use Rattle.gp_body.proofs.LawLemmas.{ended_law, exact_law, whole_law, goes_on_law, chunk_law, too_long_law, planned_over_law, to_close_law, over_to_close_law}
use Rattle.gp_body.proofs.law.body_law.Goals as goal

pub returns : goal.returns
returns c = record {
  ended = ended_law;
  exact = exact_law;
  whole = whole_law;
  goes_on = goes_on_law;
  to_close = to_close_law;
  over_to_close = over_to_close_law;
  chunk = chunk_law;
  too_long = too_long_law;
  planned_over = planned_over_law;
}
