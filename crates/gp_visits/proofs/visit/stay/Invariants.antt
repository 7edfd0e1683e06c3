use Rattle.gp_session_publish.specs.Polls.{HasEnded}
use Rattle.gp_visits.proofs.visit.stay.Given as goal

abbrev pub invariant-loop-poll : goal.invariant-loop-poll
invariant-loop-poll l = HasEnded l.session → ⊥
