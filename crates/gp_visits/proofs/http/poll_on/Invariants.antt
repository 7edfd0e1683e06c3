use Rattle.gp_session_http.specs.Polls.{HasEnded}
use Rattle.gp_visits.proofs.http.poll_on.Given as goal

abbrev pub invariant-loop-poll : goal.invariant-loop-poll
invariant-loop-poll g l = HasEnded l.session → ⊥
