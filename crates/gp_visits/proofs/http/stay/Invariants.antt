use Rattle.std.proofs.Common.{◌≡◌}
use Rattle.gp_session_http.specs.Polls.{HasEnded}
use Rattle.gp_visits.proofs.http.stay.Given as goal

abbrev pub invariant-loop-input : goal.invariant-loop-input
invariant-loop-input l = (l.first.turn ≡ l.hub) × (HasEnded l.session → ⊥)
