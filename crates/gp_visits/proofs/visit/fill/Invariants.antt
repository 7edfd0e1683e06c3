use Rattle.std.proofs.Common.{◌≡◌}
use Rattle.gp_visits.proofs.visit.fill.Given as goal

abbrev pub invariant-loop-hold : goal.invariant-loop-hold
invariant-loop-hold l = l.first.turn ≡ l.hub
