use Rattle.std.proofs.Common.{◌≡◌}
use Rattle.gp_visits.proofs.case.Case.play_publisher.Given as goal

abbrev pub invariant-loop-visit : goal.invariant-loop-visit
invariant-loop-visit l = l.first.turn ≡ l.hub
