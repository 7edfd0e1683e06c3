use Rattle.std.proofs.Common.{◌≡◌}
use Rattle.gp_hub.proofs.tests.publish_all.Given as goal

abbrev pub invariant-loop : goal.invariant-loop
invariant-loop l = (l.pass.turn ≡ l.initial.pass.turn) × (l.pass.parts ≡ l.initial.pass.parts)
