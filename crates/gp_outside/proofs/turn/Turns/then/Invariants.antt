use Rattle.std.proofs.Common.{◌≡◌}
use Rattle.std.specs.Prelude.{replicate}
use Rattle.gp_outside.specs.declared.turn.Turn.TheVariants.{Bytes}
use Rattle.gp_outside.proofs.turn.Turns.then.Given as goal

abbrev pub invariant-loop : goal.invariant-loop
invariant-loop l = l.turns.items ≡ replicate l.counter (Bytes 65536)
