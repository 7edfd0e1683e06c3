use Rattle.std.proofs.Common.{◌≡◌, length}
use Rattle.gp_shifts.proofs.run.kits.Given as goal

abbrev pub invariant-loop : goal.invariant-loop
invariant-loop l = length l.kits.items ≡ l.counter
