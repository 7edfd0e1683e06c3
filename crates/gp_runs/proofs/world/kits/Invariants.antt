use Rattle.std.specs.List.{All}
use Rattle.gp_outside.specs.MemWorlds.{IsUnusedMemKit}
use Rattle.gp_runs.proofs.world.kits.Given as goal

abbrev pub invariant-loop-one : goal.invariant-loop-one
invariant-loop-one l = All IsUnusedMemKit l.kits.items
