use Rattle.std.specs.List.{All}
use Rattle.gp_outside.specs.MemDials.{DialState, told_dial}
use Rattle.gp_outside.specs.Unused.{IsUnusedDial}
use Rattle.gp_runs.proofs.world.dials.Given as goal

abbrev pub invariant-loop-answer : goal.invariant-loop-answer
invariant-loop-answer l = All (λ (dial : DialState). IsUnusedDial (told_dial dial)) l.dials.items
