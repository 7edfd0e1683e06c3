use Rattle.std.proofs.Common.{length, ◌-◌, ◌≡◌, ◌≤◌, take}
use Rattle.gp_outside.specs.Counts.{grown}
use Rattle.gp_outside.proofs.send.write_all.Given as goal

abbrev pub invariant-loop-done : goal.invariant-loop-done
invariant-loop-done g l = record {
  within : l.done ≤ length l.bytes;
  quiet : (g.O.Out.tells l.out).faults ≡ (g.O.Out.tells l.initial.out).faults;
  told : (g.O.Out.tells l.out).written ≡ grown (g.O.Out.tells l.initial.out).written (take l.done l.bytes);
}

abbrev pub decreases-loop-done : goal.decreases-loop-done
decreases-loop-done g l = length l.bytes - l.done
