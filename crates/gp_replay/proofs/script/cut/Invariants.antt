use Rattle.std.proofs.Common.{take}
use Rattle.gp_replay.specs.Scripts.{IsOneLine}
use Rattle.gp_replay.proofs.script.cut.Given as goal

abbrev pub invariant-loop-place : goal.invariant-loop-place
invariant-loop-place l = IsOneLine (take l.place l.bytes)
