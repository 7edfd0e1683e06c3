use Rattle.std.proofs.Common.{◌≡◌, take}
use Rattle.gp_plain.specs.Pieces.{position_after}
use Rattle.gp_replay.proofs.play.position_after.Given as goal

abbrev pub invariant-loop-place : goal.invariant-loop-place
invariant-loop-place l = l.position ≡ position_after l.start (take l.place l.pieces)
