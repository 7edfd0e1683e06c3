use Rattle.std.proofs.Common.{◌≡◌, ◌++◌, take}
use Rattle.gp_plain.specs.Pieces.{text}
use Rattle.gp_replay.proofs.play.push_bytes.Given as goal

abbrev pub invariant-loop-place : goal.invariant-loop-place
invariant-loop-place l = l.bytes.items ≡ l.initial.bytes.items ++ text (take l.place l.pieces)
