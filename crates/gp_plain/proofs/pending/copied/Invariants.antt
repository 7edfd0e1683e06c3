use Rattle.std.proofs.Common.{◌≡◌, take}
use Rattle.gp_plain.proofs.pending.copied.Given as goal

abbrev pub invariant-loop-place : goal.invariant-loop-place
invariant-loop-place l = l.copy.items ≡ take l.place l.pieces.items
