use Rattle.std.proofs.Common.{◌≡◌, ◌-◌, ◌^◌, min, length, take}
use Rattle.gp_outbox.specs.Segments.{joined}
use Rattle.gp_outbox.proofs.outbox.bytes_in.Given as goal

abbrev pub invariant-loop-place : goal.invariant-loop-place
invariant-loop-place l = l.count ≡ min (length (joined (take l.place l.segments.items))) (2 ^ 64 - 1)
