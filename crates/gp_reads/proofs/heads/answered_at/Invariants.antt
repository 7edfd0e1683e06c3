use Rattle.std.proofs.Common.{◌≡◌, take}
use Rattle.gp_head.specs.Scans.{scan_of}
use Rattle.gp_reads.proofs.heads.answered_at.Given as goal

abbrev pub invariant-loop-place : goal.invariant-loop-place
invariant-loop-place l = l.scan ≡ scan_of (take l.place l.bytes)
