use Rattle.std.proofs.Common.{◌≡◌, drop}
use Rattle.gp_instruct.specs.Links.{scanned, scanned_from}
use Rattle.gp_instruct.proofs.scan.find_next.Given as goal

abbrev pub invariant-loop-place : goal.invariant-loop-place
invariant-loop-place l = scanned_from l.value l.place l.scan (drop l.place l.value) ≡ scanned l.value
