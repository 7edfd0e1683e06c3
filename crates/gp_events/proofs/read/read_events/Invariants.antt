use Rattle.std.proofs.Common.{length, ◌-◌}
use Rattle.gp_events.proofs.ReadLemmas.{ReadSoFar}
use Rattle.gp_events.proofs.read.read_events.Given as goal

abbrev pub invariant-loop-place : goal.invariant-loop-place
invariant-loop-place l = ReadSoFar l.bytes l.place l.events.items

abbrev pub decreases-loop-place : goal.decreases-loop-place
decreases-loop-place l = length l.bytes - l.place
