use Rattle.std.proofs.Common.{length}
use Rattle.gp_ws.proofs.FoundLemmas.{FoundSoFar}
use Rattle.gp_ws.proofs.unread.Frames.next.Given as goal

abbrev pub invariant-loop-self : goal.invariant-loop-self
invariant-loop-self l = FoundSoFar l.initial.self l.self

abbrev pub decreases-loop-self : goal.decreases-loop-self
decreases-loop-self l = length l.self.waiting
