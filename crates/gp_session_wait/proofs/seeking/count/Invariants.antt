use Rattle.std.proofs.Common.{length}
use Rattle.gp_session_wait.specs.Seeks.{CountsSome}
use Rattle.gp_session_wait.proofs.seeking.count.Given as goal

abbrev pub invariant-loop-piece : goal.invariant-loop-piece
invariant-loop-piece l = CountsSome l.fn.hold l.hold l.fn.pieces l.left l.answer

abbrev pub decreases-loop-piece : goal.decreases-loop-piece
decreases-loop-piece l = length l.left
