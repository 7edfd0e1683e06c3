use Rattle.std.proofs.Common.{length}
use Rattle.gp_session_hold.specs.Puts.{PutsSome}
use Rattle.gp_session_hold.proofs.sending.put_pieces.Given as goal

abbrev pub invariant-loop-piece : goal.invariant-loop-piece
invariant-loop-piece g l = PutsSome l.fn.wire l.wire l.chunked l.fn.hold l.hold l.fn.pieces l.left l.room

abbrev pub decreases-loop-piece : goal.decreases-loop-piece
decreases-loop-piece g l = length l.left
