use Rattle.std.proofs.Common.{◌≡◌, ◌++◌, length}
use Rattle.gp_replay.proofs.logs.append.Given as goal

abbrev pub invariant-loop-piece : goal.invariant-loop-piece
invariant-loop-piece l = l.to ++ l.more ≡ l.initial.to ++ l.initial.more

abbrev pub decreases-loop-piece : goal.decreases-loop-piece
decreases-loop-piece l = length l.more
