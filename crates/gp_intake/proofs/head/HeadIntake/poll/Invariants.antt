use Rattle.std.proofs.Common.{◌-◌, length}
use Rattle.gp_intake.specs.Polls.{HasReadHead}
use Rattle.gp_intake.proofs.head.HeadIntake.poll.Given as goal

abbrev pub invariant-loop-self : goal.invariant-loop-self
invariant-loop-self g l = HasReadHead (g.L.Link.tells l.fn.link) (g.L.Link.tells l.link) l.fn.self l.self

abbrev pub decreases-loop-self : goal.decreases-loop-self
decreases-loop-self g l = 16384 - length l.self
