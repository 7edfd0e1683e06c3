use Rattle.gp_session.specs.Hearing.{HasHeard}
use Rattle.gp_session.proofs.hearing.hear.Given as goal

abbrev pub invariant-loop-left : goal.invariant-loop-left
invariant-loop-left g l = HasHeard (g.L.Link.tells l.fn.link) (g.L.Link.tells l.link) l.left

abbrev pub decreases-loop-left : goal.decreases-loop-left
decreases-loop-left g l = l.left
