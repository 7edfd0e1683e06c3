use Rattle.std.proofs.Common.{◌≡◌}
use Rattle.gp_intake.specs.Bodies.{bytes_left}
use Rattle.gp_intake.specs.Polls.{HasReadBody}
use Rattle.gp_intake.proofs.body.BodyIntake.poll.Given as goal

abbrev pub invariant-loop-fault : goal.invariant-loop-fault
invariant-loop-fault g l = record {
  head : l.self.head ≡ l.fn.self.head;
  path : l.self.path ≡ l.fn.self.path;
  reads : HasReadBody (g.L.Link.tells l.fn.link) (g.L.Link.tells l.link) l.fn.self.body l.self.body;
}

abbrev pub decreases-loop-fault : goal.decreases-loop-fault
decreases-loop-fault g l = bytes_left l.self.body.reading
