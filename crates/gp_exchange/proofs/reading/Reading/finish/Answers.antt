use Rattle.gp_exchange.proofs.Bodies.{finished, cut_off}
use Rattle.gp_exchange.proofs.reading.Reading.finish.Goals as goal
use Rattle.gp_exchange.proofs.reading.Reading.finish.Goals.{in-Ok, in-Err}

pub returns-clause-ends : goal.returns-clause-ends
returns-clause-ends c = λ asked content received reads. elim c.match-finish.branch [
  | in-Ok w ↦ rw w.last-is (finished asked c.args.self.head.value c.args.self.reader content received reads (w.in-Ok.ensures.at reads.gave.plan asked.limit _ reads.reading))
  | in-Err w ↦ rw w.last-is (cut_off asked c.args.self.head.value c.args.self.reader content received w.in-Err.fault reads (w.in-Err.ensures.at reads.gave.plan asked.limit _ reads.reading))
]
