use Rattle.gp_session_wait.specs.Seeks.{Seeking}
use Rattle.gp_session_wait.proofs.seeking.LongPoll.seek.Given as goal

abbrev pub invariant-loop-count : goal.invariant-loop-count
invariant-loop-count l = Seeking l.fn.self l.self l.fn.seat l.seat l.now l.count
