use Rattle.gp_session_recover.specs.Polls.{Running}
use Rattle.gp_session_recover.specs.Rows.{sides}
use Rattle.gp_session_recover.proofs.recovering.Recovering.run.Given as goal

abbrev pub invariant-loop-count : goal.invariant-loop-count
invariant-loop-count g l = Running l.signer l.now (sides l.fn.self l.fn.wire l.fn.line l.fn.seat) (sides l.self l.wire l.line l.seat) l._count
