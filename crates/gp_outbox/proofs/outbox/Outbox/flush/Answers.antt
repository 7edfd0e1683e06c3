use Rattle.std.proofs.Common.{◌++◌, ◌∙◌, arith}
use Rattle.gp_outbox.specs.Segments.{joined}
use Rattle.gp_outbox.proofs.Passing.{passed_more, some_wait, within_write}
use Rattle.gp_outbox.proofs.outbox.Outbox.flush.Goals as goal

pub loop-self-preserved-in-Took : goal.loop-self-preserved-in-Took
loop-self-preserved-in-Took g c =
    let b = c.loop-self.self-inside in
    record {
      within = within_write _ _ b.front c.bytes.result.now b.done c.in-Took.count c.bytes.ensures c.loop-self.invariant.within c.in-Took.ensures;
      passed = passed_more _ _ _ _ b.front (joined b.behind.items ++ b.last.items) c.bytes.result.now b.done c.in-Took.count c.bytes.ensures c.loop-self.invariant.passed c.in-Took.ensures;
      quiet = c.in-Took.ensures.faulted ∙ c.loop-self.invariant.quiet;
    }

pub returns-in-NotReady-clause-cause : goal.returns-in-NotReady-clause-cause
returns-in-NotReady-clause-cause g c =
    let b = c.loop-self.self-inside in (
      some_wait b.front (joined b.behind.items ++ b.last.items) b.done (omega (arith, c.if-self-len.true, c.len.ensures)),
      omega (arith, c.in-NotReady.ensures.moved.1, c.loop-self.invariant.passed.later.write_waits),
      c.in-NotReady.ensures.faulted ∙ c.loop-self.invariant.quiet,
    )

pub returns-in-Failed-clause-cause : goal.returns-in-Failed-clause-cause
returns-in-Failed-clause-cause g c =
    let b = c.loop-self.self-inside in (
      some_wait b.front (joined b.behind.items ++ b.last.items) b.done (omega (arith, c.if-self-len.true, c.len.ensures)),
      omega (arith, c.in-Failed.ensures.faulted, c.loop-self.invariant.quiet),
    )
