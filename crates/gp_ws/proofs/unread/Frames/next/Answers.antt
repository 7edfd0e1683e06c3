use Rattle.gp_ws.proofs.FoundLemmas.{part_found, whole_found, not_whole_found, bad_found, end_found}
use Rattle.gp_ws.proofs.unread.Frames.next.Goals as goal

pub loop-self-preserved : goal.loop-self-preserved
loop-self-preserved c =
    part_found c.args.self.now c.loop-self.self c.read.new.self c.in-Part.field-0 c.loop-self.invariant c.in-Part.ensures.read c.in-Part.ensures.used

pub returns-in-Whole-clause-next : goal.returns-in-Whole-clause-next
returns-in-Whole-clause-next c =
    whole_found c.args.self.now c.loop-self.self c.read.new.self c.in-Whole.field-0 c.in-Whole.message c.loop-self.invariant c.loop-self-test.ensures c.in-Whole.ensures.read c.in-Whole.ensures.used

pub returns-in-NotWhole-clause-next : goal.returns-in-NotWhole-clause-next
returns-in-NotWhole-clause-next c =
    not_whole_found c.args.self.now c.loop-self.self c.read.new.self c.loop-self.invariant c.loop-self-test.ensures c.in-NotWhole.ensures.read c.in-NotWhole.ensures.used

pub returns-in-Bad-clause-next : goal.returns-in-Bad-clause-next
returns-in-Bad-clause-next c = bad_found c.args.self.now c.loop-self.self c.read.new.self c.loop-self.invariant c.loop-self-test.ensures c.in-Bad.ensures.read

pub returns-clause-next : goal.returns-clause-next
returns-clause-next c = end_found c.args.self.now c.loop-self.self c.loop-self.invariant c.loop-self-test.ensures
