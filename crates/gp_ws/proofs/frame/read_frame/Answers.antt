use Rattle.gp_ws.proofs.FrameLemmas.{taken_left}
use Rattle.gp_ws.proofs.frame.read_frame.Goals as goal

pub returns-in-Ok-Complete-clause-left : goal.returns-in-Ok-Complete-clause-left
returns-in-Ok-Complete-clause-left c =
    taken_left c.args.end.now c.read.new.self c.args.bytes.now c.read.new.input _ _ c.in-Ok-Complete.field-0 c.in-Ok-Complete.step _ c.taken.result
    c.in-Ok-Complete.field-0-is c.in-Ok-Complete.ensures.returns
    c.in-Ok-Complete.ensures.leaves c.in-Ok-Complete.ensures.keeps_rest c.taken.ensures.framed
