use Rattle.gp_session_wait.proofs.Counting.{can_end, gives_end}
use Rattle.gp_session_wait.proofs.seeking.counted.Goals as goal

pub end_by-requires : goal.end_by-requires
end_by-requires c = can_end c.args.taken c.in-Some.cause c.count-answer.result c.requires c.in-Some.is c.count-answer.ensures.answer

pub returns-in-Some : goal.returns-in-Some
returns-in-Some c =
    gives_end c.args.hold.now c.count-answer.new.hold c.args.taken c.in-Some.cause c.count-answer.result c.end_by.result c.requires c.in-Some.is c.count-answer.ensures.counts c.count-answer.ensures.answer c.end_by.ensures
