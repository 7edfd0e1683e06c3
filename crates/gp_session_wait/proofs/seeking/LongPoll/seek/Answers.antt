use Rattle.gp_session_wait.proofs.Taking.{seeking_none, turned_pieces, turned_nothing, turned_ended, turned_busy, turned_worn, turned_wanting}
use Rattle.gp_session_wait.proofs.seeking.LongPoll.seek.Goals as goal

pub loop-count-init : goal.loop-count-init
loop-count-init c = seeking_none c.args.self.now c.args.seat.now c.args.now c.requires

pub turn-requires : goal.turn-requires
turn-requires c = c.loop-count.invariant.polls

pub returns-in-Gave-Nothing : goal.returns-in-Gave-Nothing
returns-in-Gave-Nothing c = turned_nothing c.args.self.now c.loop-count.self c.args.seat.now c.loop-count.seat c.args.now c.loop-count.count c.loop-count.invariant c.turn.new.self c.turn.new.seat (rw c.in-Gave-Nothing.field-0-is at c.in-Gave-Nothing.ensures)

pub returns-in-Gave-Ended : goal.returns-in-Gave-Ended
returns-in-Gave-Ended c = turned_ended c.args.self.now c.loop-count.self c.args.seat.now c.loop-count.seat c.args.now c.loop-count.count c.loop-count.invariant c.turn.new.self c.turn.new.seat c.in-Gave-Ended.end (rw c.in-Gave-Ended.field-0-is at c.in-Gave-Ended.ensures)

pub returns-in-Busy : goal.returns-in-Busy
returns-in-Busy c = turned_busy c.args.self.now c.loop-count.self c.args.seat.now c.loop-count.seat c.args.now c.loop-count.count c.loop-count.invariant c.turn.new.self c.turn.new.seat c.in-Busy.ensures

pub returns-in-Worn : goal.returns-in-Worn
returns-in-Worn c = turned_worn c.args.self.now c.loop-count.self c.args.seat.now c.loop-count.seat c.args.now c.loop-count.count c.loop-count.invariant c.turn.new.self c.turn.new.seat c.in-Worn.ensures

pub returns-in-NoMemory : goal.returns-in-NoMemory
returns-in-NoMemory c = turned_wanting c.args.self.now c.loop-count.self c.args.seat.now c.loop-count.seat c.args.now c.loop-count.count c.loop-count.invariant c.turn.new.self c.turn.new.seat c.in-NoMemory.ensures

pub loop-count-preserved : goal.loop-count-preserved
loop-count-preserved c = turned_pieces c.args.self.now c.loop-count.self c.args.seat.now c.loop-count.seat c.args.now c.loop-count.count c.loop-count.invariant c.turn.new.self c.turn.new.seat (rw c.in-Gave-Pieces.field-0-is at c.in-Gave-Pieces.ensures)
