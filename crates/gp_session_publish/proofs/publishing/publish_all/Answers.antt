use Rattle.std.proofs.Common.{◌++◌}
use Rattle.std.specs.Prelude.{option_to_list}
use Rattle.gp_session_publish.proofs.Taking.{begins_all, goes_on_all, busy_all, worn_all, no_memory_all, done_all}
use Rattle.gp_session_publish.proofs.publishing.publish_all.Goals as goal

pub loop-next-init : goal.loop-next-init
loop-next-init c = begins_all c.args.seat.now (option_to_list c.args.first ++ c.args.items.now) c.take_next-next.result c.take_next-next.new.items c.args.published.now c.requires.fit c.requires.few c.take_next-next.ensures.left c.take_next-next.ensures.none

pub loop-next-preserved : goal.loop-next-preserved
loop-next-preserved c = goes_on_all c.args.seat.now c.loop-next.seat c.publish.new.self _ c.loop-next.items c.loop-next.next c.in-Some.item c.args.published.now c.loop-next.published c.loop-next.invariant c.in-Some.is c.publish.ensures.moved c.publish.ensures.row
    c.take_next-next-in-Stands.result c.take_next-next-in-Stands.new.items c.in-Stands.ensures.published c.in-Stands.ensures.finds c.take_next-next-in-Stands.ensures.left c.take_next-next-in-Stands.ensures.none

pub returns-in-Busy : goal.returns-in-Busy
returns-in-Busy c = busy_all c.args.seat.now c.loop-next.seat c.publish.new.self _ c.loop-next.items c.loop-next.next c.in-Some.item c.args.published.now c.loop-next.published c.loop-next.invariant c.in-Some.is c.publish.ensures.moved c.publish.ensures.row
    c.in-Busy.item c.in-Busy.ensures.published c.in-Busy.ensures.finds

pub returns-in-Worn : goal.returns-in-Worn
returns-in-Worn c = worn_all c.args.seat.now c.loop-next.seat c.publish.new.self _ c.loop-next.items c.loop-next.next c.in-Some.item c.args.published.now c.loop-next.published c.loop-next.invariant c.in-Some.is c.publish.ensures.moved c.publish.ensures.row
    c.in-Worn.ensures.published

pub returns-in-NoMemory : goal.returns-in-NoMemory
returns-in-NoMemory c = no_memory_all c.args.seat.now c.loop-next.seat c.publish.new.self _ c.loop-next.items c.loop-next.next c.in-Some.item c.args.published.now c.loop-next.published c.loop-next.invariant c.in-Some.is c.publish.ensures.moved c.publish.ensures.row
    c.in-NoMemory.ensures.published c.in-NoMemory.ensures.finds

pub returns : goal.returns
returns c = done_all c.args.seat.now c.loop-next.seat _ c.loop-next.items c.loop-next.next c.args.published.now c.loop-next.published c.loop-next.invariant c.in_default.is
