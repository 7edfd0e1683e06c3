use Rattle.std.proofs.Common.{◌≡◌, arith, subst}
use Rattle.gp_session_recover.specs.Polls.{Running}
use Rattle.gp_session_recover.specs.Rows.{sides}
use Rattle.gp_session_recover.proofs.Stepped.{ready_on, runs_halted, why_busy, why_idle, why_sixteen, why_unsent}
use Rattle.gp_session_recover.proofs.Turned.{running_again, running_none}
use Rattle.gp_session_recover.specs.declared.polling.StreamPolled.TheVariants as polled
use Rattle.gp_session_recover.proofs.recovering.Recovering.run.Goals as goal

pub loop-count-init : goal.loop-count-init
loop-count-init g c = running_none c.args.signer.now c.args.now (sides c.args.self.now c.args.wire.now c.args.line.now c.args.seat.now) c.requires.streams

pub step-requires : goal.step-requires
step-requires g c = ready_on c.args.signer.now c.args.now (sides c.args.self.now c.args.wire.now c.args.line.now c.args.seat.now) (sides c.loop-count.self c.loop-count.wire c.loop-count.line c.loop-count.seat) c.requires c.loop-count.invariant.stays

pub returns-in-Idle : goal.returns-in-Idle
returns-in-Idle g c = why_idle c.args.signer.now c.args.now c.loop-count._count (sides c.args.self.now c.args.wire.now c.args.line.now c.args.seat.now) (sides c.loop-count.self c.loop-count.wire c.loop-count.line c.loop-count.seat) (sides c.step.new.self c.step.new.wire c.step.new.line c.step.new.seat) c.loop-count.invariant c.in-Idle.ensures

pub returns-in-Unsent : goal.returns-in-Unsent
returns-in-Unsent g c = why_unsent c.args.signer.now c.args.now c.loop-count._count (sides c.args.self.now c.args.wire.now c.args.line.now c.args.seat.now) (sides c.loop-count.self c.loop-count.wire c.loop-count.line c.loop-count.seat) (sides c.step.new.self c.step.new.wire c.step.new.line c.step.new.seat) c.loop-count.invariant c.in-Unsent.ensures

pub returns-in-Busy : goal.returns-in-Busy
returns-in-Busy g c = why_busy c.args.signer.now c.args.now c.loop-count._count (sides c.args.self.now c.args.wire.now c.args.line.now c.args.seat.now) (sides c.loop-count.self c.loop-count.wire c.loop-count.line c.loop-count.seat) (sides c.step.new.self c.step.new.wire c.step.new.line c.step.new.seat) c.loop-count.invariant c.in-Busy.ensures.0 c.in-Busy.ensures.1

pub returns-in-Ends : goal.returns-in-Ends
returns-in-Ends g c = runs_halted c.args.signer.now c.args.now c.loop-count._count (sides c.args.self.now c.args.wire.now c.args.line.now c.args.seat.now) (sides c.loop-count.self c.loop-count.wire c.loop-count.line c.loop-count.seat) (sides c.step.new.self c.step.new.wire c.step.new.line c.step.new.seat) c.in-Ends.answer c.loop-count.invariant c.in-Ends.ensures

pub loop-count-preserved : goal.loop-count-preserved
loop-count-preserved g c = running_again c.args.signer.now c.args.now (sides c.args.self.now c.args.wire.now c.args.line.now c.args.seat.now) (sides c.loop-count.self c.loop-count.wire c.loop-count.line c.loop-count.seat) (sides c.step.new.self c.step.new.wire c.step.new.line c.step.new.seat) c.loop-count._count c.loop-count.invariant c.in-More.ensures

pub settle-requires : goal.settle-requires
settle-requires g c = (c.args.signer.now, c.loop-count.wire, ready_on c.args.signer.now c.args.now (sides c.args.self.now c.args.wire.now c.args.line.now c.args.seat.now) (sides c.loop-count.self c.loop-count.wire c.loop-count.line c.loop-count.seat) c.requires c.loop-count.invariant.stays)

pub returns-in-Goes : goal.returns-in-Goes
returns-in-Goes g c =
    let low = c.loop-count-test.false in
    let high = c.loop-count.auto._count-end in
    let all : c.loop-count._count ≡ 16 = omega (arith, low, high) in
    let settles = c.in-Goes.ensures c.args.signer.now c.loop-count.wire c.args.now (ready_on c.args.signer.now c.args.now (sides c.args.self.now c.args.wire.now c.args.line.now c.args.seat.now) (sides c.loop-count.self c.loop-count.wire c.loop-count.line c.loop-count.seat) c.requires c.loop-count.invariant.stays) in
    why_sixteen c.args.signer.now c.args.now (sides c.args.self.now c.args.wire.now c.args.line.now c.args.seat.now) (sides c.loop-count.self c.loop-count.wire c.loop-count.line c.loop-count.seat) (sides c.settle.new.self c.loop-count.wire c.settle.new.line c.settle.new.seat) (subst (Running c.args.signer.now c.args.now (sides c.args.self.now c.args.wire.now c.args.line.now c.args.seat.now) (sides c.loop-count.self c.loop-count.wire c.loop-count.line c.loop-count.seat)) all c.loop-count.invariant) settles.0 settles.1

pub returns-in-Busy-settle : goal.returns-in-Busy-settle
returns-in-Busy-settle g c =
    let settles = c.in-Busy-settle.ensures c.args.signer.now c.loop-count.wire c.args.now (ready_on c.args.signer.now c.args.now (sides c.args.self.now c.args.wire.now c.args.line.now c.args.seat.now) (sides c.loop-count.self c.loop-count.wire c.loop-count.line c.loop-count.seat) c.requires c.loop-count.invariant.stays) in
    why_busy c.args.signer.now c.args.now c.loop-count._count (sides c.args.self.now c.args.wire.now c.args.line.now c.args.seat.now) (sides c.loop-count.self c.loop-count.wire c.loop-count.line c.loop-count.seat) (sides c.settle.new.self c.loop-count.wire c.settle.new.line c.settle.new.seat) c.loop-count.invariant settles.0 settles.1

pub returns-in-Worn : goal.returns-in-Worn
returns-in-Worn g c = runs_halted c.args.signer.now c.args.now c.loop-count._count (sides c.args.self.now c.args.wire.now c.args.line.now c.args.seat.now) (sides c.loop-count.self c.loop-count.wire c.loop-count.line c.loop-count.seat) (sides c.settle.new.self c.loop-count.wire c.settle.new.line c.settle.new.seat) polled.Worn c.loop-count.invariant (c.in-Worn.ensures c.args.signer.now c.loop-count.wire c.args.now (ready_on c.args.signer.now c.args.now (sides c.args.self.now c.args.wire.now c.args.line.now c.args.seat.now) (sides c.loop-count.self c.loop-count.wire c.loop-count.line c.loop-count.seat) c.requires c.loop-count.invariant.stays))

pub returns-in-NoMemory : goal.returns-in-NoMemory
returns-in-NoMemory g c = runs_halted c.args.signer.now c.args.now c.loop-count._count (sides c.args.self.now c.args.wire.now c.args.line.now c.args.seat.now) (sides c.loop-count.self c.loop-count.wire c.loop-count.line c.loop-count.seat) (sides c.settle.new.self c.loop-count.wire c.settle.new.line c.settle.new.seat) polled.NoMemory c.loop-count.invariant (c.in-NoMemory.ensures c.args.signer.now c.loop-count.wire c.args.now (ready_on c.args.signer.now c.args.now (sides c.args.self.now c.args.wire.now c.args.line.now c.args.seat.now) (sides c.loop-count.self c.loop-count.wire c.loop-count.line c.loop-count.seat) c.requires c.loop-count.invariant.stays))
