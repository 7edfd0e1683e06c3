use Rattle.gp_session_recover.specs.Rows.{sides}
use Rattle.gp_session_recover.proofs.Stepped.{ready_on, stepped_by}
use Rattle.gp_session_recover.proofs.recovering.Recovering.step.Goals as goal

pub turn-requires : goal.turn-requires
turn-requires g c = ready_on c.args.signer.now c.args.now (sides c.args.self.now c.args.wire.now c.args.line.now c.args.seat.now) (sides c.settle.new.self c.args.wire.now c.settle.new.line c.settle.new.seat) c.requires (c.in-Goes.ensures c.args.signer.now c.args.wire.now c.args.now c.requires).0

pub returns-in-Goes : goal.returns-in-Goes
returns-in-Goes g c =
    let settles = c.in-Goes.ensures c.args.signer.now c.args.wire.now c.args.now c.requires in
    stepped_by c.args.signer.now c.args.now (sides c.args.self.now c.args.wire.now c.args.line.now c.args.seat.now) (sides c.settle.new.self c.args.wire.now c.settle.new.line c.settle.new.seat) (sides c.turn.new.self c.turn.new.wire c.turn.new.line c.turn.new.seat) c.turn.result settles.0 settles.1 c.turn.ensures

pub returns-in-Busy : goal.returns-in-Busy
returns-in-Busy g c = c.in-Busy.ensures c.args.signer.now c.args.wire.now c.args.now c.requires
