use Rattle.gp_session.specs.declared.hearing.Heard.TheVariants as heard
use Rattle.gp_session_recover.specs.Rows.{sides}
use Rattle.gp_session_recover.proofs.Polled.{gone_heard, polled_by, ready_heard, went_much, went_quiet}
use Rattle.gp_session_recover.proofs.Stepped.{live_ready}
use Rattle.gp_session_recover.proofs.recovering.Recovering.poll.Goals as goal

pub close-requires : goal.close-requires
close-requires g c = live_ready c.args.signer.now (sides c.args.self.now c.args.wire.now c.args.line.now c.args.seat.now) c.requires

pub returns-in-Gone : goal.returns-in-Gone
returns-in-Gone g c =
    gone_heard c.args.signer.now c.args.now (sides c.args.self.now c.args.wire.now c.args.line.now c.args.seat.now) c.hear.new.self c.close.new.self c.close.new.line c.in-Gone.ensures c.requires c.close.ensures

pub run-requires : goal.run-requires
run-requires g c = ready_heard c.args.signer.now (sides c.args.self.now c.args.wire.now c.args.line.now c.args.seat.now) c.hear.new.self heard.NotReady c.in-NotReady.ensures c.requires

pub run-requires-in-Much : goal.run-requires-in-Much
run-requires-in-Much g c = ready_heard c.args.signer.now (sides c.args.self.now c.args.wire.now c.args.line.now c.args.seat.now) c.hear.new.self heard.Much c.in-Much.ensures c.requires

pub returns-in-NotReady : goal.returns-in-NotReady
returns-in-NotReady g c =
    polled_by c.args.signer.now c.args.now (sides c.args.self.now c.args.wire.now c.args.line.now c.args.seat.now) (sides c.run.new.self c.run.new.wire c.run.new.line c.run.new.seat) c.hear.new.self heard.NotReady c.in-NotReady.ensures
    (went_quiet c.args.wire.now c.hear.new.self c.in-NotReady.ensures) c.run.result c.run.ensures

pub returns-in-Much : goal.returns-in-Much
returns-in-Much g c =
    polled_by c.args.signer.now c.args.now (sides c.args.self.now c.args.wire.now c.args.line.now c.args.seat.now) (sides c.run-in-Much.new.self c.run-in-Much.new.wire c.run-in-Much.new.line c.run-in-Much.new.seat) c.hear.new.self heard.Much c.in-Much.ensures
    (went_much c.args.wire.now c.hear.new.self c.in-Much.ensures) c.run-in-Much.result c.run-in-Much.ensures
