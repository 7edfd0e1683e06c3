use Rattle.std.proofs.Common.{subst, sym}
use Rattle.gp_session_hold.specs.Streams.{Delivers}
use Rattle.gp_session_hold.proofs.Turning.{flushed, gone, turned, unsent}
use Rattle.gp_session_hold.proofs.stream.Stream.turn.Goals as goal

pub take-requires : goal.take-requires
take-requires g c = (flushed c.args.self.now c.args.wire.now c.flush.new.self c.args.seat.now c.args.now c.requires c.in-Empty.ensures).streams

pub returns-in-Empty : goal.returns-in-Empty
returns-in-Empty g c =
    subst (Delivers c.args.self.now c.take.new.self c.args.wire.now c.take.new.wire c.args.seat.now c.take.new.seat c.args.now) (sym c.answer_of.ensures)
    (turned c.args.self.now c.args.wire.now c.flush.new.self c.args.seat.now c.args.now (flushed c.args.self.now c.args.wire.now c.flush.new.self c.args.seat.now c.args.now c.requires c.in-Empty.ensures)
    c.asking_law.ensures c.take.new.self c.take.new.wire c.take.new.seat c.take.result c.take.ensures)

pub returns-in-NotReady : goal.returns-in-NotReady
returns-in-NotReady g c = unsent c.args.self.now c.args.wire.now c.flush.new.self c.args.seat.now c.args.now c.requires c.in-NotReady.ensures

pub returns-in-Failed : goal.returns-in-Failed
returns-in-Failed g c = gone c.args.self.now c.args.wire.now c.flush.new.self c.args.seat.now c.args.now c.requires c.in-Failed.ensures
