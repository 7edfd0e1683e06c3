use Rattle.std.proofs.Common.{subst}
use Rattle.std.specs.Prelude.{Some}
use Rattle.gp_answer.specs.Frames.{last_chunk}
use Rattle.gp_session_hold.specs.Puts.{PutsNext}
use Rattle.gp_session_hold.proofs.Putting.{sends_open, sends_missing, sends_end, sends_part}
use Rattle.gp_session_hold.proofs.sending.send.Goals as goal

pub returns-in-None : goal.returns-in-None
returns-in-None g c =
    sends_missing c.args.wire.now c.put_pieces-room.new.wire c.args.chunked c.args.hold.now c.put_pieces-room.new.hold c.args.taken c.put_pieces-room.result c.in-Some-recover.from c.missing_of.result
    c.put_pieces-room.ensures.counts c.in-Some-recover.is c.in-None.is c.put_pieces-room.ensures.puts c.missing_of.ensures

pub returns-in-None-recover : goal.returns-in-None-recover
returns-in-None-recover g c =
    sends_open c.args.wire.now c.put_pieces-room.new.wire c.args.chunked c.args.hold.now c.put_pieces-room.new.hold c.args.taken c.is_empty-none.result c.put_pieces-room.result c.given_of.result
    c.put_pieces-room.ensures.counts c.is_empty-none.ensures c.in-None-recover.is c.in-None.is c.put_pieces-room.ensures.puts c.given_of.ensures

pub returns-then-put_end : goal.returns-then-put_end
returns-then-put_end g c =
    sends_end c.args.wire.now c.put_pieces-room.new.wire c.put_end.new.wire c.args.chunked c.args.hold.now c.put_pieces-room.new.hold c.args.taken c.put_pieces-room.result c.in-Some.cause
    c.put_pieces-room.ensures.counts c.in-Some.is c.put_pieces-room.ensures.puts
    (subst (PutsNext c.put_pieces-room.new.wire c.put_end.new.wire (last_chunk c.args.chunked (Some c.in-Some.cause)) c.put_pieces-room.result) c.if-put_end.true c.put_end.ensures)

pub returns : goal.returns
returns g c =
    sends_part c.args.wire.now c.put_pieces-room.new.wire c.put_end.new.wire c.args.chunked c.args.hold.now c.put_pieces-room.new.hold c.args.taken c.put_pieces-room.result c.in-Some.cause
    c.put_pieces-room.ensures.counts c.in-Some.is c.put_pieces-room.ensures.puts
    (subst (PutsNext c.put_pieces-room.new.wire c.put_end.new.wire (last_chunk c.args.chunked (Some c.in-Some.cause)) c.put_pieces-room.result) c.if-put_end.false c.put_end.ensures)
