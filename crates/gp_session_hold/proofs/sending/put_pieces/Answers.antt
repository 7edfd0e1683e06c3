use Rattle.std.proofs.Common.{ap, ◌∙◌}
use Rattle.gp_session_hold.specs.Puts.{payload_bytes}
use Rattle.gp_session_hold.proofs.Putting.{payload_is, some_goes}
use Rattle.gp_session_hold.proofs.sending.put_pieces.Goals as goal

pub loop-piece-preserved : goal.loop-piece-preserved
loop-piece-preserved g c =
    some_goes c.args.wire.now c.loop-piece.wire c.put_next-room.new.wire c.args.chunked c.args.hold.now c.loop-piece.hold c.add.new.self c.args.pieces c.loop-piece.left c.take_first.new.self c.loop-piece.room c.put_next-room.result
    c.in-Some.piece c.bytes_of-bytes.result c.loop-piece.invariant c.in-Some.ensures.first c.take_first.ensures.left c.add.ensures.counts
    (c.bytes_of-bytes.ensures ∙ ap payload_bytes c.add.ensures.gives ∙ payload_is c.in-Some.piece) c.put_next-room.ensures
