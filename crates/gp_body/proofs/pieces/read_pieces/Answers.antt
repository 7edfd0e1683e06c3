use Rattle.std.proofs.Common.{ap, ◌∙◌}
use Rattle.std.proofs.lemmas.List.{take_all}
use Rattle.gp_body.specs.declared.reading.Reading.{Reading}
use Rattle.gp_body.specs.Steps.{is_end}
use Rattle.gp_body.specs.Readings.{content_from}
use Rattle.gp_body.specs.Wholes.{content_of}
use Rattle.gp_body.proofs.PieceLemmas.{reads_more, gives_more}
use Rattle.gp_body.proofs.pieces.read_pieces.Goals as goal

pub loop-piece-init : goal.loop-piece-init
unfolding content_of content_from
loop-piece-init c = record { reading = c.new-reader.ensures; content = c.new-content.ensures.items }

pub loop-piece-preserved : goal.loop-piece-preserved
loop-piece-preserved c =
    let fed = rw c.bytes.ensures at c.in_ok-feed_piece.ensures in
    record {
      reading = reads_more c.args.plan c.args.limit c.args.pieces.now c.loop-piece.piece-index c.piece-item.result c.loop-piece-test.true c.piece-item.is c.loop-piece.reader c.feed_piece.new.reader c.loop-piece.invariant.reading fed.0;
      content = gives_more c.args.plan c.args.limit c.args.pieces.now c.loop-piece.piece-index c.piece-item.result c.loop-piece-test.true c.piece-item.is c.loop-piece.reader c.loop-piece.content.items c.feed_piece.new.content.items c.loop-piece.invariant.reading c.loop-piece.invariant.content fed.1;
    }

pub returns : goal.returns
returns c =
    let whole = take_all c.loop-piece.piece-index c.args.pieces.now c.loop-piece-test.false in
    let reads = rw whole at c.loop-piece.invariant.reading in
    let gives = rw whole at c.loop-piece.invariant.content in
    record {
      content = c.from_vec.ensures ∙ gives;
      end = c.is_end.ensures ∙ ap (λ (r : Reading). is_end r.state) reads;
      refused = c.refusal.ensures ∙ ap (λ (r : Reading). r.refused) reads;
    }
