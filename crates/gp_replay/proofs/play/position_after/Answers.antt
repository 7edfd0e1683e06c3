use Rattle.std.proofs.Common.{◌∙◌, sym, ap, take, add-one, arith}
use Rattle.std.proofs.lemmas.List.{take_all}
use Rattle.gp_plain.specs.Pieces.{moved, position_after}
use Rattle.gp_replay.proofs.Lists.{position_more}
use Rattle.gp_replay.proofs.play.position_after.Goals as goal

pub returns : goal.returns
returns c =
    c.loop-place.invariant ∙ ap (λ ps. position_after c.args.start.now ps) (take_all c.loop-place.place c.args.pieces.now (omega (arith, c.len-place-end.ensures)))

pub loop-place-preserved : goal.loop-place-preserved
loop-place-preserved c =
    let pieces = c.args.pieces.now in
    let place = c.loop-place.place in
    c.moved_by-position.ensures
    ∙ ap (λ p. moved p c.piece_at.result.now) c.loop-place.invariant
    ∙ sym (position_more c.args.start.now pieces place c.piece_at.result.now c.piece_at.ensures)
    ∙ ap (λ n. position_after c.args.start.now (take n pieces)) (sym (add-one place))
