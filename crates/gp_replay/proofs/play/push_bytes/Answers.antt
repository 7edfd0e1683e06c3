use Rattle.std.proofs.Common.{◌∙◌, ◌++◌, sym, ap, take, append_assoc, add-one, arith}
use Rattle.std.proofs.lemmas.List.{take_all}
use Rattle.gp_plain.specs.Pieces.{piece_bytes, text}
use Rattle.gp_replay.proofs.Lists.{flat_map_more}
use Rattle.gp_replay.proofs.play.push_bytes.Goals as goal

pub returns : goal.returns
returns c =
    c.loop-place.invariant ∙ ap (λ ps. c.args.bytes.now.items ++ text ps) (take_all c.loop-place.place c.args.pieces.now (omega (arith, c.len-place-end.ensures)))

pub loop-place-preserved : goal.loop-place-preserved
loop-place-preserved c =
    let pieces = c.args.pieces.now in
    let place = c.loop-place.place in
    let more = flat_map_more piece_bytes pieces place c.piece_at.result.now c.piece_at.ensures in
    c.in_ok-extend_from_slice.ensures.items
    ∙ ap (λ t. c.loop-place.bytes.items ++ t) c.bytes.ensures
    ∙ ap (λ o. o ++ piece_bytes c.piece_at.result.now) c.loop-place.invariant
    ∙ append_assoc c.args.bytes.now.items (text (take place pieces)) (piece_bytes c.piece_at.result.now)
    ∙ ap (λ t. c.args.bytes.now.items ++ t) (sym more)
    ∙ ap (λ n. c.args.bytes.now.items ++ text (take n pieces)) (sym (add-one place))
