use Rattle.std.proofs.Common.{string_bytes, ◌∙◌, ◌++◌, sym, ap, take, append_assoc, add-one, arith}
use Rattle.std.specs.List.{flat_map}
use Rattle.std.proofs.lemmas.List.{take_all}
use Rattle.gp_script.specs.Texts.{piece_text}
use Rattle.gp_replay.proofs.Lists.{flat_map_more}
use Rattle.gp_replay.proofs.play.push_pieces.Goals as goal

pub returns : goal.returns
returns c =
    c.loop-place.invariant ∙ ap (λ ps. string_bytes c.args.out.now ++ flat_map piece_text ps) (take_all c.loop-place.place c.args.pieces.now (omega (arith, c.len-place-end.ensures)))

pub loop-place-preserved : goal.loop-place-preserved
loop-place-preserved c =
    let pieces = c.args.pieces.now in
    let place = c.loop-place.place in
    let more = flat_map_more piece_text pieces place c.piece_at.result.now c.piece_at.ensures in
    c.in_ok-add_piece.ensures.ok
    ∙ ap (λ o. o ++ piece_text c.piece_at.result.now) c.loop-place.invariant
    ∙ append_assoc (string_bytes c.args.out.now) (flat_map piece_text (take place pieces)) (piece_text c.piece_at.result.now)
    ∙ ap (λ t. string_bytes c.args.out.now ++ t) (sym more)
    ∙ ap (λ n. string_bytes c.args.out.now ++ flat_map piece_text (take n pieces)) (sym (add-one place))
