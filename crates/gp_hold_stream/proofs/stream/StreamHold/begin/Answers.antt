use Rattle.std.proofs.Common.{◌≡◌, ◌∷◌, ◌++◌, [], false, ap, ◌∙◌}
use Rattle.gp_plain.specs.declared.event.HoldKind.TheVariants.{Stream as StreamKind}
use Rattle.gp_plain.specs.declared.reply.Piece.TheVariants.{Opening}
use Rattle.gp_plain.specs.Pieces.{position_after}
use Rattle.gp_plain.specs.Holds.{followers}
use Rattle.gp_plain.specs.Growth.{no_growth, with_piece, with_pieces}
use Rattle.gp_hold_stream.specs.States.{stream_state}
use Rattle.gp_hold_stream.proofs.Streams.{begin_is}
use Rattle.gp_hold_stream.proofs.stream.StreamHold.begin.Goals as goal

pub returns : goal.returns
returns g c =
    let w = g.I.Tail.items c.args.window.now in
    let fs = followers StreamKind c.args.channel.now c.args.prev.now w in
    let p = c.new-pending.result.items in
    let run = c.follow.new.self in
    let is : run ≡ with_pieces [] no_growth (Opening c.args.opening.now ∷ fs) =
    c.in_ok-follow.ensures.0 ∙ ap (λ a. with_pieces p a fs) c.in_ok-add.ensures.ok.0 ∙ ap (λ b. with_pieces p (with_piece p b (Opening c.in_ok-copy.field-0)) fs) c.behind-run.ensures.0
    ∙ ap (λ o. with_pieces p (with_piece p no_growth (Opening o)) fs) c.in_ok-copy.ensures ∙ ap (λ q. with_pieces q (with_piece q no_growth (Opening c.args.opening.now)) fs) c.new-pending.ensures in
    let pieces = c.in_ok-reserve.ensures.same.0 in
    ap (λ ch. stream_state ch c.args.link c.append.new.self.items c.in_ok-position.position c.ended-ended.result c.wants-want.result false false 0) c.in_ok-copy-2.ensures
    ∙ begin_is c.args.opening.now c.args.channel.now c.args.prev.now c.args.link w run c.append.new.self.items c.in_ok-position.position c.ended-ended.result c.wants-want.result
    c.requires is (c.append.ensures ∙ ap (λ q. q ++ c.reserve.new.self.pieces) c.new-pending.ensures ∙ pieces) (c.in_ok-position.ensures ∙ ap (position_after c.args.prev.now) pieces)
    (c.ended-ended.ensures ∙ c.in_ok-reserve.ensures.same.1) c.wants-want.ensures
