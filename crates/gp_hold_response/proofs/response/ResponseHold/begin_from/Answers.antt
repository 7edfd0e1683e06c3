use Rattle.std.proofs.Common.{◌≡◌, ◌∷◌, ◌++◌, [], ap, ◌∙◌}
use Rattle.gp_plain.specs.declared.event.HoldKind.TheVariants.{Response as ResponseKind}
use Rattle.gp_plain.specs.Pieces.{position_after}
use Rattle.gp_plain.specs.Holds.{followers}
use Rattle.gp_plain.specs.Growth.{no_growth, with_pieces}
use Rattle.gp_hold_response.specs.declared.response.Heard.TheVariants.{From}
use Rattle.gp_hold_response.specs.States.{response_state}
use Rattle.gp_hold_response.proofs.Responses.{begin_is}
use Rattle.gp_hold_response.proofs.response.ResponseHold.begin_from.Goals as goal

pub returns : goal.returns
returns g c =
    let w = g.I.Tail.items c.args.window.now in
    let fs = followers ResponseKind c.args.channel.now c.args.prev.now w in
    let p = c.new-pending.result.items in
    let run = c.follow.new.self in
    let is : run ≡ with_pieces [] no_growth fs = c.in_ok-follow.ensures.0 ∙ ap (λ b. with_pieces p b fs) c.behind-run.ensures.0 ∙ ap (λ q. with_pieces q no_growth fs) c.new-pending.ensures in
    let pieces = c.in_ok-reserve.ensures.same.0 in
    ap (λ ch. response_state (From ch c.in_ok-position.position) c.args.deadline c.append.new.self.items c.ended-ended.result c.wants-want.result) c.in_ok-copy.ensures
    ∙ begin_is c.args.channel.now c.args.prev.now c.args.deadline c.args.again w run c.append.new.self.items c.in_ok-position.position c.ended-ended.result c.wants-want.result
    is (c.append.ensures ∙ ap (λ q. q ++ c.reserve.new.self.pieces) c.new-pending.ensures ∙ pieces) (c.in_ok-position.ensures ∙ ap (position_after c.args.prev.now) pieces)
    (c.ended-ended.ensures ∙ c.in_ok-reserve.ensures.same.1) c.wants-want.ensures
