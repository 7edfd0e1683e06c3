use Rattle.std.proofs.Common.{◌≡◌, Bor, Some, true, IfOk, option_map, sym, ap, subst}
use Rattle.gp_plain.specs.declared.name.ItemId.{ItemId}
use Rattle.gp_plain.specs.Fit.{fits_spec}
use Rattle.gp_plain.specs.Holds.{begun_state}
use Rattle.gp_hold_response.specs.States.{response_spec}
use Rattle.gp_hold_response.proofs.Responses.{one_channel, some_channel}
use Rattle.gp_hold_response.proofs.response.ResponseHold.begin.Goals as goal

pub returns-in_default : goal.returns-in_default
returns-in_default g c =
    let w = g.I.Tail.items c.args.window.now in
    let e = ap (λ p. option_map (λ (id : Bor ItemId). id.now) p) c.in_default.is in
    subst (λ o. IfOk c.begin_any.result (λ hold. hold.state ≡ begun_state (response_spec c.args.channels.now o c.args.deadline c.args.again) w)) (sym e) (c.begin_any.ensures c.args.again w)

pub unreachable-requires : goal.unreachable-requires
unreachable-requires g c =
    let e = ap (λ p. option_map (λ (id : Bor ItemId). id.now) p) c.in-Some.is in
    some_channel c.args.channels.now c.in-Some.prev.now c.args.deadline c.args.again
    (subst (λ o. fits_spec (response_spec c.args.channels.now o c.args.deadline c.args.again) ≡ true) e c.requires) (sym c.in_default-at.ensures)

pub returns : goal.returns
returns g c =
    let w = g.I.Tail.items c.args.window.now in
    let e = ap (λ p. option_map (λ (id : Bor ItemId). id.now) p) c.in-Some.is in
    let one = one_channel c.args.channels.now c.in-Some-at.channel.now c.in-Some.prev.now c.args.deadline c.args.again
    (subst (λ o. fits_spec (response_spec c.args.channels.now o c.args.deadline c.args.again) ≡ true) e c.requires) (sym c.in-Some-at.ensures) in
    subst (λ o. IfOk c.begin_from.result (λ hold. hold.state ≡ begun_state (response_spec c.args.channels.now o c.args.deadline c.args.again) w)) (sym e)
    (subst (λ cs. IfOk c.begin_from.result (λ hold. hold.state ≡ begun_state (response_spec cs (Some c.in-Some.prev.now) c.args.deadline c.args.again) w)) (sym one) c.begin_from.ensures)
