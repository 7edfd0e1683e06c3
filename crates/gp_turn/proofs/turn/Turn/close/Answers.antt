use Rattle.std.proofs.Common.{◌≡◌, ◌∙◌, ◌^◌, ap, sym, subst, Some, None}
use mathlib.Core.Option.{some-injective}
use mathlib.Core.Option as maybe
use Rattle.gp_turn.specs.Passes.{PassView}
use Rattle.gp_turn.proofs.Shares.{closes}
use Rattle.gp_turn.proofs.turn.Turn.close.Goals as goal

pub unreachable-requires : goal.unreachable-requires
unreachable-requires g c =
    let seat = c.pass.inside.seat in
    let all : seat.me.0.parts ≡ 2 ^ 63 = ap (λ (p : PassView _). p.parts) c.pass.view_is ∙ c.requires.all in
    let e = closes g.V.Kept.stands g.V.Kept.number seat.id seat.me.0 _ _ c.pass.invariant.rests all c.close_with-closed.ensures.values.2 in
    let found : maybe.some (Some e.0) ≡ maybe.some c.take-slot.result = sym e.1 ∙ c.take-slot.ensures.value in
    let is : Some e.0 ≡ None = some-injective _ _ found ∙ c.in-None.is in
    cc

pub returns : goal.returns
returns g c =
    let seat = c.pass.inside.seat in
    let all : seat.me.0.parts ≡ 2 ^ 63 = ap (λ (p : PassView _). p.parts) c.pass.view_is ∙ c.requires.all in
    let e = closes g.V.Kept.stands g.V.Kept.number seat.id seat.me.0 _ _ c.pass.invariant.rests all c.close_with-closed.ensures.values.2 in
    let found : maybe.some (Some e.0) ≡ maybe.some c.take-slot.result = sym e.1 ∙ c.take-slot.ensures.value in
    let is : Some e.0 ≡ Some c.in-Some.value = some-injective _ _ found ∙ c.in-Some.is in
    let same : e.0 ≡ c.in-Some.value = cc in
    let seen : seat.me.0.seen ≡ c.args.pass.seen = ap (λ (p : PassView _). p.seen) c.pass.view_is in
    subst (λ l. g.V.Kept.stands c.in-Some.value l) seen (subst (λ y. g.V.Kept.stands y seat.me.0.seen) same e.2)
