use Rattle.std.proofs.Common.{◌∙◌, sym, ap, subst, List, map}
use Rattle.gp_plain.specs.Holds.{failure_reply}
use Rattle.gp_plain.specs.Standing.{Kept}
use Rattle.gp_registry.specs.declared.hold.Hold.{Hold}
use Rattle.gp_registry.specs.Places.{IsPlaceOf, HasNone}
use Rattle.gp_registry.specs.Stages.{kept_hold, number_of}
use Rattle.gp_registry.specs.Steps.{kept_after_failure}
use Rattle.gp_registry.proofs.Finding.{unknown_says, foreign_says, own_says}
use Rattle.gp_registry.proofs.registry.Registry.page_failed.Goals as goal

pub returns-in_default : goal.returns-in_default
returns-in_default c =
    let none = subst (λ (hs : List Hold). HasNone (map number_of hs) c.args.hold) c.as_slice.ensures.value c.in_default.ensures in
    let says = unknown_says c.self.inside.window.items c.args.who c.args.hold c.self.inside.next (λ (k : Kept). failure_reply k.state) kept_after_failure c.self.inside.holds.items c.args.self.now c.self.view_is none in
    (says.answers, says.leaves)

pub returns-then-owner-who : goal.returns-then-owner-who
returns-then-owner-who c =
    let place = subst (λ (hs : List Hold). IsPlaceOf (map number_of hs) c.args.hold c.in-Some.place) c.as_slice.ensures.value c.in-Some.ensures in
    let says = foreign_says c.self.inside.window.items c.args.who c.args.hold c.self.inside.next c.in-Some.place (λ (k : Kept). failure_reply k.state) kept_after_failure c.self.inside.holds.items c.args.self.now c.index.result.now c.self.view_is place c.index.ensures c.if-owner-who.true in
    (says.answers, says.leaves)

pub returns : goal.returns
returns c =
    let place = subst (λ (hs : List Hold). IsPlaceOf (map number_of hs) c.args.hold c.in-Some.place) c.as_slice.ensures.value c.in-Some.ensures in
    let says = own_says c.self.inside.window.items c.args.who c.args.hold c.self.inside.next c.in-Some.place (λ (k : Kept). failure_reply k.state) kept_after_failure c.self.inside.holds.items c.fail_at.new.holds.items c.args.self.now c.index.result.now c.self.view_is place c.index.ensures c.if-owner-who.false c.fail_at.ensures.kept in
    (c.fail_at.ensures.gives c.index.result.now ∙ ap (λ (h : Hold). failure_reply (kept_hold h).state) (sym c.index.ensures) ∙ says.answers, says.leaves)

pub invariant_of-self : goal.invariant_of-self
invariant_of-self c = c.fail_at.ensures.order c.self.inside.next c.self.invariant
