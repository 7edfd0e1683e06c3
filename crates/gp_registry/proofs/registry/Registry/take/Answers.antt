use Rattle.std.proofs.Common.{◌∙◌, sym, ap, subst, List, map}
use Rattle.gp_plain.specs.declared.reply.Reply.TheVariants.{Taken}
use Rattle.gp_plain.specs.Refusals.{refuses}
use Rattle.gp_plain.specs.Standing.{Kept, Standing}
use Rattle.gp_registry.specs.declared.hold.Hold.{Hold}
use Rattle.gp_registry.specs.Keeps.{taken_kept}
use Rattle.gp_registry.specs.Places.{IsPlaceOf, HasNone}
use Rattle.gp_registry.specs.Stages.{kept_hold, number_of}
use Rattle.gp_registry.specs.Steps.{kept_after_take}
use Rattle.gp_registry.proofs.Finding.{unknown_says, foreign_says, own_answers, own_says}
use Rattle.gp_registry.proofs.Taking.{on_err_given}
use Rattle.gp_registry.proofs.registry.Registry.take.Goals as goal

pub returns-in_default-clause-ok : goal.returns-in_default-clause-ok
returns-in_default-clause-ok c =
    let none = subst (λ (hs : List Hold). HasNone (map number_of hs) c.args.hold) c.as_slice.ensures.value c.in_default.ensures in
    let says = unknown_says c.self.inside.window.items c.args.who c.args.hold c.self.inside.next (λ (k : Kept). Taken (taken_kept c.args.now k)) (kept_after_take c.args.now) c.self.inside.holds.items c.args.self.now c.self.view_is none in
    (says.answers, says.leaves)

pub returns-then-owner-who-clause-ok : goal.returns-then-owner-who-clause-ok
returns-then-owner-who-clause-ok c =
    let place = subst (λ (hs : List Hold). IsPlaceOf (map number_of hs) c.args.hold c.in-Some.place) c.as_slice.ensures.value c.in-Some.ensures in
    let says = foreign_says c.self.inside.window.items c.args.who c.args.hold c.self.inside.next c.in-Some.place (λ (k : Kept). Taken (taken_kept c.args.now k)) (kept_after_take c.args.now) c.self.inside.holds.items c.args.self.now c.index.result.now c.self.view_is place c.index.ensures c.if-owner-who.true in
    (says.answers, says.leaves)

pub returns-in_err-taken-clause-err : goal.returns-in_err-taken-clause-err
returns-in_err-taken-clause-err c =
    on_err_given c.from_residual.result (ap (λ (ks : List Kept). let s : Standing = record { window = c.self.inside.window.items; next = c.self.inside.next; kept = ks } in s) c.in_err-taken.ensures.err ∙ c.self.view_is)

pub returns-in_err-taken-clause-due : goal.returns-in_err-taken-clause-due
returns-in_err-taken-clause-due c =
    let place = subst (λ (hs : List Hold). IsPlaceOf (map number_of hs) c.args.hold c.in-Some.place) c.as_slice.ensures.value c.in-Some.ensures in
    let due = own_answers c.self.inside.window.items c.args.who c.args.hold c.self.inside.next c.in-Some.place (λ (k : Kept). Taken (taken_kept c.args.now k)) c.self.inside.holds.items c.args.self.now c.index.result.now c.self.view_is place c.index.ensures c.if-owner-who.false in
    on_err_given c.from_residual.result (ap refuses (sym due))

pub returns-clause-ok : goal.returns-clause-ok
returns-clause-ok c =
    let place = subst (λ (hs : List Hold). IsPlaceOf (map number_of hs) c.args.hold c.in-Some.place) c.as_slice.ensures.value c.in-Some.ensures in
    let says = own_says c.self.inside.window.items c.args.who c.args.hold c.self.inside.next c.in-Some.place (λ (k : Kept). Taken (taken_kept c.args.now k)) (kept_after_take c.args.now) c.self.inside.holds.items c.take_at.new.holds.items c.args.self.now c.index.result.now c.self.view_is place c.index.ensures c.if-owner-who.false c.in_ok-taken.ensures.kept in
    (ap Taken (c.in_ok-taken.ensures.gives c.index.result.now ∙ ap (λ (h : Hold). taken_kept c.args.now (kept_hold h)) (sym c.index.ensures)) ∙ says.answers, says.leaves)

pub invariant_of-self : goal.invariant_of-self
invariant_of-self c = c.take_at.ensures.order c.self.inside.next c.self.invariant

pub invariant_of-self-2 : goal.invariant_of-self-2
invariant_of-self-2 c = c.take_at.ensures.order c.self.inside.next c.self.invariant
