use Rattle.std.proofs.Common.{◌≡◌, ◌∙◌, false, sym, ap, subst, List, map, get_or}
use Rattle.std.proofs.lemmas.Result.{IfOk-weaker, on_err_weaker}
use Rattle.gp_plain.specs.declared.reply.Reply.{Reply}
use Rattle.gp_plain.specs.declared.reply.Reply.TheVariants.{Unknown, Foreign}
use Rattle.gp_plain.specs.Holds.{change_reply}
use Rattle.gp_plain.specs.Refusals.{refuses}
use Rattle.gp_plain.specs.Standing.{Kept, Standing}
use Rattle.gp_registry.specs.declared.hold.Hold.{Hold}
use Rattle.gp_registry.specs.declared.change.Change.{Change}
use Rattle.gp_registry.specs.Changes.{change_of, event_of}
use Rattle.gp_registry.specs.Places.{IsPlaceOf, HasNone}
use Rattle.gp_registry.specs.Stages.{kept_hold, number_of, standing_now}
use Rattle.gp_registry.specs.Steps.{instead, kept_after_change, answered, stepped}
use Rattle.gp_registry.proofs.Finding.{Says, unknown_says, foreign_says, own_answers, own_says}
use Rattle.gp_registry.proofs.Changing.{asked, asked_answer}
use Rattle.gp_registry.proofs.Paging.{both_ok, err_weaker}
use Rattle.gp_registry.proofs.registry.Registry.change.Goals as goal

pub returns-in_default-clause-ok : goal.returns-in_default-clause-ok
returns-in_default-clause-ok c =
    let change = change_of c.args.change in
    let none = subst (λ (hs : List Hold). HasNone (map number_of hs) c.args.hold) c.as_slice.ensures.value c.in_default.ensures in
    asked c.args.who c.args.hold c.args.change c.args.self.now (Unknown c.args.hold) c.args.self.now
    (unknown_says c.self.inside.window.items c.args.who c.args.hold c.self.inside.next (λ (k : Kept). change_reply change k.state) (kept_after_change change) c.self.inside.holds.items c.args.self.now c.self.view_is none)

pub returns-then-owner-who-clause-ok : goal.returns-then-owner-who-clause-ok
returns-then-owner-who-clause-ok c =
    let change = change_of c.args.change in
    let place = subst (λ (hs : List Hold). IsPlaceOf (map number_of hs) c.args.hold c.in-Some.place) c.as_slice.ensures.value c.in-Some.ensures in
    asked c.args.who c.args.hold c.args.change c.args.self.now (Foreign c.index.result.now.owner) c.args.self.now
    (foreign_says c.self.inside.window.items c.args.who c.args.hold c.self.inside.next c.in-Some.place (λ (k : Kept). change_reply change k.state) (kept_after_change change) c.self.inside.holds.items c.args.self.now c.index.result.now c.self.view_is place c.index.ensures c.if-owner-who.true)

pub returns-clause-ok : goal.returns-clause-ok
returns-clause-ok c =
    let window = c.self.inside.window.items in
    let hs = c.self.inside.holds.items in
    let h = c.index.result.now in
    let after = c.change_at.new.holds.items in
    let change = change_of c.args.change in
    let reply = λ (k : Kept). change_reply change k.state in
    let place = subst (λ (xs : List Hold). IsPlaceOf (map number_of xs) c.args.hold c.in-Some.place) c.as_slice.ensures.value c.in-Some.ensures in
    IfOk-weaker c.change_at.result _ _
    (λ (r : Reply) (e : (r ≡ change_reply change (kept_hold (get_or hs c.in-Some.place h)).state) × (map kept_hold after ≡ instead c.in-Some.place (kept_after_change change) (map kept_hold hs))).
    let says = own_says window c.args.who c.args.hold c.self.inside.next c.in-Some.place reply (kept_after_change change) hs after c.args.self.now h c.self.view_is place c.index.ensures c.if-owner-who.false e.1 in
    let said = asked c.args.who c.args.hold c.args.change c.args.self.now (reply (kept_hold h)) (standing_now window c.self.inside.next after) says in
    (e.0 ∙ ap (λ (x : Hold). change_reply change (kept_hold x).state) (sym c.index.ensures) ∙ said.0, said.1))
    (both_ok c.change_at.result _ _ (c.change_at.ensures.gives h) c.change_at.ensures.kept)

pub returns-clause-err : goal.returns-clause-err
returns-clause-err c =
    err_weaker _ c.change_at.result (λ e. ap (λ (ks : List Kept). let s : Standing = record { window = c.self.inside.window.items; next = c.self.inside.next; kept = ks } in s) e ∙ c.self.view_is) c.change_at.ensures.err

pub returns-clause-due : goal.returns-clause-due
returns-clause-due c =
    let hs = c.self.inside.holds.items in
    let h = c.index.result.now in
    let change = change_of c.args.change in
    let place = subst (λ (xs : List Hold). IsPlaceOf (map number_of xs) c.args.hold c.in-Some.place) c.as_slice.ensures.value c.in-Some.ensures in
    let due = own_answers c.self.inside.window.items c.args.who c.args.hold c.self.inside.next c.in-Some.place (λ (k : Kept). change_reply change k.state) hs c.args.self.now h c.self.view_is place c.index.ensures c.if-owner-who.false in
    on_err_weaker c.change_at.result (λ (e : refuses (change_reply change (kept_hold (get_or hs c.in-Some.place h)).state) ≡ false).
    ap refuses (sym (asked_answer c.args.who c.args.hold c.args.change c.args.self.now) ∙ sym due ∙ ap (λ (x : Hold). change_reply change (kept_hold x).state) c.index.ensures) ∙ e) (c.change_at.ensures.due h)

pub invariant_of-self : goal.invariant_of-self
invariant_of-self c = c.change_at.ensures.order c.self.inside.next c.self.invariant
