use Rattle.std.proofs.Common.{◌≡◌, ◌∙◌, false, sym, ap, subst, List, map, get_or}
use Rattle.std.proofs.lemmas.Result.{IfOk-weaker, on_err_weaker}
use Rattle.gp_plain.specs.declared.item.Item.{Item}
use Rattle.gp_plain.specs.declared.reply.Reply.{Reply}
use Rattle.gp_plain.specs.declared.reply.Reply.TheVariants.{Unknown, Foreign}
use Rattle.gp_plain.specs.History.{page_of}
use Rattle.gp_plain.specs.Holds.{page_reply}
use Rattle.gp_plain.specs.Refusals.{refuses}
use Rattle.gp_plain.specs.Standing.{Kept, Standing}
use Rattle.gp_registry.specs.declared.hold.Hold.{Hold}
use Rattle.gp_registry.specs.Places.{IsPlaceOf, HasNone}
use Rattle.gp_registry.specs.Stages.{kept_hold, number_of, standing_now}
use Rattle.gp_registry.specs.Steps.{instead, kept_after_page}
use Rattle.gp_registry.proofs.Finding.{unknown_says, foreign_says, own_answers, own_says}
use Rattle.gp_registry.proofs.Paging.{both_ok, says_by}
use Rattle.gp_registry.proofs.registry.Registry.page.Goals as goal

pub returns-in_default-clause-ok : goal.returns-in_default-clause-ok
returns-in_default-clause-ok c =
    let window = c.self.inside.window.items in
    let page = page_of c.args.from.now c.args.to.now c.args.bytes.now c.args.then in
    let reply = λ (k : Kept). page_reply c.args.from.now k.state in
    let change = λ (ws : List Item). kept_after_page ws page in
    let none = subst (λ (hs : List Hold). HasNone (map number_of hs) c.args.hold) c.as_slice.ensures.value c.in_default.ensures in
    let says = says_by window c.args.self.now.window c.args.who c.args.hold reply change c.args.self.now (Unknown c.args.hold) c.args.self.now (ap (λ (s : Standing). s.window) c.self.view_is)
    (unknown_says window c.args.who c.args.hold c.self.inside.next reply (change window) c.self.inside.holds.items c.args.self.now c.self.view_is none) in
    (says.answers, says.leaves)

pub returns-then-owner-who-clause-ok : goal.returns-then-owner-who-clause-ok
returns-then-owner-who-clause-ok c =
    let window = c.self.inside.window.items in
    let page = page_of c.args.from.now c.args.to.now c.args.bytes.now c.args.then in
    let reply = λ (k : Kept). page_reply c.args.from.now k.state in
    let change = λ (ws : List Item). kept_after_page ws page in
    let place = subst (λ (hs : List Hold). IsPlaceOf (map number_of hs) c.args.hold c.in-Some.place) c.as_slice.ensures.value c.in-Some.ensures in
    let says = says_by window c.args.self.now.window c.args.who c.args.hold reply change c.args.self.now (Foreign c.index.result.now.owner) c.args.self.now (ap (λ (s : Standing). s.window) c.self.view_is)
    (foreign_says window c.args.who c.args.hold c.self.inside.next c.in-Some.place reply (change window) c.self.inside.holds.items c.args.self.now c.index.result.now c.self.view_is place c.index.ensures c.if-owner-who.true) in
    (says.answers, says.leaves)

pub returns-clause-ok : goal.returns-clause-ok
returns-clause-ok c =
    let window = c.self.inside.window.items in
    let hs = c.self.inside.holds.items in
    let h = c.index.result.now in
    let after = c.page_at.new.holds.items in
    let page = page_of c.args.from.now c.args.to.now c.args.bytes.now c.args.then in
    let reply = λ (k : Kept). page_reply c.args.from.now k.state in
    let change = λ (ws : List Item). kept_after_page ws page in
    let place = subst (λ (xs : List Hold). IsPlaceOf (map number_of xs) c.args.hold c.in-Some.place) c.as_slice.ensures.value c.in-Some.ensures in
    IfOk-weaker c.page_at.result _ _
    (λ (r : Reply) (e : (r ≡ page_reply c.args.from.now (kept_hold (get_or hs c.in-Some.place h)).state) × (map kept_hold after ≡ instead c.in-Some.place (change window) (map kept_hold hs))).
    let says = says_by window c.args.self.now.window c.args.who c.args.hold reply change c.args.self.now (reply (kept_hold h)) (standing_now window c.self.inside.next after) (ap (λ (s : Standing). s.window) c.self.view_is)
    (own_says window c.args.who c.args.hold c.self.inside.next c.in-Some.place reply (change window) hs after c.args.self.now h c.self.view_is place c.index.ensures c.if-owner-who.false e.1) in
    (e.0 ∙ ap (λ (x : Hold). page_reply c.args.from.now (kept_hold x).state) (sym c.index.ensures) ∙ says.answers, says.leaves))
    (both_ok c.page_at.result _ _ (c.page_at.ensures.gives h) c.page_at.ensures.kept)

pub returns-clause-due : goal.returns-clause-due
returns-clause-due c =
    let hs = c.self.inside.holds.items in
    let h = c.index.result.now in
    let place = subst (λ (xs : List Hold). IsPlaceOf (map number_of xs) c.args.hold c.in-Some.place) c.as_slice.ensures.value c.in-Some.ensures in
    let due = own_answers c.self.inside.window.items c.args.who c.args.hold c.self.inside.next c.in-Some.place (λ (k : Kept). page_reply c.args.from.now k.state) hs c.args.self.now h c.self.view_is place c.index.ensures c.if-owner-who.false in
    on_err_weaker c.page_at.result (λ (e : refuses (page_reply c.args.from.now (kept_hold (get_or hs c.in-Some.place h)).state) ≡ false).
    ap refuses (sym due ∙ ap (λ (x : Hold). page_reply c.args.from.now (kept_hold x).state) c.index.ensures) ∙ e) (c.page_at.ensures.due h)

pub invariant_of-self : goal.invariant_of-self
invariant_of-self c = c.page_at.ensures.order c.self.inside.next c.self.invariant
