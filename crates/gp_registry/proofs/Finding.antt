-- An event on the hold of a number, by what the search for it found.
use Rattle.std.proofs.Common.{◌≡◌, ◌≢◌, ℕ, ◌<◌, ◌==◌, true, false, cond, List, length, map, get_or, Some, arith, sym, ap, ◌∙◌, subst, eq-eqb}
use Rattle.std.proofs.lemmas.List.{length-map}
use Rattle.gp_plain.specs.declared.item.Item.{Item}
use Rattle.gp_plain.specs.declared.reply.Reply.{Reply}
use Rattle.gp_plain.specs.declared.reply.Reply.TheVariants.{Foreign, Unknown}
use Rattle.gp_plain.specs.Standing.{Kept, Standing}
use Rattle.gp_registry.specs.declared.hold.Hold.{Hold}
use Rattle.gp_registry.specs.Stages.{kept_hold, number_of, standing_now}
use Rattle.gp_registry.specs.Places.{IsPlaceOf, HasNone}
use Rattle.gp_registry.specs.Steps.{found, replaced, instead, refused_or_kept}
use Rattle.gp_registry.proofs.Searching.{found_at, found_none, replaced_none, replaced_foreign, replaced_own, apart}

-- what an event on one hold answers, and what it leaves
pub record Says (who number : ℕ) (reply : Kept → Reply) (change : Kept → List Kept) (before : Standing) (answer : Reply) (after : Standing) : Type 0 where
  pub answers : answer ≡ refused_or_kept who number (found number before.kept) reply
  pub leaves : after ≡ record before { kept = replaced who number change before.kept }

pub unknown_says : (window : List Item) (who number next : ℕ) (reply : Kept → Reply) (change : Kept → List Kept) (hs : List Hold) (s : Standing) → standing_now window next hs ≡ s
    → HasNone (map number_of hs) number → Says who number reply change s (Unknown number) s
unknown_says window who number next reply change hs s view none =
    let said : Says who number reply change (standing_now window next hs) (Unknown number) (standing_now window next hs) = record {
      answers = ap (λ o. refused_or_kept who number o reply) (sym (found_none number hs none));
      leaves = ap (λ ks. let t : Standing = record { window = window; next = next; kept = ks } in t) (sym (replaced_none who number change hs none));
    } in
    subst (λ t. Says who number reply change t (Unknown number) t) view said

within_of : (hs : List Hold) (number place : ℕ) → IsPlaceOf (map number_of hs) number place → place < length hs
within_of hs number place p = omega (arith, p.within, length-map hs number_of)

pub found_place : (window : List Item) (number next place : ℕ) (hs : List Hold) (s : Standing) (h : Hold) → standing_now window next hs ≡ s → IsPlaceOf (map number_of hs) number place → h ≡ get_or hs place h
    → Some (kept_hold h) ≡ found number s.kept
found_place window number next place hs s h view p is =
    ap (λ (x : Hold). Some (kept_hold x)) is ∙ sym (found_at number place hs h (within_of hs number place p) p.here p.before) ∙ ap (λ (t : Standing). found number t.kept) view

pub foreign_says : (window : List Item) (who number next place : ℕ) (reply : Kept → Reply) (change : Kept → List Kept) (hs : List Hold) (s : Standing) (h : Hold) → standing_now window next hs ≡ s
    → IsPlaceOf (map number_of hs) number place → h ≡ get_or hs place h → h.owner ≢ who → Says who number reply change s (Foreign h.owner) s
foreign_says window who number next place reply change hs s h view p is other =
    let owner = apart h.owner who other in
    let at : ((get_or hs place h).owner == who) ≡ false = ap (λ (x : Hold). x.owner == who) (sym is) ∙ owner in
    let rest = replaced_foreign who number place change hs h (within_of hs number place p) p.here p.before at in
    let left : standing_now window next hs ≡ record { window = window; next = next; kept = replaced who number change (map kept_hold hs) } = ap (λ ks. let t : Standing = record { window = window; next = next; kept = ks } in t) (sym rest) in
    record {
      answers = ap (λ b. cond b (reply (kept_hold h)) (Foreign h.owner)) (sym owner) ∙ ap (λ o. refused_or_kept who number o reply) (found_place window number next place hs s h view p is);
      leaves = subst (λ (t : Standing). t ≡ record t { kept = replaced who number change t.kept }) view left;
    }

-- the answer that the owner of a kept hold is due
pub own_answers : (window : List Item) (who number next place : ℕ) (reply : Kept → Reply) (hs : List Hold) (s : Standing) (h : Hold) → standing_now window next hs ≡ s
    → IsPlaceOf (map number_of hs) number place → h ≡ get_or hs place h → h.owner ≡ who → reply (kept_hold h) ≡ refused_or_kept who number (found number s.kept) reply
own_answers window who number next place reply hs s h view p is own =
    ap (λ b. cond b (reply (kept_hold h)) (Foreign h.owner)) (sym (eq-eqb h.owner who own)) ∙ ap (λ o. refused_or_kept who number o reply) (found_place window number next place hs s h view p is)

pub own_says : (window : List Item) (who number next place : ℕ) (reply : Kept → Reply) (change : Kept → List Kept) (hs after : List Hold) (s : Standing) (h : Hold) → standing_now window next hs ≡ s
    → IsPlaceOf (map number_of hs) number place → h ≡ get_or hs place h → h.owner ≡ who → map kept_hold after ≡ instead place change (map kept_hold hs)
    → Says who number reply change s (reply (kept_hold h)) (standing_now window next after)
own_says window who number next place reply change hs after s h view p is own done =
    let owner = eq-eqb h.owner who own in
    let at : ((get_or hs place h).owner == who) ≡ true = ap (λ (x : Hold). x.owner == who) (sym is) ∙ owner in
    let rest = replaced_own who number place change hs h (within_of hs number place p) p.here p.before at in
    record {
      answers = own_answers window who number next place reply hs s h view p is own;
      leaves = subst (λ (t : Standing). standing_now window next after ≡ record t { kept = replaced who number change t.kept }) view (ap (λ ks. let t : Standing = record { window = window; next = next; kept = ks } in t) (done ∙ sym rest));
    }
