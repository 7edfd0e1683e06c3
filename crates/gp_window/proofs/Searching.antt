-- What `gp_plain` says of a list of items, by the searches of a ring.
use Rattle.std.proofs.Common.{◌≡◌, ℕ, Bool, true, false, not, ◌&&◌, ◌||◌, cond, List, [], ◌∷◌, filter, refl, sym, ap, ◌∙◌, Option, Some, None, is_some, get_or}
use Rattle.std.specs.List.{list_any}
use Rattle.std.specs.Option.{option_map_or}
use Rattle.std.specs.Cmp.Lexicographic.{same_text}
use Rattle.std.proofs.Math.Bool.{and-true, and-false}
use Rattle.std.proofs.lemmas.List.Folds.{list_any_none}
use Rattle.gp_plain.specs.declared.item.Item.{Item}
use Rattle.gp_plain.specs.Items.{is_id, is_same, is_on}
use Rattle.gp_plain.specs.Names.{same_id}
use Rattle.gp_plain.specs.Follow.{is_repeat}
use Rattle.gp_plain.proofs.ChainLaw.{same_ids}
use Rattle.gp_window.specs.Searches.{has_id}

absurd_true : {A : Type 0} → true ≡ false → A
absurd_true e = cc

any_same : (q p : Item → Bool) (xs : List Item) → ((x : Item) → q x ≡ p x) → list_any q xs ≡ list_any p xs
any_same q p [] e = refl
any_same q p (x ∷ xs) e = ap (λ b. b || list_any q xs) (e x) ∙ ap (λ b. p x || b) (any_same q p xs e)

-- repeats

flip_by : (xs ys : List ℕ) (a b : Bool) → same_id xs ys ≡ a → same_id ys xs ≡ b → a ≡ b
flip_by xs ys true true e e' = refl
flip_by xs ys true false e e' = absurd_true (sym (ap (same_id ys) (same_text xs ys (sym e)) ∙ same_ids ys) ∙ e')
flip_by xs ys false true e e' = sym (absurd_true (sym (ap (same_id xs) (same_text ys xs (sym e')) ∙ same_ids xs) ∙ e))
flip_by xs ys false false e e' = refl

same_flip : (xs ys : List ℕ) → same_id xs ys ≡ same_id ys xs
same_flip xs ys = flip_by xs ys (same_id xs ys) (same_id ys xs) refl refl

alike : (own : List ℕ) (other : Option (List ℕ)) → is_same (Some own) other ≡ is_id other own
alike own None = refl
alike own (Some id) = same_flip own id

-- an item that has an id is a repeat where an item of its channel has the id
pub repeat_is : (items : List Item) (item : Item) (id : List ℕ) → item.id ≡ Some id → is_repeat items item ≡ list_any (has_id item.channel id) items
repeat_is items item id e = any_same (λ (other : Item). is_on item.channel other && is_same item.id other.id) (has_id item.channel id) items (λ other. ap (λ own. is_on item.channel other && is_same own other.id) e ∙ ap (λ b. is_on item.channel other && b) (alike id other.id))

none_same : (other : Option (List ℕ)) → is_same None other ≡ false
none_same None = refl
none_same (Some o) = refl

-- and one without an id is none
pub no_repeat : (xs : List Item) (item : Item) → item.id ≡ None → is_repeat xs item ≡ false
no_repeat [] item e = refl
no_repeat (x ∷ xs) item e =
    ap (λ own. (is_on item.channel x && is_same own x.id) || is_repeat xs item) e ∙ ap (λ b. (is_on item.channel x && b) || is_repeat xs item) (none_same x.id)
    ∙ ap (λ b. b || is_repeat xs item) (and-false (is_on item.channel x)) ∙ no_repeat xs item e
