-- Fields that are kept, and texts of fields.
use Rattle.std.proofs.Common.{◌≡◌, ℕ, ◌+◌, ◌<◌, length, take, get_or, Bool, true, false, ◌&&◌, ◌||◌, cond, List, [], ◌∷◌, ◌++◌, filter, map, refl, sym, ap, ◌∙◌, append_assoc, append-nil}
use Rattle.std.specs.List.{flat_map, list_any}
use Rattle.std.proofs.lemmas.List.{take_more}
use Rattle.std.proofs.lemmas.Grind.{flat_map-append}
use Rattle.gp_plain.specs.declared.item.Field.{Field}
use Rattle.gp_text.specs.Hops.{goes_on, going_on}
use Rattle.gp_text.specs.Lists.{has_field, is_named}
use Rattle.gp_head.specs.Texts.{field_text}
use Rattle.gp_forward.specs.Forwards.{is_kept, last_field}

one_by_one : (p q : Field → Bool) (xs : List Field) → list_any (λ x. q x && p x) xs ≡ list_any p (filter q xs)
one_by_one p q [] = refl
one_by_one p q (x ∷ xs) = by_test (q x) (one_by_one p q xs)
  where
    by_test : (b : Bool) → list_any (λ x. q x && p x) xs ≡ list_any p (filter q xs) → ((b && p x) || list_any (λ x. q x && p x) xs) ≡ list_any p (cond b (x ∷ filter q xs) (filter q xs))
    by_test true e = ap (λ r. p x || r) e
    by_test false e = e

pub any_kept : (fields : List Field) (name : List ℕ) → list_any (is_kept fields name) fields ≡ has_field name (going_on fields)
any_kept fields name = one_by_one (is_named name) (goes_on fields) fields

pub lasts_text : (lasts : List (List ℕ)) → flat_map (λ (last : List ℕ). field_text (last_field last)) lasts ≡ flat_map field_text (map last_field lasts)
lasts_text [] = refl
lasts_text (l ∷ lasts) = ap (λ t. field_text (last_field l) ++ t) (lasts_text lasts)

pub one_field : (t : List ℕ) (f : Field) → t ++ field_text f ≡ t ++ flat_map field_text (f ∷ [])
one_field t f = ap (λ x. t ++ x) (sym (append-nil (field_text f)))

-- fields that are written one after the other are written as one list
pub fields_written : (t : List ℕ) (kept host len : List Field) (c : Field) (sig lasts : List Field)
    → (((((t ++ flat_map field_text kept) ++ flat_map field_text host) ++ flat_map field_text len) ++ field_text c) ++ flat_map field_text sig) ++ flat_map field_text lasts
    ≡ t ++ flat_map field_text (kept ++ (host ++ (len ++ (c ∷ (sig ++ lasts)))))
fields_written t kept host len c sig lasts =
    let f = flat_map field_text in
    append_assoc ((((t ++ f kept) ++ f host) ++ f len) ++ field_text c) (f sig) (f lasts)
    ∙ ap (λ x. ((((t ++ f kept) ++ f host) ++ f len) ++ field_text c) ++ x) (sym (flat_map-append field_text sig lasts))
    ∙ append_assoc (((t ++ f kept) ++ f host) ++ f len) (field_text c) (f (sig ++ lasts))
    ∙ append_assoc ((t ++ f kept) ++ f host) (f len) (f (c ∷ (sig ++ lasts)))
    ∙ ap (λ x. ((t ++ f kept) ++ f host) ++ x) (sym (flat_map-append field_text len (c ∷ (sig ++ lasts))))
    ∙ append_assoc (t ++ f kept) (f host) (f (len ++ (c ∷ (sig ++ lasts))))
    ∙ ap (λ x. (t ++ f kept) ++ x) (sym (flat_map-append field_text host (len ++ (c ∷ (sig ++ lasts)))))
    ∙ append_assoc t (f kept) (f (host ++ (len ++ (c ∷ (sig ++ lasts)))))
    ∙ ap (λ x. t ++ x) (sym (flat_map-append field_text kept (host ++ (len ++ (c ∷ (sig ++ lasts))))))

-- one more text behind those of the items before it
pub one_more : (told : List ℕ → List ℕ) (t : List ℕ) (xs : List (List ℕ)) (i : ℕ) (x : List ℕ) → i < length xs → x ≡ get_or xs i x
    → (t ++ flat_map told (take i xs)) ++ told x ≡ t ++ flat_map told (take (i + 1) xs)
one_more told t xs i x inside is =
    append_assoc t (flat_map told (take i xs)) (told x)
    ∙ ap (λ y. t ++ y) (ap (λ z. flat_map told (take i xs) ++ told z) is
    ∙ sym (ap (flat_map told) (take_more xs i x inside) ∙ flat_map-append told (take i xs) (get_or xs i x ∷ []) ∙ ap (λ y. flat_map told (take i xs) ++ y) (append-nil (told (get_or xs i x)))))
