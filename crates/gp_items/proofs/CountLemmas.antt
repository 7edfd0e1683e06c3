-- How many items a body has.
use Rattle.std.proofs.Common.{◌≡◌, ℕ, suc, ◌+◌, ◌<◌, ◌≤◌, Bool, true, false, cond, List, [], ◌∷◌, length, Option, Some, None, Result, Ok, Err, refl, sym, ap, ◌∙◌, arith}
use Rattle.std.specs.Prelude.{nat_lt, min, option_and_then, codes}
use Rattle.std.proofs.lemmas.Bool.{ltb-false}
use Rattle.serde_json.specs.Data.{Data}
use Rattle.gp_plain.specs.declared.item.Item.{Item}
use Rattle.gp_json.specs.Steps.{result_and_then}
use Rattle.gp_json.specs.Members.{member_of, as_elements}
use Rattle.gp_items.specs.declared.fault.ItemsFault.{ItemsFault}
use Rattle.gp_items.specs.declared.fault.ItemsFault.TheVariants.{TooMany}
use Rattle.gp_items.specs.Items.{AreItemsOf, items_in, items_if, items_from, item_of, placed, told_count}

-- a body has at most 1,000 items

ok_cons : (first : Result Item ItemsFault) (rest : Result (List Item) ItemsFault) (items : List Item) (n : ℕ) → ((others : List Item) → rest ≡ Ok others → length others ≡ n)
    → result_and_then first (λ item. result_and_then rest (λ others. Ok (item ∷ others))) ≡ Ok items → length items ≡ suc n
ok_cons (Ok x) (Ok others) items n len e = let same : (x ∷ others) ≡ items = cc in sym (ap length same) ∙ ap suc (len others refl)
ok_cons (Ok x) (Err f) items n len e = let no : ⊥ = cc in absurd no
ok_cons (Err f) rest items n len e = let no : ⊥ = cc in absurd no

items_length : (place : ℕ) (ds : List Data) (items : List Item) → items_from place ds ≡ Ok items → length items ≡ length ds
items_length place [] items e = let same : [] ≡ items = cc in sym (ap length same)
items_length place (d ∷ ds) items e = ok_cons (placed place (item_of d)) (items_from (place + 1) ds) items (length ds) (λ others is. items_length (place + 1) ds others is) e

within : (o : Option (List Data)) (items : List Item) → items_if o ≡ Ok items → length items ≤ 1000
within None items e = let no : ⊥ = cc in absurd no
within (Some []) items e = let no : ⊥ = cc in absurd no
within (Some (d ∷ ds)) items e = by_count (nat_lt 1000 (length (d ∷ ds))) refl e
  where
    by_count : (t : Bool) → nat_lt 1000 (length (d ∷ ds)) ≡ t → cond t (Err (TooMany (told_count (length (d ∷ ds))))) (items_from 0 (d ∷ ds)) ≡ Ok items → length items ≤ 1000
    by_count true is e = let no : ⊥ = cc in absurd no
    by_count false is e = omega (arith, ltb-false 1000 (length (d ∷ ds)) is, items_length 0 (d ∷ ds) items e)

pub few_items : (bytes : List ℕ) (items : List Item) → AreItemsOf bytes items → length items ≤ 1000
unfolding items_in
few_items bytes items a = within (option_and_then as_elements (member_of (codes "items") a.value)) items a.items_are
