-- The elements and the members of a value, beside the lists that hold them.
use Rattle.std.proofs.Common.{◌≡◌, ℕ, List, [], ◌∷◌, map, Some, Ok, String, Global, string_bytes, refl, ap}
use Rattle.serde_json.specs.Data.{Data, Items}
use Rattle.serde_json.specs.Find.{as_array}
use Rattle.serde_json.specs.View.{view, items_view, members_view}
use Rattle.serde_json.specs.declared.value.Value.{Value}
use Rattle.gp_json.specs.Members.{elements, named, member_of, array_member}

pub elements_view : (values : List Value) → elements (items_view values) ≡ map view values
elements_view [] = refl
elements_view (v ∷ values) = ap (λ ds. view v ∷ ds) (elements_view values)

pub named_view : (entries : List (String Global × Value)) → named (members_view entries) ≡ map (λ e. (string_bytes e.0, view e.1)) entries
named_view [] = refl
named_view (e ∷ entries) = ap (λ ms. (string_bytes e.0, view e.1) ∷ ms) (named_view entries)

pub array_found : (name : List ℕ) (o d : Data) (items : Items) (values : List Data) → Some d ≡ member_of name o → Some items ≡ as_array d → elements items ≡ values
    → array_member name o ≡ Ok (Some values)
array_found name o d items values found form are = rw (← found, ← form, are) refl
