-- Names and values of fields: what the tests of bytes mean.
use Rattle.std.proofs.Common.{◌≡◌, ℕ, Bool, true, false, IsTrue, ◌≢◌, List, [], ◌∷◌, length, map, Some, None, Decides, refl, String, Global, string_bytes}
use Rattle.std.specs.Prelude.{option_and_then, is_some, filter}
use Rattle.std.specs.List.{list_all}
use Rattle.std.proofs.lemmas.Bool.Decides.{Decides-by_and, Decides-and, Decides-ltb}
use Rattle.std.proofs.lemmas.Bool.{false≢true, leb-true, le-leb}
use Rattle.http_header.specs.Token.{token_test, is_token_byte, is_value_byte, lowercase, AllPass}
use Rattle.http_header.specs.FieldName.{is_field_name, IsFieldName}
use Rattle.http_header.specs.FieldValue.{IsFieldValue}
use Rattle.serde_json.specs.Data.{Data}
use Rattle.serde_json.specs.Find.{as_array, as_object, as_null}
use Rattle.serde_json.specs.View.{view, items_view, members_view}
use Rattle.serde_json.specs.declared.value.Value.{Value}
use Rattle.gp_json.specs.Steps.{each}
use Rattle.gp_json.specs.Members.{as_elements, named}
use Rattle.gp_json.specs.Fields.{name_of, value_of, text_pair, is_given, fields_in, pair_field}
use Rattle.gp_json.proofs.MemberLemmas.{elements_view}

all_pass : (test : ℕ → Bool) (bytes : List ℕ) → Decides (list_all test bytes) (AllPass test bytes)
all_pass test bytes = Decides-by_and test (λ b. IsTrue (test b)) (list_all test) (λ b. (λ h. h, λ h. h)) refl (λ _ _. refl) bytes

-- what isn't refused passes
passes : {b : Bool} {P : Type 0} → Decides b P → ((P → ⊥) → ⊥) → b ≡ true
passes {b = true} d h = refl
passes {b = false} d h = absurd (h (λ p. false≢true (d.1 p)))

fails : {b : Bool} {P : Type 0} → Decides b P → (P → ⊥) → b ≡ false
fails {b = true} d h = absurd (h (d.0 refl))
fails {b = false} d h = refl

name_decides : (bytes : List ℕ) → Decides (is_field_name bytes) (IsFieldName bytes)
unfolding is_token_byte
name_decides bytes =
    Decides-and _ _ (Decides-and _ _ (Decides-ltb 0 (length bytes)) (all_pass token_test bytes)) (leb-true (length bytes) 65535, le-leb (length bytes) 65535)

pub value_there : (text : List ℕ) → ((IsFieldValue text → ⊥) → ⊥) → value_of text ≡ Some text
value_there text h = rw (passes (all_pass is_value_byte text) h) refl

pub name_there : (text : List ℕ) → ((IsFieldName text → ⊥) → ⊥) → name_of text ≡ Some (lowercase text)
name_there text h = rw (passes (name_decides text) h) refl

pub no_name : (text : List ℕ) → (IsFieldName text → ⊥) → name_of text ≡ None
no_name text h = rw (fails (name_decides text) h) refl

-- an array of fewer or more than two elements is no pair of texts
pub no_pair : (ds : List Data) → length ds ≢ 2 → text_pair ds ≡ None
no_pair [] other = refl
no_pair (name ∷ []) other = refl
no_pair (name ∷ value ∷ []) other = absurd (other refl)
no_pair (name ∷ value ∷ next ∷ ds) other = refl

-- the two texts of an array's elements
pub pair_in : (d : Data) (values : List Value) → Some (items_view values) ≡ as_array d → option_and_then text_pair (as_elements d) ≡ text_pair (map view values)
pair_in d values form = rw (← form, elements_view) refl

-- the members that count
abbrev pub given : List (String Global × Value) → List (List ℕ × Data)
given entries = filter is_given (named (members_view entries))

pub given_null : (e : String Global × Value) (entries : List (String Global × Value)) → is_some (as_null (view e.1)) ≡ true → given (e ∷ entries) ≡ given entries
given_null e entries is = rw is refl

pub given_more : (e : String Global × Value) (entries : List (String Global × Value)) → is_some (as_null (view e.1)) ≡ false → given (e ∷ entries) ≡ (string_bytes e.0, view e.1) ∷ given entries
given_more e entries is = rw is refl

-- the fields of an array
pub pairs_in : (d : Data) (values : List Value) → None ≡ as_object d → Some (items_view values) ≡ as_array d → fields_in d ≡ each pair_field (map view values)
pairs_in d values other form = rw (← other, ← form, elements_view) refl
