-- The first field of a name.
use Rattle.std.proofs.Common.{◌≡◌, ℕ, suc, ◌+◌, ◌<◌, true, false, List, ◌∷◌, length, get_or, drop, refl, sym, ap, ◌∙◌, add-one, drop-cons}
use Rattle.gp_plain.specs.declared.item.Field.{Field}
use Rattle.gp_body.specs.Plans.{is_named, named}

-- the fields from one on
from_field : (fields : List Field) (i : ℕ) (field : Field) → i < length fields → field ≡ get_or fields i field → drop i fields ≡ field ∷ drop (i + 1) fields
from_field fields i field inside is = rw (add-one, drop-cons fields i field) (ap (λ (f : Field). f ∷ drop (suc i) fields) (sym is))

pub found : (name : List ℕ) (fields : List Field) (i : ℕ) (field : Field) → i < length fields → field ≡ get_or fields i field → is_named name field ≡ true
    → named name (drop i fields) ≡ named name fields → named name fields ≡ field ∷ named name (drop (i + 1) fields)
found name fields i field inside is same before =
    sym before ∙ ap (named name) (from_field fields i field inside is) ∙ rw same refl

pub passed : (name : List ℕ) (fields : List Field) (i : ℕ) (field : Field) → i < length fields → field ≡ get_or fields i field → is_named name field ≡ false
    → named name (drop i fields) ≡ named name fields → named name (drop (i + 1) fields) ≡ named name fields
passed name fields i field inside is other before =
    let here : named name (drop i fields) ≡ named name (drop (i + 1) fields) = ap (named name) (from_field fields i field inside is) ∙ rw other refl in
    sym here ∙ before
