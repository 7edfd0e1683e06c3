-- The name that bytes spell, or the first reason why they spell none.
use Rattle.std.proofs.Common.{◌≡◌, ℕ, ◌+◌, ◌<◌, ◌≤◌, ◌⊎◌, inl, inr, zero, suc, eqb, Bool, true, false, List, length, Some, None, Ok, refl, sym, ap, ◌∙◌, arith, lt-ltb, le-ltb}
use Rattle.std.specs.List.{find, range_with_len}
use Rattle.std.proofs.lemmas.Bool.{cases_lt, ne_eqb}
use Rattle.gp_plain.specs.Names.{IsName, IsNameFault, is_bad_at}
use Rattle.gp_plain.specs.declared.name.NameFault.{NameFault}
use Rattle.gp_plain.specs.declared.name.NameFault.TheVariants.{Empty, Long, Byte, NoMemory}
use Rattle.gp_items.specs.Names.{name_of, first_bad, named}
use Rattle.gp_items.specs.Faults.{of_name, IsItemFaultOf}

find_none : (p : ℕ → Bool) (from count : ℕ) → ((k : ℕ) → from ≤ k → k < from + count → p k ≡ false) → find p (range_with_len from count) ≡ None
find_none p from zero fails = refl
find_none p from (suc count) fails =
    let here : p from ≡ false = fails from (omega arith) (omega arith) in
    rw here (find_none p (from + 1) count (λ k low high. fails k (omega arith) (omega arith)))

find_at : (p : ℕ → Bool) (from count place : ℕ) → from ≤ place → place < from + count → p place ≡ true → ((k : ℕ) → from ≤ k → k < place → p k ≡ false)
    → find p (range_with_len from count) ≡ Some place
find_at p from zero place low high passes fails = absurd (omega arith)
find_at p from (suc count) place low high passes fails =
    by_order (cases_lt from place) (λ before. find_at p (from + 1) count place (omega arith) (omega arith) passes (λ k low' high'. fails k (omega arith) high'))
  where
    by_order : (from < place) ⊎ (place ≤ from) → (from < place → find p (range_with_len (from + 1) count) ≡ Some place) → find p (range_with_len from (suc count)) ≡ Some place
    by_order (inl before) later =
        let here : p from ≡ false = fails from (omega arith) before in
        rw here (later before)
    by_order (inr at) later =
        let same : place ≡ from = omega arith in
        let here : p from ≡ true = ap p (sym same) ∙ passes in
        rw here (ap Some (sym same))

not_short : (bytes : List ℕ) → 0 < length bytes → eqb (length bytes) 0 ≡ false
not_short bytes some = ne_eqb (length bytes) 0 (omega arith)

pub name_is : (bytes : List ℕ) → IsName bytes → name_of bytes ≡ Ok bytes
unfolding name_of
name_is bytes name =
    let none : first_bad bytes ≡ None = find_none (is_bad_at bytes) 0 (length bytes) (λ k low high. name.clean k (omega arith)) in
    rw (not_short bytes name.some, le-ltb 255 (length bytes) name.short, none) refl

-- a name that is read
pub good_name : (text name : List ℕ) → (name ≡ text) × IsName text → named (name_of text) ≡ Ok name
good_name text name h = ap named (name_is text h.1 ∙ ap Ok (sym h.0))

-- a fault is the one that the definition has
pub name_fault : (text : List ℕ) (fault : NameFault) → IsNameFault text fault → IsItemFaultOf (named (name_of text)) (of_name fault)
unfolding name_of
name_fault text Empty empty = rw empty refl
name_fault text (Long n) long =
    let some : 0 < length text = omega (arith, long.0) in
    rw (not_short text some, lt-ltb 255 (length text) long.0, long.1) refl
name_fault text (Byte place) bad =
    let found : first_bad text ≡ Some place = find_at (is_bad_at text) 0 (length text) place (omega arith) (omega (arith, bad.2.within)) bad.2.bad (λ k low high. bad.2.before k high) in
    rw (not_short text bad.0, le-ltb 255 (length text) bad.1, found) refl
name_fault text NoMemory none = tt
