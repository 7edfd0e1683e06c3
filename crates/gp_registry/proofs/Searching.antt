-- What a search by number finds, and what a change of the hold that it found is to the kept holds.
use Rattle.std.proofs.Common.{◌≡◌, ◌≢◌, ℕ, zero, suc, ◌+◌, ◌<◌, ◌≤◌, ◌==◌, Bool, true, false, ltb, List, [], ◌∷◌, ◌++◌, length, map, get_or, Some, None, arith, refl, sym, ap, ◌∙◌, subst, eqb-true, eq-eqb, length-append}
use Rattle.std.specs.List.{AllWithin, remove}
use Rattle.std.proofs.Math.ListN.{set}
use Rattle.std.specs.List.Sorted.{IsNonDecreasingBy}
use Rattle.std.proofs.lemmas.List.{get_or-map, length-map, map-append}
use Rattle.std.proofs.lemmas.List.Edits.{length-remove}
use borrow.Author.Tests.{ltb-true, ltb-false}
use Rattle.gp_plain.specs.Standing.{Kept}
use Rattle.gp_registry.specs.declared.hold.Hold.{Hold}
use Rattle.gp_registry.specs.Stages.{kept_hold, number_of, Rises, AllBelow, IsInOrder}
use Rattle.gp_registry.specs.Places.{HasNone}
use Rattle.gp_registry.specs.Steps.{found, replaced, instead, kept_after_detach}
use Rattle.gp_registry.proofs.Numbers.{rises_le, rises_push, rises_remove, below_push, below_remove, map-remove}

pub rises_by : (hs : List Hold) → Rises 0 (map number_of hs) → IsNonDecreasingBy number_of hs
rises_by hs r i j d le h =
    let within : i < length hs = omega arith in
    let all : j < length (map number_of hs) = omega (arith, length-map hs number_of) in
    omega (arith, rises_le 0 (map number_of hs) r i j le all, get_or-map number_of hs i d 0 within, get_or-map number_of hs j d 0 h)

numbers_of : (hs : List Hold) → map (λ (k : Kept). k.number) (map kept_hold hs) ≡ map number_of hs
numbers_of [] = refl
numbers_of (h ∷ hs) = ap (λ ns. h.number ∷ ns) (numbers_of hs)

set_numbers : (i : ℕ) (hs : List Hold) (after d : Hold) → after.number ≡ (get_or hs i d).number → i < length hs → map number_of (set hs i after) ≡ map number_of hs
set_numbers i [] after d is h = absurd (omega arith)
set_numbers zero (x ∷ hs) after d is h = ap (λ n. n ∷ map number_of hs) is
set_numbers (suc i) (x ∷ hs) after d is h = ap (λ ns. x.number ∷ ns) (set_numbers i hs after d is (omega arith))

pub point_before : (hs : List Hold) (number place : ℕ) → place ≤ length hs → AllWithin (λ (h : Hold). ltb h.number number ≡ true) hs 0 place
    → (k : ℕ) → k < place → get_or (map number_of hs) k 0 < number
point_before [] number place le w k h = absurd (omega arith)
point_before (x ∷ hs) number place le w k h =
    let within : k < length (x ∷ hs) = omega arith in
    omega (arith, get_or-map number_of (x ∷ hs) k x 0 within, ltb-true _ _ (w k x (omega arith) h))

pub point_after : (hs : List Hold) (number place : ℕ) → AllWithin (λ (h : Hold). ltb h.number number ≡ false) hs place (length hs)
    → (k : ℕ) → place ≤ k → k < length hs → number ≤ get_or (map number_of hs) k 0
point_after [] number place w k le h = absurd (omega arith)
point_after (x ∷ hs) number place w k le h =
    omega (arith, get_or-map number_of (x ∷ hs) k x 0 h, ltb-false _ _ (w k x le h))

-- no number where the search ends is the one that is looked for
pub none_found : (ns : List ℕ) (number place : ℕ) → Rises 0 ns → ((k : ℕ) → k < place → get_or ns k 0 < number) → ((k : ℕ) → place ≤ k → k < length ns → number ≤ get_or ns k 0)
    → (place < length ns → get_or ns place 0 ≢ number) → HasNone ns number
none_found ns number place r before after other k h is = grind (arith, before k, after k, other, rises_le 0 ns r place k, after place)

differ : (a b : ℕ) (v : Bool) → (a == b) ≡ v → a ≢ b → (a == b) ≡ false
differ a b true e ne = absurd (ne (eqb-true a b e))
differ a b false e ne = e

pub apart : (a b : ℕ) → a ≢ b → (a == b) ≡ false
apart a b ne = differ a b (a == b) refl ne

later : (h : Hold) (hs : List Hold) (number i : ℕ) → ((j : ℕ) → j < suc i → get_or (map number_of (h ∷ hs)) j 0 ≢ number)
    → (j : ℕ) → j < i → get_or (map number_of hs) j 0 ≢ number
later h hs number i before j lt = before (suc j) (omega arith)

pub found_at : (number i : ℕ) (hs : List Hold) (d : Hold) → i < length hs → get_or (map number_of hs) i 0 ≡ number
    → ((j : ℕ) → j < i → get_or (map number_of hs) j 0 ≢ number) → found number (map kept_hold hs) ≡ Some (kept_hold (get_or hs i d))
found_at number i [] d h here before = absurd (omega arith)
found_at number zero (x ∷ hs) d h here before = rw (eq-eqb x.number number here) refl
found_at number (suc i) (x ∷ hs) d h here before = rw (apart x.number number (before 0 (omega arith))) (found_at number i hs d (omega arith) here (later x hs number i before))

pub found_none : (number : ℕ) (hs : List Hold) → HasNone (map number_of hs) number → found number (map kept_hold hs) ≡ None
found_none number [] none = refl
found_none number (x ∷ hs) none = rw (apart x.number number (none 0 (omega arith))) (found_none number hs (λ j h. none (suc j) (omega arith)))

pub replaced_none : (who number : ℕ) (change : Kept → List Kept) (hs : List Hold) → HasNone (map number_of hs) number → replaced who number change (map kept_hold hs) ≡ map kept_hold hs
replaced_none who number change [] none = refl
replaced_none who number change (x ∷ hs) none =
    rw (apart x.number number (none 0 (omega arith))) (ap (λ ks. kept_hold x ∷ ks) (replaced_none who number change hs (λ j h. none (suc j) (omega arith))))

pub replaced_foreign : (who number i : ℕ) (change : Kept → List Kept) (hs : List Hold) (d : Hold) → i < length hs → get_or (map number_of hs) i 0 ≡ number
    → ((j : ℕ) → j < i → get_or (map number_of hs) j 0 ≢ number) → ((get_or hs i d).owner == who) ≡ false
    → replaced who number change (map kept_hold hs) ≡ map kept_hold hs
replaced_foreign who number i change [] d h here before other = absurd (omega arith)
replaced_foreign who number zero change (x ∷ hs) d h here before other = rw (eq-eqb x.number number here, other) refl
replaced_foreign who number (suc i) change (x ∷ hs) d h here before other =
    rw (apart x.number number (before 0 (omega arith))) (ap (λ ks. kept_hold x ∷ ks) (replaced_foreign who number i change hs d (omega arith) here (later x hs number i before) other))

-- where the owner asks, the hold that was found becomes another
pub replaced_own : (who number i : ℕ) (change : Kept → List Kept) (hs : List Hold) (d : Hold) → i < length hs → get_or (map number_of hs) i 0 ≡ number
    → ((j : ℕ) → j < i → get_or (map number_of hs) j 0 ≢ number) → ((get_or hs i d).owner == who) ≡ true
    → replaced who number change (map kept_hold hs) ≡ instead i change (map kept_hold hs)
replaced_own who number i change [] d h here before own = absurd (omega arith)
replaced_own who number zero change (x ∷ hs) d h here before own = rw (eq-eqb x.number number here, own) refl
replaced_own who number (suc i) change (x ∷ hs) d h here before own =
    rw (apart x.number number (before 0 (omega arith))) (ap (λ ks. kept_hold x ∷ ks) (replaced_own who number i change hs d (omega arith) here (later x hs number i before) own))

pub instead_set : (i : ℕ) (change : Kept → List Kept) (hs : List Hold) (d after : Hold) → i < length hs → change (kept_hold (get_or hs i d)) ≡ kept_hold after ∷ []
    → map kept_hold (set hs i after) ≡ instead i change (map kept_hold hs)
instead_set i change [] d after h is = absurd (omega arith)
instead_set zero change (x ∷ hs) d after h is = ap (λ (ks : List Kept). ks ++ map kept_hold hs) (sym is)
instead_set (suc i) change (x ∷ hs) d after h is = ap (λ ks. kept_hold x ∷ ks) (instead_set i change hs d after (omega arith) is)

pub instead_removed : (i : ℕ) (change : Kept → List Kept) (hs : List Hold) (d : Hold) → i < length hs → change (kept_hold (get_or hs i d)) ≡ []
    → map kept_hold (remove hs i) ≡ instead i change (map kept_hold hs)
instead_removed i change [] d h is = absurd (omega arith)
instead_removed zero change (x ∷ hs) d h is = ap (λ (ks : List Kept). ks ++ map kept_hold hs) (sym is)
instead_removed (suc i) change (x ∷ hs) d h is = ap (λ ks. kept_hold x ∷ ks) (instead_removed i change hs d (omega arith) is)

pub instead_other : (i : ℕ) (change : Kept → List Kept) (hs : List Hold) (d after : Hold) → i < length hs → change (kept_hold (get_or hs i d)) ≡ []
    → instead i kept_after_detach (map kept_hold (set hs i after)) ≡ instead i change (map kept_hold hs)
instead_other i change [] d after h is = absurd (omega arith)
instead_other zero change (x ∷ hs) d after h is = ap (λ (ks : List Kept). ks ++ map kept_hold hs) (sym is)
instead_other (suc i) change (x ∷ hs) d after h is = ap (λ ks. kept_hold x ∷ ks) (instead_other i change hs d after (omega arith) is)

pub order_removed : (next i : ℕ) (hs : List Hold) → i < length hs → IsInOrder next hs → IsInOrder next (remove hs i)
order_removed next i hs h o = record {
  few = omega (arith, length-remove hs i h, o.few);
  rises = subst (Rises 0) (sym (map-remove number_of hs i)) (rises_remove 0 (map number_of hs) i o.rises);
  given = subst (AllBelow next) (sym (map-remove number_of hs i)) (below_remove next (map number_of hs) i o.given);
}

pub order_same : (next : ℕ) (hs after : List Hold) → map kept_hold after ≡ map kept_hold hs → IsInOrder next hs → IsInOrder next after
order_same next hs after is o =
    let numbers : map number_of after ≡ map number_of hs = sym (numbers_of after) ∙ ap (map (λ (k : Kept). k.number)) is ∙ numbers_of hs in
    record {
      few = omega (arith, ap length numbers, length-map after number_of, length-map hs number_of, o.few);
      rises = subst (Rises 0) (sym numbers) o.rises;
      given = subst (AllBelow next) (sym numbers) o.given;
    }

pub order_set : (next i : ℕ) (hs : List Hold) (after d : Hold) → after.number ≡ (get_or hs i d).number → i < length hs → IsInOrder next hs → IsInOrder next (set hs i after)
order_set next i hs after d is h o =
    let numbers : map number_of (set hs i after) ≡ map number_of hs = set_numbers i hs after d is h in
    record {
      few = omega (arith, ap length numbers, length-map (set hs i after) number_of, length-map hs number_of, o.few);
      rises = subst (Rises 0) (sym numbers) o.rises;
      given = subst (AllBelow next) (sym numbers) o.given;
    }

order_push : (next : ℕ) (hs : List Hold) (h : Hold) → h.number ≡ next → length hs < 4096 → IsInOrder next hs → IsInOrder (next + 1) (hs ++ h ∷ [])
order_push next hs h is few o =
    let numbers : map number_of (hs ++ h ∷ []) ≡ map number_of hs ++ next ∷ [] = map-append number_of hs (h ∷ []) ∙ ap (λ n. map number_of hs ++ n ∷ []) is in
    record {
      few = omega (arith, length-append hs (h ∷ []));
      rises = subst (Rises 0) (sym numbers) (rises_push 0 next (map number_of hs) o.rises o.given (omega arith));
      given = subst (AllBelow (next + 1)) (sym numbers) (below_push next (map number_of hs) o.given);
    }

pub order_pushed : (next : ℕ) (was room after : List Hold) (h : Hold) → after ≡ room ++ h ∷ [] → room ≡ was → h.number ≡ next → length was < 4096 → IsInOrder next was → IsInOrder (next + 1) after
order_pushed next was room after h pushed same is few o = subst (IsInOrder (next + 1)) (sym (pushed ∙ ap (λ hs. hs ++ h ∷ []) same)) (order_push next was h is few o)
