-- Numbers that rise, and a list that loses one or gets one more.
use Rattle.std.proofs.Common.{◌≡◌, ℕ, zero, suc, ◌+◌, ◌<◌, ◌≤◌, List, [], ◌∷◌, ◌++◌, length, map, get_or, arith, refl, sym, ap, subst}
use Rattle.std.specs.List.{remove}
use Rattle.gp_registry.specs.Stages.{Rises, AllBelow}

rises_above : (low : ℕ) (ns : List ℕ) → Rises low ns → (j : ℕ) → j < length ns → low ≤ get_or ns j 0
rises_above low [] r j h = absurd (omega arith)
rises_above low (n ∷ ns) r zero h = r.0
rises_above low (n ∷ ns) r (suc j) h =
    let next : n + 1 ≤ get_or ns j 0 = rises_above (n + 1) ns r.1 j (omega arith) in
    omega (arith, r.0)

pub rises_le : (low : ℕ) (ns : List ℕ) → Rises low ns → (i j : ℕ) → i ≤ j → j < length ns → get_or ns i 0 ≤ get_or ns j 0
rises_le low [] r i j le h = absurd (omega arith)
rises_le low (n ∷ ns) r zero zero le h = omega arith
rises_le low (n ∷ ns) r zero (suc j) le h =
    let next : n + 1 ≤ get_or ns j 0 = rises_above (n + 1) ns r.1 j (omega arith) in
    omega arith
rises_le low (n ∷ ns) r (suc i) zero le h = absurd (omega arith)
rises_le low (n ∷ ns) r (suc i) (suc j) le h = rises_le (n + 1) ns r.1 i j (omega arith) (omega arith)

rises_from : (low high : ℕ) (ns : List ℕ) → low ≤ high → Rises high ns → Rises low ns
rises_from low high [] le r = tt
rises_from low high (n ∷ ns) le r = (omega (arith, r.0), r.1)

pub rises_push : (low high : ℕ) (ns : List ℕ) → Rises low ns → AllBelow high ns → low ≤ high → Rises low (ns ++ high ∷ [])
rises_push low high [] r b le = (le, tt)
rises_push low high (n ∷ ns) r b le = (r.0, rises_push (n + 1) high ns r.1 b.1 (omega (arith, b.0)))

pub below_push : (high : ℕ) (ns : List ℕ) → AllBelow high ns → AllBelow (high + 1) (ns ++ high ∷ [])
below_push high [] b = (omega arith, tt)
below_push high (n ∷ ns) b = (omega (arith, b.0), below_push high ns b.1)

nothing : (i : ℕ) → remove {X = ℕ} [] i ≡ []
nothing zero = refl
nothing (suc i) = refl

pub rises_remove : (low : ℕ) (ns : List ℕ) (i : ℕ) → Rises low ns → Rises low (remove ns i)
rises_remove low [] i r = subst (Rises low) (sym (nothing i)) tt
rises_remove low (n ∷ ns) zero r = rises_from low (n + 1) ns (omega (arith, r.0)) r.1
rises_remove low (n ∷ ns) (suc i) r = (r.0, rises_remove (n + 1) ns i r.1)

pub below_remove : (high : ℕ) (ns : List ℕ) (i : ℕ) → AllBelow high ns → AllBelow high (remove ns i)
below_remove high [] i b = subst (AllBelow high) (sym (nothing i)) tt
below_remove high (n ∷ ns) zero b = b.1
below_remove high (n ∷ ns) (suc i) b = (b.0, below_remove high ns i b.1)

pub map-remove : {A B : Type 0} (f : A → B) (xs : List A) (i : ℕ) → map f (remove xs i) ≡ remove (map f xs) i
map-remove f [] zero = refl
map-remove f [] (suc i) = refl
map-remove f (x ∷ xs) zero = refl
map-remove f (x ∷ xs) (suc i) = ap (λ ys. f x ∷ ys) (map-remove f xs i)
