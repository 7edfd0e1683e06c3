-- Sums over a list in which one element changes.
use Rattle.std.proofs.Common.{◌≡◌, ◌≢◌, ℕ, zero, suc, ◌+◌, ◌≤◌, List, [], ◌∷◌, set, sym, refl, ap, arith}
use Rattle.std.specs.List.{sum_by}
use Rattle.std.proofs.lemmas.List.Sums.{sum_by-cons}
use mathlib.Core.Option.{some, some-injective, some-ne-none}
use lib.ListN.{get_elem?}

module _ {A : Type 0} where
  pub sum-set : (f : A → ℕ) (vs : List A) (i : ℕ) (v w : A) → get_elem? vs i ≡ some v → sum_by f (set vs i w) + f v ≡ sum_by f vs + f w
  sum-set f [] i v w at = absurd (some-ne-none v (sym at))
  sum-set f (x ∷ xs) zero v w at = let e : f x ≡ f v = ap f (some-injective x v at) in omega (arith, sum_by-cons f x xs, sum_by-cons f w xs)
  sum-set f (x ∷ xs) (suc i) v w at = let h = sum-set f xs i v w at in omega (arith, sum_by-cons f x xs, sum_by-cons f x (set xs i w))

  pub sum-one : (f : A → ℕ) (vs : List A) (i : ℕ) (v : A) → get_elem? vs i ≡ some v → f v ≤ sum_by f vs
  sum-one f [] i v at = absurd (some-ne-none v (sym at))
  sum-one f (x ∷ xs) zero v at = let e : f x ≡ f v = ap f (some-injective x v at) in omega (arith, sum_by-cons f x xs)
  sum-one f (x ∷ xs) (suc i) v at = let h = sum-one f xs i v at in omega (arith, sum_by-cons f x xs)

  pub sum-two : (f : A → ℕ) (vs : List A) (i j : ℕ) (v w : A) → i ≢ j → get_elem? vs i ≡ some v → get_elem? vs j ≡ some w → f v + f w ≤ sum_by f vs
  sum-two f [] i j v w ne at bt = absurd (some-ne-none v (sym at))
  sum-two f (x ∷ xs) zero zero v w ne at bt = absurd (ne refl)
  sum-two f (x ∷ xs) zero (suc j) v w ne at bt = let e : f x ≡ f v = ap f (some-injective x v at) in let h = sum-one f xs j w bt in omega (arith, sum_by-cons f x xs)
  sum-two f (x ∷ xs) (suc i) zero v w ne at bt = let e : f x ≡ f w = ap f (some-injective x w bt) in let h = sum-one f xs i v at in omega (arith, sum_by-cons f x xs)
  sum-two f (x ∷ xs) (suc i) (suc j) v w ne at bt = let h = sum-two f xs i j v w (λ e. ne (ap suc e)) at bt in omega (arith, sum_by-cons f x xs)
