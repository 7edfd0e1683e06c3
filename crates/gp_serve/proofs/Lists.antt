-- Lists that are read place by place, or from their front.
use Rattle.std.proofs.Common.{◌≡◌, ℕ, zero, suc, List, [], ◌∷◌, ◌++◌, take, drop, slice_get, Some, None, unwrap_or, refl, sym, ap, ◌∙◌, append_assoc}
use Rattle.std.specs.List.{flat_map}

absurd_some : {A B : Type 0} {x : A} → None ≡ Some x → B
absurd_some e = cc

nil_right : {A : Type 0} (xs : List A) → xs ++ [] ≡ xs
nil_right [] = refl
nil_right (x ∷ xs) = ap (λ ys. x ∷ ys) (nil_right xs)

some_same : {T : Type 0} (y x : T) → Some y ≡ Some x → y ≡ x
some_same y x e = ap (λ o. unwrap_or o y) e

-- one more item
pub flat_map_more : {T : Type 0} (f : T → List ℕ) (xs : List T) (i : ℕ) (x : T) → slice_get xs i ≡ Some x → flat_map f (take (suc i) xs) ≡ flat_map f (take i xs) ++ f x
flat_map_more f [] i x e = absurd_some e
flat_map_more f (y ∷ ys) zero x e = nil_right (f y) ∙ ap f (some_same y x e)
flat_map_more f (y ∷ ys) (suc i) x e = ap (λ b. f y ++ b) (flat_map_more f ys i x e) ∙ sym (append_assoc (f y) (flat_map f (take i ys)) (f x))

-- the first item, and the rest
pub first_rest : {T : Type 0} (xs : List T) (x : T) → Some x ≡ slice_get xs 0 → xs ≡ x ∷ drop 1 xs
first_rest [] x e = absurd_some (sym e)
first_rest (y ∷ ys) x e = ap (λ z. z ∷ ys) (some_same y x (sym e))

pub none_left : {T : Type 0} (xs : List T) → None ≡ slice_get xs 0 → xs ≡ []
none_left [] e = refl
none_left (y ∷ ys) e = absurd_some e
