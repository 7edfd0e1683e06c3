-- Lists that are taken from their front.
use Rattle.std.proofs.Common.{◌≡◌, ◌+◌, List, [], ◌∷◌, ◌++◌, append_assoc, length, map, drop, slice_get, sym, refl, ap, subst, ◌∙◌, arith, Some, None, rules}
use Rattle.std.specs.List.{All}
use Rattle.std.proofs.lemmas.List.Elements.{All-head, All-tail}
use Rattle.gp_workers.proofs.Working.{map_push}

module _ {A : Type 0} where
  pub first_split : (xs : List A) (x : A) → slice_get xs 0 ≡ Some x → xs ≡ x ∷ drop 1 xs
  first_split [] x is = absurd (search rules)
  first_split (y ∷ ys) x is = cc

  pub none_first : (xs : List A) → slice_get xs 0 ≡ None → xs ≡ []
  none_first [] is = refl
  none_first (y ∷ ys) is = absurd (search rules)

  -- what was done and what is left
  pub moved_on : (all done xs : List A) (x : A) → all ≡ done ++ xs → slice_get xs 0 ≡ Some x → all ≡ (done ++ x ∷ []) ++ drop 1 xs
  moved_on all done xs x is first = is ∙ (ap (λ (l : List A). done ++ l) (first_split xs x first) ∙ sym (append_assoc done (x ∷ []) (drop 1 xs)))

  pub length_first : (xs : List A) (x : A) → slice_get xs 0 ≡ Some x → length xs ≡ length (drop 1 xs) + 1
  length_first xs x first = let a : length xs ≡ length (x ∷ drop 1 xs) = ap (λ (l : List A). length l) (first_split xs x first) in omega arith

  pub first_of : (P : A → Type 0) (xs : List A) (x : A) → All P xs → slice_get xs 0 ≡ Some x → P x
  first_of P xs x all first = All-head P x (drop 1 xs) (subst (All P) (first_split xs x first) all)

  pub rest_of : (P : A → Type 0) (xs : List A) (x : A) → All P xs → slice_get xs 0 ≡ Some x → All P (drop 1 xs)
  rest_of P xs x all first = All-tail P x (drop 1 xs) (subst (All P) (first_split xs x first) all)

module _ {A B : Type 0} where
  pub map_moved : (f : A → B) (ws : List A) (w : A) (ks all : List B) → slice_get ks 0 ≡ Some (f w) → map f ws ++ ks ≡ all → map f (ws ++ w ∷ []) ++ drop 1 ks ≡ all
  map_moved f ws w ks all first is =
      ap (λ (l : List B). l ++ drop 1 ks) (map_push f ws w) ∙ (append_assoc (map f ws) (f w ∷ []) (drop 1 ks) ∙ (ap (λ (l : List B). map f ws ++ l) (sym (first_split ks (f w) first)) ∙ is))
