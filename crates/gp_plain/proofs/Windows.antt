-- The last items of a list, and one more.
use Rattle.std.proofs.Common.{◌≡◌, ℕ, zero, suc, ◌+◌, ◌-◌, ◌≤◌, Bool, true, false, cond, nat_lt, List, [], ◌∷◌, ◌++◌, length, drop, refl, sym, ap, ◌∙◌, subst, arith}
use Rattle.std.specs.List.{AllByRecursion}
use Rattle.std.proofs.lemmas.Bool.Decides.{nat_tests}
use Rattle.std.proofs.lemmas.List.{length-append, length-drop, drop-append-le, drop-drop}
use Rattle.gp_plain.specs.declared.item.Item.{Item}
use Rattle.gp_plain.specs.Follow.{last_items}

push_by : (n : ℕ) (xs : List Item) (x : Item) (b : Bool) → nat_lt n 4096 ≡ b → length xs ≡ n
    → drop (n + 1 - 4096) (xs ++ x ∷ []) ≡ cond b (drop (n - 4096) xs ++ x ∷ []) (drop 1 (drop (n - 4096) xs ++ x ∷ []))
push_by n xs x true e l =
    let few : n + 1 - 4096 ≡ 0 = grind (arith, nat_tests, e) in
    let less : n - 4096 ≡ 0 = grind (arith, nat_tests, e) in
    ap (λ k. drop k (xs ++ x ∷ [])) few ∙ ap (λ k. drop k xs ++ x ∷ []) (sym less)
push_by n xs x false e l =
    let more : n + 1 - 4096 ≡ (n - 4096) + 1 = grind (arith, nat_tests, e) in
    let within : n - 4096 ≤ length xs = omega (arith, l) in
    ap (λ k. drop k (xs ++ x ∷ [])) more ∙ sym (drop-drop 1 (n - 4096) (xs ++ x ∷ [])) ∙ ap (drop 1) (drop-append-le (n - 4096) xs (x ∷ []) within)

-- one more item pushes the first of 4,096 out
pub last_push : (xs : List Item) (x : Item) → last_items (xs ++ x ∷ []) ≡ cond (nat_lt (length xs) 4096) (last_items xs ++ x ∷ []) (drop 1 (last_items xs ++ x ∷ []))
last_push xs x = ap (λ n. drop (n - 4096) (xs ++ x ∷ [])) (length-append xs (x ∷ [])) ∙ push_by (length xs) xs x (nat_lt (length xs) 4096) refl refl

pub drop_all : (P : Item → Type 0) (n : ℕ) (xs : List Item) → AllByRecursion P xs → AllByRecursion P (drop n xs)
drop_all P zero xs all = all
drop_all P (suc n) [] all = tt
drop_all P (suc n) (x ∷ xs) all = drop_all P n xs all.1

pub all_snoc : (P : Item → Type 0) (xs : List Item) (x : Item) → AllByRecursion P xs → P x → AllByRecursion P (xs ++ x ∷ [])
all_snoc P [] x all p = (p, tt)
all_snoc P (y ∷ xs) x all p = (all.0, all_snoc P xs x all.1 p)

pub all_front : (P : Item → Type 0) (xs : List Item) (x : Item) → AllByRecursion P (xs ++ x ∷ []) → AllByRecursion P xs
all_front P [] x all = tt
all_front P (y ∷ xs) x all = (all.0, all_front P xs x all.1)

pub all_last : (P : Item → Type 0) (xs : List Item) (x : Item) → AllByRecursion P (xs ++ x ∷ []) → P x
all_last P [] x all = all.0
all_last P (y ∷ xs) x all = all_last P xs x all.1

trimmed : (P : Item → Type 0) (xs : List Item) (b : Bool) → AllByRecursion P xs → AllByRecursion P (cond b xs (drop 1 xs))
trimmed P xs true all = all
trimmed P xs false all = drop_all P 1 xs all

-- one more item behind the last ones gives the last ones
pub last_push_again : (xs : List Item) (x : Item) → last_items (xs ++ x ∷ []) ≡ last_items (last_items xs ++ x ∷ [])
last_push_again xs x =
    let kept = length-drop (length xs - 4096) xs in
    let more = length-append xs (x ∷ []) in
    let some = length-append (last_items xs) (x ∷ []) in
    let within : length xs - 4096 ≤ length xs = omega arith in
    let same : (length xs - 4096) + (length (last_items xs ++ x ∷ []) - 4096) ≡ length (xs ++ x ∷ []) - 4096 = omega (arith, kept, more, some) in
    sym (ap (drop (length (last_items xs ++ x ∷ []) - 4096)) (sym (drop-append-le (length xs - 4096) xs (x ∷ []) within)) ∙ drop-drop (length (last_items xs ++ x ∷ []) - 4096) (length xs - 4096) (xs ++ x ∷ []) ∙ ap (λ n. drop n (xs ++ x ∷ [])) same)

-- what holds of a window and of a further item holds of the window with it
pub window_more : (P : Item → Type 0) (xs : List Item) (x : Item) → P x → AllByRecursion P (last_items xs) → AllByRecursion P (last_items (xs ++ x ∷ []))
window_more P xs x p all = subst (AllByRecursion P) (sym (last_push xs x)) (trimmed P (last_items xs ++ x ∷ []) (nat_lt (length xs) 4096) (all_snoc P (last_items xs) x all p))
