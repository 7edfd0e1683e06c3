-- The path and query of a target, with `/` where the path is empty, is a target that is split.
use Rattle.std.proofs.Common.{◌≡◌, ◌≢◌, ℕ, zero, suc, ◌+◌, ◌<◌, ◌≤◌, ◌⊎◌, inl, inr, Bool, true, false, cond, eqb, ltb, List, [], ◌∷◌, ◌++◌, length, get_or, take, drop, Option, Some, None, refl, sym, ap, ◌∙◌, subst, arith, codes, lt-ltb, le-ltb, lit<, length-append, length-take, get_or-take}
use Rattle.std.specs.Prelude.{IfSome}
use Rattle.std.proofs.lemmas.Bool.{cases_lt, eqb-true, cond-true, cond-false}
use Rattle.std.proofs.lemmas.List.{take_all}
use Rattle.std.proofs.lemmas.List.Elements.{All-nil, All-cons}
use Rattle.std.proofs.lemmas.Str.{IsUtf8-append, IsUtf8-from_ascii}
use Rattle.std.proofs.lemmas.Str.Ascii.{IsAscii-cons, IsAscii-nil}
use Rattle.httparse.specs.Grammar.{AllPass}
use Rattle.http_uri.specs.ByteClasses.{is_path_byte, is_query_byte, index_of, split_once_front, split_once_back}
use Rattle.http_uri.specs.Grammar.{IsPathAndQuery, IsTail, or_slash, without_fragment}
use Rattle.http_uri.proofs.RunLemmas.{index_of_is, index_of_found, index_of_before, index_of_le}
use Rattle.gp_head.specs.Targets.{IsSplit}
use Rattle.gp_head.specs.Writable.{with_slash}

-- a byte doesn't stand in the text
abbrev Lacks : ℕ → List ℕ → Type 0
Lacks c xs = (k : ℕ) → k < length xs → get_or xs k 0 ≢ c

lacks_front : (c : ℕ) (text : List ℕ) → Lacks c (split_once_front c text)
lacks_front c text k less e =
    let inside : k < index_of c text = omega (arith, less, length-take (index_of c text) text) in
    index_of_before c text k inside (sym (get_or-take (index_of c text) text k 0 inside) ∙ e)

lacks_whole : (c : ℕ) (xs : List ℕ) → Lacks c xs → xs ≡ split_once_front c xs
lacks_whole c xs lacks =
    let end : index_of c xs ≡ length xs = index_of_is c xs (length xs) (omega arith) lacks (λ less. absurd (omega arith)) in
    sym (ap (λ (n : ℕ). take n xs) end ∙ take_all (length xs) xs (omega arith))

lacks_first : (s c : ℕ) (xs : List ℕ) → s ≢ c → Lacks c xs → Lacks c (s ∷ xs)
lacks_first s c xs other lacks zero less e = other e
lacks_first s c xs other lacks (suc k) less e = lacks k (omega arith) e

-- a text with another byte before it
module _ (s c : ℕ) (xs : List ℕ) (other : s ≢ c) where
  before : (k : ℕ) → k < suc (index_of c xs) → get_or (s ∷ xs) k 0 ≢ c
  before zero less e = other e
  before (suc k) less e = index_of_before c xs k (omega arith) e

  mark_behind : index_of c (s ∷ xs) ≡ suc (index_of c xs)
  mark_behind = index_of_is c (s ∷ xs) (suc (index_of c xs)) (omega (arith, index_of_le c xs)) before (λ less. index_of_found c xs (omega arith))

  front_behind : (test : ℕ → Bool) → test s ≡ true → AllPass test (split_once_front c xs) → AllPass test (split_once_front c (s ∷ xs))
  front_behind test first all =
      subst (λ (n : ℕ). AllPass test (take n (s ∷ xs))) (sym mark_behind) (All-cons (λ (b : ℕ). test b ≡ true) s (take (index_of c xs) xs) first all)

  back_behind : (test : ℕ → Bool) → IfSome (split_once_back c xs) (AllPass test) → IfSome (split_once_back c (s ∷ xs)) (AllPass test)
  back_behind test all = subst (λ (n : ℕ). IfSome (cond (ltb n (length (s ∷ xs))) (Some (drop (n + 1) (s ∷ xs))) None) (AllPass test)) (sym mark_behind) (by_mark (cases_lt (index_of c xs) (length xs)))
    where
      by_mark : (index_of c xs < length xs) ⊎ (length xs ≤ index_of c xs) → IfSome (cond (ltb (suc (index_of c xs)) (length (s ∷ xs))) (Some (drop (suc (index_of c xs) + 1) (s ∷ xs))) None) (AllPass test)
      by_mark (inl less) =
          let some : AllPass test (drop (index_of c xs + 1) xs) = subst (λ (o : Option (List ℕ)). IfSome o (AllPass test)) (cond-true (ltb (index_of c xs) (length xs)) (Some (drop (index_of c xs + 1) xs)) None (lt-ltb (index_of c xs) (length xs) less)) all in
          let same : drop (suc (index_of c xs) + 1) (s ∷ xs) ≡ drop (index_of c xs + 1) xs = ap (λ (n : ℕ). drop n (s ∷ xs)) (suc_behind (index_of c xs)) in
          subst (λ (o : Option (List ℕ)). IfSome o (AllPass test)) (sym (cond-true (ltb (suc (index_of c xs)) (length (s ∷ xs))) (Some (drop (suc (index_of c xs) + 1) (s ∷ xs))) None (lt-ltb (suc (index_of c xs)) (length (s ∷ xs)) (omega arith))))
          (subst (AllPass test) (sym same) some)
        where
          suc_behind : (n : ℕ) → suc n + 1 ≡ suc (n + 1)
          suc_behind n = omega arith
      by_mark (inr most) = subst (λ (o : Option (List ℕ)). IfSome o (AllPass test)) (sym (cond-false (ltb (suc (index_of c xs)) (length (s ∷ xs))) (Some (drop (suc (index_of c xs) + 1) (s ∷ xs))) None (le-ltb (suc (index_of c xs)) (length (s ∷ xs)) (omega arith)))) tt

slash_path : (xs : List ℕ) → IsPathAndQuery xs → length xs < 65534 → IsPathAndQuery (47 ∷ xs)
slash_path xs is short = record {
  start = inr (inr (inl refl));
  path = front_behind 47 63 xs (λ e. absurd (omega (arith, e))) is_path_byte refl is.path;
  query = back_behind 47 63 xs (λ e. absurd (omega (arith, e))) is_query_byte is.query;
  utf8 = IsUtf8-append (47 ∷ []) xs (IsUtf8-from_ascii (47 ∷ []) (IsAscii-cons 47 [] (lit< tt) IsAscii-nil)) is.utf8;
  short = omega arith;
}

no_path : IsPathAndQuery []
no_path = record {
  start = inl refl;
  path = All-nil (λ (b : ℕ). is_path_byte b ≡ true);
  query = tt;
  utf8 = IsUtf8-from_ascii [] IsAscii-nil;
  short = omega arith;
}

-- such a path and query is split
record IsSlashed (q : List ℕ) : Type 0 where
  first : get_or q 0 0 ≡ 47
  is : IsPathAndQuery q
  clean : Lacks 35 q

some_first : (q : List ℕ) → get_or q 0 0 ≡ 47 → 0 < length q
some_first [] e = absurd (omega arith)
some_first (x ∷ xs) e = omega arith

slashed_splits : (q : List ℕ) → IsSlashed q → (path : List ℕ) × (authority : Option (List ℕ)) × IsSplit q path authority
slashed_splits q s =
    let whole = lacks_whole 35 q s.clean in
    (or_slash q, None, (q, (s.first, (s.is.short, ((inr s.first, record { start = inr (rw s.first refl); short = s.is.short; kept = subst IsPathAndQuery whole s.is }), whole))), refl))

-- with a slash where there is none
with_one : (path : List ℕ) → IsPathAndQuery path → Lacks 35 path → (get_or path 0 0 ≡ 47) ⊎ (length path < 65534) → IsSlashed (with_slash path)
with_one path is clean fits = by_first (eqb (get_or path 0 0) 47) refl
  where
    fits_behind : eqb (get_or path 0 0) 47 ≡ false → (get_or path 0 0 ≡ 47) ⊎ (length path < 65534) → length path < 65534
    fits_behind e (inl first) = let same : eqb (get_or path 0 0) 47 ≡ true = rw first refl in cc
    fits_behind e (inr short) = short

    by_first : (t : Bool) → eqb (get_or path 0 0) 47 ≡ t → IsSlashed (with_slash path)
    by_first true e = subst IsSlashed (sym (cond-true (eqb (get_or path 0 0) 47) path (47 ∷ path) e)) (record { first = eqb-true (get_or path 0 0) 47 e; is = is; clean = clean })
    by_first false e = subst IsSlashed (sym (cond-false (eqb (get_or path 0 0) 47) path (47 ∷ path) e)) (record { first = refl; is = slash_path path is (fits_behind e fits); clean = lacks_first 47 35 path (λ e. absurd (omega (arith, e))) clean })

empty_path : IsSlashed (47 ∷ [])
empty_path = record { first = refl; is = slash_path [] no_path (omega arith); clean = lacks_first 47 35 [] (λ e. absurd (omega (arith, e))) (λ k less. absurd (omega arith)) }

or_one : (kept : List ℕ) → IsPathAndQuery kept → Lacks 35 kept → (get_or kept 0 0 ≡ 47) ⊎ (length kept < 65534) → IsSlashed (with_slash (or_slash kept))
or_one kept is clean fits = by_length (eqb (length kept) 0) refl
  where
    by_length : (t : Bool) → eqb (length kept) 0 ≡ t → IsSlashed (with_slash (or_slash kept))
    by_length true e = subst (λ (p : List ℕ). IsSlashed (with_slash p)) (sym (cond-true (eqb (length kept) 0) (47 ∷ []) kept e)) empty_path
    by_length false e = subst (λ (p : List ℕ). IsSlashed (with_slash p)) (sym (cond-false (eqb (length kept) 0) (47 ∷ []) kept e)) (with_one kept is clean fits)

first_kept : (text : List ℕ) → get_or text 0 0 ≡ 47 → get_or (without_fragment text) 0 0 ≡ 47
first_kept text first = by_mark (index_of 35 text) refl
  where
    by_mark : (n : ℕ) → index_of 35 text ≡ n → get_or (take n text) 0 0 ≡ 47
    by_mark zero e =
        let here : get_or text (index_of 35 text) 0 ≡ 35 = index_of_found 35 text (omega (arith, e, some_first text first)) in
        let never : get_or text 0 0 ≡ 35 = ap (λ (k : ℕ). get_or text k 0) (sym e) ∙ here in
        absurd (omega (arith, first, never))
    by_mark (suc n) e = get_or-take (suc n) text 0 0 (omega arith) ∙ first

pub path_splits : (target path : List ℕ) (authority : Option (List ℕ)) → IsSplit target path authority → (path' : List ℕ) × (authority' : Option (List ℕ)) × IsSplit (with_slash path) path' authority'
path_splits target path None split =
    let text = split.1.1.1 in
    let kept_is : split.0 ≡ without_fragment target = text.1 in
    slashed_splits (with_slash path) (subst (λ (p : List ℕ). IsSlashed (with_slash p)) (sym split.2)
    (or_one split.0 (subst IsPathAndQuery (sym kept_is) text.0.1.kept) (subst (Lacks 35) (sym kept_is) (lacks_front 35 target)) (inl (ap (λ (x : List ℕ). get_or x 0 0) kept_is ∙ first_kept target split.1.0))))
path_splits target path (Some authority) split =
    let form = split.1.2.1 in
    slashed_splits (with_slash path) (subst (λ (p : List ℕ). IsSlashed (with_slash p)) (sym split.2) (by_tail form.is_tail))
  where
    shorter : split.0 ≡ without_fragment split.1.2.1.tail → length split.0 < 65534
    shorter e =
        let form = split.1.2.1 in
        omega (arith, split.1.2.0, ap length form.spelled, length-append ((form.name ++ codes "://") ++ authority) form.tail, length-append (form.name ++ codes "://") authority, length-append form.name (codes "://"), ap length e, length-take (index_of 35 form.tail) form.tail)

    by_tail : IsTail split.1.2.1.tail split.0 → IsSlashed (with_slash (or_slash split.0))
    by_tail (inl none) = subst (λ (x : List ℕ). IsSlashed (with_slash (or_slash x))) (sym none.1) empty_path
    by_tail (inr some) = or_one split.0 (subst IsPathAndQuery (sym some.2) some.1.kept) (subst (Lacks 35) (sym some.2) (lacks_front 35 split.1.2.1.tail)) (inr (shorter some.2))
