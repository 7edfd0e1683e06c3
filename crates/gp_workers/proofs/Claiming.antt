-- Each step on the word of claims keeps its rule.
use Rattle.std.proofs.Common.{◌≡◌, ◌≢◌, ℕ, zero, suc, ◌+◌, ◌%◌, ◌^◌, ◌<◌, ◌≤◌, List, [], ◌∷◌, ◌++◌, length, length-append, set, sym, refl, ap, ◌∙◌, subst, ⊎_elim, arith}
use Rattle.std.specs.List.{sum_by}
use Rattle.std.proofs.lemmas.List.Sums.{sum_by-cons, sum_by_push, sum_by-append}
use Rattle.std.proofs.lemmas.Bool.Decides.{nat_tests}
use mathlib.Core.Option.{none, some}
use lib.ListN.{get_elem?}
use Rattle.atomic_table.specs.Table.{step, keeps, Allows, Splits, Joins}
use Rattle.atomic_table.proofs.Lists.{at_set, at_snoc, set_else}
use Rattle.gp_turn.proofs.Sums.{sum-set}
use Rattle.gp_workers.specs.declared.drawn.Drawn.{Drawn}
use Rattle.gp_workers.specs.Claims.{hit, times, times_of, below, spent, all_parts, one_share, Fits, IsCounted, with_claim, took, noted, looked, smaller, given_off, both_of}

abbrev parts_in : Drawn → ℕ
parts_in v = v.parts

abbrev taken_in : Drawn → ℕ
taken_in v = length v.taken

sum_le : (f g : Drawn → ℕ) (vs : List Drawn) → ((j : ℕ) (d : Drawn) → get_elem? vs j ≡ some d → f d ≤ g d) → sum_by f vs ≤ sum_by g vs
sum_le f g [] h = omega arith
sum_le f g (x ∷ xs) h =
    let c = sum_by-cons f x xs in let k = sum_by-cons g x xs in
    let here = h zero x refl in
    let rest = sum_le f g xs (λ j d at. h (suc j) d at) in omega arith

hit_below : (x n : ℕ) → below x (n + 1) ≡ below x n + hit x n
hit_below x n = grind (arith, nat_tests)

each_set : (n m : ℕ) (vs : List Drawn) (id : ℕ) (w : Drawn) → n ≤ m → Fits m w → ((j : ℕ) (d : Drawn) → get_elem? vs j ≡ some d → Fits n d)
    → (j : ℕ) (d : Drawn) → get_elem? (set vs id w) j ≡ some d → Fits m d
each_set n m vs id w le fits each j d e = ⊎_elim
    (λ (t : (j ≡ id) × (w ≡ d)). subst (Fits m) t.1 fits)
    (λ (t : (j ≢ id) × (get_elem? vs j ≡ some d)). let k = each j d t.1 in let note = k.note in record { few = k.few; note = omega arith })
    (at_set vs id j w d e)

pub takes : (id : ℕ) (v : Drawn) → length v.taken < v.parts → Allows IsCounted 0 id (v, []) 0 (λ n. (n + 1) % 2 ^ 64) (took (step 0 0 1 0 none) (v, []))
takes id v less s r len at small =
    let n = r.next in
    let w : Drawn = with_claim v n in
    let f = r.each id v at in
    let note = f.note in
    let longer : length (v.taken ++ n ∷ []) ≡ length v.taken + 1 = length-append v.taken (n ∷ []) in
    let fits : Fits (n + 1) w = record { few = omega arith; note = omega arith } in
    let each = each_set n (n + 1) s.views id w (omega arith) fits r.each in
    let total : sum_by parts_in (set s.views id w) ≡ all_parts = (let a = sum-set parts_in s.views id v w at in let t = r.total in omega arith) in
    let counted : sum_by taken_in (set s.views id w) ≡ n + 1 = (let a = sum-set taken_in s.views id v w at in let t = r.counted in omega arith) in
    let most : sum_by taken_in (set s.views id w) ≤ sum_by parts_in (set s.views id w) = sum_le taken_in parts_in (set s.views id w) (λ j d e. (each j d e).few) in
    let fine : (n + 1) % 2 ^ 64 ≡ n + 1 = omega arith in (
      w,
      keeps,
      tt,
      record {
        next = n + 1;
        word = rw r.word (ap (λ (k : ℕ). k ∷ []) fine);
        total = total;
        counted = counted;
        once = λ x. let a = sum-set (times_of x) s.views id v w at in let o = r.once x in let p = sum_by_push (hit x) v.taken n in let b = hit_below x n in omega arith;
        each = each;
      },
      rw r.word (note, refl),
    )

sum_zero : (f g : Drawn → ℕ) (vs : List Drawn) → ((j : ℕ) (d : Drawn) → get_elem? vs j ≡ some d → f d ≡ 0 → g d ≡ 0) → sum_by f vs ≡ 0 → sum_by g vs ≡ 0
sum_zero f g [] h e = refl
sum_zero f g (x ∷ xs) h e =
    let c = sum_by-cons f x xs in let k = sum_by-cons g x xs in
    let here = h zero x refl (omega arith) in
    let rest = sum_zero f g xs (λ j d at. h (suc j) d at) (omega arith) in omega arith

none_of : (x : ℕ) (xs : List ℕ) → length xs ≤ 0 → times x xs ≡ 0
none_of x [] h = refl
none_of x (y ∷ ys) h = absurd (omega arith)

-- who has all parts has all claims
has_all : (n : ℕ) (vs : List Drawn) (id x : ℕ) (v : Drawn) → get_elem? vs id ≡ some v → v.parts ≡ all_parts → sum_by parts_in vs ≡ all_parts
    → ((j : ℕ) (d : Drawn) → get_elem? vs j ≡ some d → Fits n d) → sum_by (times_of x) vs ≡ times x v.taken
has_all n vs id x v at all total each =
    let us : List Drawn = set vs id spent in
    let a = sum-set parts_in vs id v spent at in
    let b = sum-set (times_of x) vs id v spent at in
    let none_left : sum_by parts_in us ≡ 0 = omega arith in
    let rest : sum_by (times_of x) us ≡ 0 = sum_zero parts_in (times_of x) us
    (λ j d e p. ⊎_elim
    (λ (t : (j ≡ id) × (spent ≡ d)). subst (λ (u : Drawn). times_of x u ≡ 0) t.1 refl)
    (λ (t : (j ≢ id) × (get_elem? vs j ≡ some d)). let few = (each j d t.1).few in none_of x d.taken (omega arith))
    (at_set vs id j spent d e)) none_left in
    let zero_here : times_of x spent ≡ 0 = refl in omega arith

pub looks : (id : ℕ) (v : Drawn) → Allows IsCounted 0 id (v, []) 0 (λ n. n) (looked (step 0 0 0 0 none) (v, []))
looks id v s r len at small =
    let n = r.next in
    let w : Drawn = noted v n in
    let f = r.each id v at in
    let note = f.note in
    let fits : Fits n w = record { few = f.few; note = omega arith } in (
      w,
      keeps,
      tt,
      record {
        next = n;
        word = rw r.word refl;
        total = let a = sum-set parts_in s.views id v w at in let t = r.total in omega arith;
        counted = let a = sum-set taken_in s.views id v w at in let t = r.counted in omega arith;
        once = λ x. let a = sum-set (times_of x) s.views id v w at in let o = r.once x in omega arith;
        each = each_set n n s.views id w (omega arith) fits r.each;
      },
      rw r.word (note, refl, λ all x. sym (has_all n s.views id x v at all r.total r.each) ∙ r.once x),
    )

pub splits : (id : ℕ) (v : Drawn) → length v.taken + one_share ≤ v.parts → Splits IsCounted id v (smaller v) (given_off v)
splits id v enough s r at =
    let w : Drawn = given_off v in
    let u : Drawn = smaller v in
    let vs : List Drawn = set s.views id u in
    let f = r.each id v at in
    let n = r.next in
    let each = each_set n n s.views id u (omega arith) (record { few = omega arith; note = f.note }) r.each in
    record {
      next = n;
      word = r.word;
      total = let a = sum_by_push parts_in vs w in let b = sum-set parts_in s.views id v u at in let t = r.total in omega arith;
      counted = let a = sum_by_push taken_in vs w in let b = sum-set taken_in s.views id v u at in let t = r.counted in omega arith;
      once = λ x. let a = sum_by_push (times_of x) vs w in let b = sum-set (times_of x) s.views id v u at in let o = r.once x in let z : times_of x w ≡ 0 = refl in omega arith;
      each = λ j d e. ⊎_elim
          (λ (t : get_elem? vs j ≡ some d). each j d t)
          (λ (t : w ≡ d). subst (Fits n) t (record { few = omega arith; note = f.note }))
          (at_snoc vs w d j e);
    }

pub joins : (id other : ℕ) (v w : Drawn) → Joins IsCounted id v other w (both_of v w) spent
joins id other v w s r at ne bt =
    let one : Drawn = both_of v w in
    let vs : List Drawn = set s.views id one in
    let before : get_elem? s.views other ≡ some w = sym (set_else s.views id other one ne) ∙ bt in
    let f = r.each id v at in
    let k = r.each other w before in
    let n = r.next in
    let mine = f.note in let theirs = k.note in let few = f.few in let others = k.few in
    let longer : length (v.taken ++ w.taken) ≡ length v.taken + length w.taken = length-append v.taken w.taken in
    let each = each_set n n s.views id one (omega arith) (record { few = omega arith; note = omega arith }) r.each in
    record {
      next = n;
      word = r.word;
      total = let a = sum-set parts_in vs other w spent bt in let b = sum-set parts_in s.views id v one at in let t = r.total in omega arith;
      counted = let a = sum-set taken_in vs other w spent bt in let b = sum-set taken_in s.views id v one at in let t = r.counted in omega arith;
      once = λ x. let a = sum-set (times_of x) vs other w spent bt in let b = sum-set (times_of x) s.views id v one at in let o = r.once x in let c = sum_by-append (hit x) v.taken w.taken in let z : times_of x spent ≡ 0 = refl in omega arith;
      each = each_set n n vs other spent (omega arith) (record { few = omega arith; note = omega arith }) each;
    }
