-- The newest places of buckets, and the ways to older ones, as places come and go.
use Rattle.std.proofs.Common.{◌≡◌, ◌≢◌, ℕ, ◌+◌, ◌-◌, ◌%◌, ◌<◌, ◌≤◌, ◌⊎◌, List, [], ◌∷◌, ◌++◌, length, drop, get_or, get_or-drop, set, replicate, refl, sym, ap, ◌∙◌, subst, arith, inl, inr, length-append, length-drop, length-set}
use Rattle.std.proofs.Math.Seq.{get_or-append_seam}
use Rattle.std.proofs.lemmas.Bool.{cases_lt, cases_eq}
use Rattle.std.proofs.lemmas.List.{get_or-set_same, get_or-set_other, get_or_append_left, get_or_past, get_or-replicate, length-replicate}
use Rattle.gp_window.specs.Chains.{place_of, IsNewest, HasNone, IsBack, IsHead, IsChained}

-- the numbers of places

pub place_back : (first n : ℕ) → first < 65536 → n < 65536 → place_of first ((first + n) % 65536) ≡ n
place_back first n h h' = omega (arith, h, h')

pub place_less : (first number : ℕ) → first < 65536 → number < 65536 → 0 < place_of first number → place_of ((first + 1) % 65536) number + 1 ≡ place_of first number
place_less first number h h' some = omega (arith, h, h', some)

-- the way back of a place is that of the longer list

back_longer : (buckets : List ℕ) (b place back : ℕ) → place < length buckets → IsBack buckets place back → IsBack (buckets ++ b ∷ []) place back
back_longer buckets b place back h t =
    let same : (j : ℕ) → j ≤ place → get_or (buckets ++ b ∷ []) j 0 ≡ get_or buckets j 0 = λ j less. get_or_append_left buckets (b ∷ []) 0 j (omega (arith, less, h)) in record {
      some = t.some;
      there = λ within. same (place - back) (omega arith) ∙ t.there within ∙ sym (same place (omega arith));
      between = λ k near less e. t.between k near less (sym (same k (omega (arith, less))) ∙ e ∙ same place (omega arith));
    }

-- the way back of the place that comes

not_between : (buckets : List ℕ) (b n back k : ℕ) → (n < back) ⊎ (back ≤ n) → n < k + back → k < n → (back ≤ n → IsNewest buckets b n (n - back)) → (n < back → HasNone buckets b n) → get_or buckets k 0 ≢ b
not_between buckets b n back k (inl h) near less there none = (none h).none k less
not_between buckets b n back k (inr h) near less there none = (there h).between k (omega (arith, near, h)) less

back_new : (buckets : List ℕ) (b back : ℕ) → 0 < back → (back ≤ length buckets → IsNewest buckets b (length buckets) (length buckets - back)) → (length buckets < back → HasNone buckets b (length buckets))
    → IsBack (buckets ++ b ∷ []) (length buckets) back
back_new buckets b back some there none =
    let n = length buckets in
    let last : get_or (buckets ++ b ∷ []) n 0 ≡ b = get_or-append_seam buckets b [] 0 in
    let same : (j : ℕ) → j < n → get_or (buckets ++ b ∷ []) j 0 ≡ get_or buckets j 0 = λ j less. get_or_append_left buckets (b ∷ []) 0 j less in record {
      some = some;
      there = λ within. same (n - back) (omega (arith, some, within)) ∙ (there within).here ∙ sym last;
      between = λ k near less e. not_between buckets b n back k (cases_lt n back) near less there none (sym (same k less) ∙ e ∙ last);
    }

-- a place that comes

one_more : (buckets : List ℕ) (b : ℕ) → length (buckets ++ b ∷ []) ≡ length buckets + 1
one_more buckets b = omega (arith, length-append buckets (b ∷ []))

-- the place is the new one, or an older one
data Stands (buckets : List ℕ) (b k : ℕ) : Type 0 where
  Last : k ≡ length buckets → get_or (buckets ++ b ∷ []) k 0 ≡ b → Stands buckets b k
  Older : k < length buckets → get_or (buckets ++ b ∷ []) k 0 ≡ get_or buckets k 0 → Stands buckets b k

stands_by : (buckets : List ℕ) (b k : ℕ) → (k < length buckets) ⊎ (length buckets ≤ k) → k < length (buckets ++ b ∷ []) → Stands buckets b k
stands_by buckets b k (inl h) within = Older h (get_or_append_left buckets (b ∷ []) 0 k h)
stands_by buckets b k (inr h) within =
    let last : k ≡ length buckets = omega (arith, h, within, one_more buckets b) in
    Last last (ap (λ j. get_or (buckets ++ b ∷ []) j 0) last ∙ get_or-append_seam buckets b [] 0)

stands : (buckets : List ℕ) (b k : ℕ) → k < length (buckets ++ b ∷ []) → Stands buckets b k
stands buckets b k within = stands_by buckets b k (cases_lt k (length buckets)) within

small_by : (buckets : List ℕ) (b k : ℕ) → Stands buckets b k → b < 16385 → ((j : ℕ) → j < length buckets → get_or buckets j 0 < 16385) → get_or (buckets ++ b ∷ []) k 0 < 16385
small_by buckets b k (Last at e) h f = omega (arith, e, h)
small_by buckets b k (Older less e) h f = omega (arith, e, f k less)

-- the number of the place that comes
head_same : (heads buckets : List ℕ) (b first number k : ℕ) → b < length heads → first < 65536 → number ≡ (first + length buckets) % 65536 → length buckets < 65536 → k ≤ length buckets → get_or (buckets ++ b ∷ []) k 0 ≡ b
    → IsHead (buckets ++ b ∷ []) k (place_of first (get_or (set heads b number) b 0))
head_same heads buckets b first number k h f e few near here =
    let head : place_of first (get_or (set heads b number) b 0) ≡ length buckets = ap (place_of first) (get_or-set_same heads b number 0 h ∙ e) ∙ place_back first (length buckets) f few in record {
      behind = omega (arith, head, near);
      within = omega (arith, head, one_more buckets b);
      here = ap (λ j. get_or (buckets ++ b ∷ []) j 0) head ∙ get_or-append_seam buckets b [] 0 ∙ sym here;
    }

-- an older place of another bucket
head_other : (heads buckets : List ℕ) (b first number k : ℕ) → k < length buckets → get_or buckets k 0 ≢ b → IsHead buckets k (place_of first (get_or heads (get_or buckets k 0) 0))
    → IsHead (buckets ++ b ∷ []) k (place_of first (get_or (set heads b number) (get_or buckets k 0) 0))
head_other heads buckets b first number k less other t =
    let same = get_or-set_other heads b (get_or buckets k 0) number 0 other in
    let head : place_of first (get_or (set heads b number) (get_or buckets k 0) 0) ≡ place_of first (get_or heads (get_or buckets k 0) 0) = ap (place_of first) same in record {
      behind = omega (arith, head, t.behind);
      within = omega (arith, head, t.within, one_more buckets b);
      here = ap (λ j. get_or (buckets ++ b ∷ []) j 0) head ∙ get_or_append_left buckets (b ∷ []) 0 _ t.within ∙ t.here ∙ sym (get_or_append_left buckets (b ∷ []) 0 k less);
    }

head_by : (heads buckets : List ℕ) (b first number k : ℕ) → Stands buckets b k → (get_or buckets k 0 ≡ b) ⊎ (get_or buckets k 0 ≢ b) → b < length heads → first < 65536 → number ≡ (first + length buckets) % 65536 → length buckets < 65536
    → ((j : ℕ) → j < length buckets → IsHead buckets j (place_of first (get_or heads (get_or buckets j 0) 0)))
    → IsHead (buckets ++ b ∷ []) k (place_of first (get_or (set heads b number) (get_or (buckets ++ b ∷ []) k 0) 0))
head_by heads buckets b first number k (Last at e) same h f is few t =
    subst (λ c. IsHead (buckets ++ b ∷ []) k (place_of first (get_or (set heads b number) c 0))) (sym e) (head_same heads buckets b first number k h f is few (omega (arith, at)) e)
head_by heads buckets b first number k (Older less e) (inl same) h f is few t =
    subst (λ c. IsHead (buckets ++ b ∷ []) k (place_of first (get_or (set heads b number) c 0))) (sym (e ∙ same)) (head_same heads buckets b first number k h f is few (omega (arith, less)) (e ∙ same))
head_by heads buckets b first number k (Older less e) (inr other) h f is few t =
    subst (λ c. IsHead (buckets ++ b ∷ []) k (place_of first (get_or (set heads b number) c 0))) (sym e) (head_other heads buckets b first number k less other (t k less))

back_by : (buckets backs : List ℕ) (b back k : ℕ) → length backs ≡ length buckets → Stands buckets b k → IsBack (buckets ++ b ∷ []) (length buckets) back → ((j : ℕ) → j < length buckets → IsBack buckets j (get_or backs j 0))
    → IsBack (buckets ++ b ∷ []) k (get_or (backs ++ back ∷ []) k 0)
back_by buckets backs b back k e (Last at here) new t =
    let own : get_or (backs ++ back ∷ []) k 0 ≡ back = ap (λ j. get_or (backs ++ back ∷ []) j 0) (at ∙ sym e) ∙ get_or-append_seam backs back [] 0 in
    subst (λ n. IsBack (buckets ++ b ∷ []) k n) (sym own) (subst (λ j. IsBack (buckets ++ b ∷ []) j back) (sym at) new)
back_by buckets backs b back k e (Older less here) new t =
    let own : get_or (backs ++ back ∷ []) k 0 ≡ get_or backs k 0 = get_or_append_left backs (back ∷ []) 0 k (omega (arith, less, e)) in
    subst (λ n. IsBack (buckets ++ b ∷ []) k n) (sym own) (back_longer buckets b k (get_or backs k 0) less (t k less))

number_by : (heads : List ℕ) (b number k : ℕ) → (k ≡ b) ⊎ (k ≢ b) → b < length heads → number < 65536 → ((j : ℕ) → get_or heads j 0 < 65536) → get_or (set heads b number) k 0 < 65536
number_by heads b number k (inl same) h fits f = omega (arith, ap (λ j. get_or (set heads b number) j 0) same ∙ get_or-set_same heads b number 0 h, fits)
number_by heads b number k (inr other) h fits f = omega (arith, get_or-set_other heads b k number 0 other, f k)

pub chained_more : (heads buckets backs : List ℕ) (first b number back : ℕ) → IsChained heads buckets backs first → length buckets < 4096 → b < 16385 → number ≡ (first + length buckets) % 65536
    → 0 < back → (back ≤ length buckets → IsNewest buckets b (length buckets) (length buckets - back)) → (length buckets < back → HasNone buckets b (length buckets))
    → IsChained (set heads b number) (buckets ++ b ∷ []) (backs ++ back ∷ []) first
chained_more heads buckets backs first b number back t room small is some there none =
    let fits : number < 65536 = omega (arith, is) in
    let new = back_new buckets b back some there none in record {
      long = length-set heads b number ∙ t.long;
      few = omega (arith, room, one_more buckets b);
      starts = t.starts;
      numbers = λ k. number_by heads b number k (cases_eq k b) (omega (arith, small, t.long)) fits t.numbers;
      same = omega (arith, t.same, one_more buckets b, one_more backs back);
      small = λ k within. small_by buckets b k (stands buckets b k within) small t.small;
      ahead = λ k within. head_by heads buckets b first number k (stands buckets b k within) (cases_eq (get_or buckets k 0) b) (omega (arith, small, t.long)) t.starts is (omega (arith, room)) t.ahead;
      behind = λ k within. back_by buckets backs b back k t.same (stands buckets b k within) new t.behind;
    }

-- the first place goes

after : (xs : List ℕ) (k : ℕ) → get_or (drop 1 xs) k 0 ≡ get_or xs (1 + k) 0
after xs k = get_or-drop 1 xs k 0

head_after : (buckets : List ℕ) (k head now : ℕ) → now + 1 ≡ head → 1 + k < length buckets → IsHead buckets (1 + k) head → IsHead (drop 1 buckets) k now
head_after buckets k head now e less t = record {
  behind = omega (arith, t.behind, e);
  within = omega (arith, t.within, e, length-drop 1 buckets);
  here = after buckets now ∙ ap (λ j. get_or buckets j 0) (add_comm_one now ∙ e) ∙ t.here ∙ sym (after buckets k);
}
  where
    add_comm_one : (n : ℕ) → 1 + n ≡ n + 1
    add_comm_one n = omega arith

back_after : (buckets : List ℕ) (k back : ℕ) → IsBack buckets (1 + k) back → IsBack (drop 1 buckets) k back
back_after buckets k back t = record {
  some = t.some;
  there = λ within. after buckets (k - back) ∙ ap (λ j. get_or buckets j 0) (moved k back within) ∙ t.there (omega (arith, within)) ∙ sym (after buckets k);
  between = λ j near less e. t.between (1 + j) (omega (arith, near)) (omega (arith, less)) (sym (after buckets j) ∙ e ∙ after buckets k);
}
  where
    moved : (k back : ℕ) → back ≤ k → 1 + (k - back) ≡ 1 + k - back
    moved k back h = omega (arith, h)

pub chained_less : (heads buckets backs : List ℕ) (first : ℕ) → IsChained heads buckets backs first → IsChained heads (drop 1 buckets) (drop 1 backs) ((first + 1) % 65536)
chained_less heads buckets backs first t =
    let long : (k : ℕ) → k < length (drop 1 buckets) → 1 + k < length buckets = λ k h. omega (arith, h, length-drop 1 buckets) in record {
      long = t.long;
      few = omega (arith, t.few, length-drop 1 buckets);
      starts = omega arith;
      numbers = t.numbers;
      same = omega (arith, t.same, length-drop 1 buckets, length-drop 1 backs);
      small = λ k h. omega (arith, after buckets k, t.small (1 + k) (long k h));
      ahead = λ k h.
          let own = t.ahead (1 + k) (long k h) in
          let number = get_or heads (get_or buckets (1 + k) 0) 0 in
          subst (λ c. IsHead (drop 1 buckets) k (place_of ((first + 1) % 65536) (get_or heads c 0))) (sym (after buckets k))
          (head_after buckets k (place_of first number) (place_of ((first + 1) % 65536) number) (place_less first number t.starts (t.numbers (get_or buckets (1 + k) 0)) (omega (arith, own.behind))) (long k h) own);
      behind = λ k h. subst (λ n. IsBack (drop 1 buckets) k n) (sym (after backs k)) (back_after buckets k (get_or backs (1 + k) 0) (t.behind (1 + k) (long k h)));
    }

-- a buffer with room keeps all
pub kept_all : (xs : List ℕ) (x capacity : ℕ) → capacity ≡ 4096 → length xs < 4096 → drop (length (xs ++ x ∷ []) - capacity) (xs ++ x ∷ []) ≡ xs ++ x ∷ []
kept_all xs x capacity e h = let none : length (xs ++ x ∷ []) - capacity ≡ 0 = omega (arith, e, h, length-append xs (x ∷ [])) in ap (λ n. drop n (xs ++ x ∷ [])) none

pub chained_none : IsChained (replicate 16385 0) [] [] 0
chained_none = record {
  long = length-replicate {A = ℕ} 16385 0;
  few = omega arith;
  starts = omega arith;
  numbers = λ k. number_none k (cases_lt k 16385);
  same = refl;
  small = λ k h. absurd (not_below k h);
  ahead = λ k h. absurd (not_below k h);
  behind = λ k h. absurd (not_below k h);
}
  where
    not_below : (k : ℕ) → k < 0 → ⊥
    not_below k h = omega (arith, h)

    number_none : (k : ℕ) → (k < 16385) ⊎ (16385 ≤ k) → get_or (replicate 16385 0) k 0 < 65536
    number_none k (inl h) = omega (arith, get_or-replicate {A = ℕ} 16385 k 0 0 h)
    number_none k (inr h) = omega (arith, get_or_past {X = ℕ} (replicate 16385 0) k 0 (omega (arith, h, length-replicate {A = ℕ} 16385 0)))

-- the way back from a place, as the answer of `older`

pub older_none : (buckets : List ℕ) (place back : ℕ) → IsBack buckets place back → place < back → HasNone buckets (get_or buckets place 0) place
older_none buckets place back t h = record { none = λ k less. t.between k (omega (arith, h)) less }

pub older_some : (buckets : List ℕ) (place back : ℕ) → IsBack buckets place back → back ≤ place → IsNewest buckets (get_or buckets place 0) place (place - back)
older_some buckets place back t h = record {
  within = omega (arith, h, t.some);
  here = t.there h;
  between = λ k above less. t.between k (omega (arith, above, h)) less;
}
