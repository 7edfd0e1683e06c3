-- Counts of marks by buckets, as marks come, change and go.
use Rattle.std.proofs.Common.{◌≡◌, ◌≢◌, ℕ, suc, ◌+◌, ◌-◌, ◌<◌, ◌≤◌, ◌⊎◌, inl, inr, Bool, true, false, cond, eqb, List, [], ◌∷◌, ◌++◌, length, drop, get_or, set, replicate, slice_get, refl, sym, ap, ◌∙◌, subst, arith, length-append, length-set, Some}
use Rattle.std.proofs.lemmas.Bool.{cases_lt, cases_eq, eq-eqb, eqb-true}
use Rattle.std.proofs.Math.Seq.{get_or-append_seam}
use Rattle.std.proofs.lemmas.Option.{get_or_from_slice_get, slice_get_within}
use Rattle.std.proofs.lemmas.List.{get_or-set_same, get_or-set_other, get_or_append_left, get_or-replicate, length-replicate}
use Rattle.std.proofs.lemmas.List.Sums.{sum_by-append, sum_by-set, get_or-le-sum_by}
use Rattle.gp_window.specs.Marks.{one_of, count_of, IsCounted}

pub one_same : (bucket mark : ℕ) → mark ≡ bucket → one_of bucket mark ≡ 1
one_same bucket mark e = ap (λ c. cond {A = ℕ} c 1 0) (eq-eqb mark bucket e)

one_by : (bucket mark : ℕ) (c : Bool) → eqb mark bucket ≡ c → mark ≢ bucket → cond {A = ℕ} c 1 0 ≡ 0
one_by bucket mark true e other = absurd (other (eqb-true mark bucket e))
one_by bucket mark false e other = refl

one_other : (bucket mark : ℕ) → mark ≢ bucket → one_of bucket mark ≡ 0
one_other bucket mark other = one_by bucket mark (eqb mark bucket) refl other

-- counts of buckets

more_by : (counts : List ℕ) (bucket other : ℕ) → (other ≡ bucket) ⊎ (other ≢ bucket) → bucket < length counts → get_or (set counts bucket (get_or counts bucket 0 + 1)) other 0 ≡ get_or counts other 0 + one_of other bucket
more_by counts bucket other (inl same) h = omega (arith, ap (λ j. get_or (set counts bucket (get_or counts bucket 0 + 1)) j 0) same, get_or-set_same counts bucket (get_or counts bucket 0 + 1) 0 h, ap (λ j. get_or counts j 0) same, one_same other bucket (sym same))
more_by counts bucket other (inr apart) h = omega (arith, get_or-set_other counts bucket other (get_or counts bucket 0 + 1) 0 apart, one_other other bucket (λ e. apart (sym e)))

more_at : (counts : List ℕ) (bucket other : ℕ) → bucket < length counts → get_or (set counts bucket (get_or counts bucket 0 + 1)) other 0 ≡ get_or counts other 0 + one_of other bucket
more_at counts bucket other h = more_by counts bucket other (cases_eq other bucket) h

less_by : (counts : List ℕ) (bucket other : ℕ) → (other ≡ bucket) ⊎ (other ≢ bucket) → bucket < length counts → 0 < get_or counts bucket 0 → get_or (set counts bucket (get_or counts bucket 0 - 1)) other 0 + one_of other bucket ≡ get_or counts other 0
less_by counts bucket other (inl same) h some = omega (arith, some, ap (λ j. get_or (set counts bucket (get_or counts bucket 0 - 1)) j 0) same, get_or-set_same counts bucket (get_or counts bucket 0 - 1) 0 h, ap (λ j. get_or counts j 0) same, one_same other bucket (sym same))
less_by counts bucket other (inr apart) h some = omega (arith, get_or-set_other counts bucket other (get_or counts bucket 0 - 1) 0 apart, one_other other bucket (λ e. apart (sym e)))

less_at : (counts : List ℕ) (bucket other : ℕ) → bucket < length counts → 0 < get_or counts bucket 0 → get_or (set counts bucket (get_or counts bucket 0 - 1)) other 0 + one_of other bucket ≡ get_or counts other 0
less_at counts bucket other h some = less_by counts bucket other (cases_eq other bucket) h some

-- a mark is counted
pub counted_some : (counts marks : List ℕ) (k : ℕ) → IsCounted counts marks → k < length marks → 0 < get_or counts (get_or marks k 0) 0
counted_some counts marks k t h =
    let own = get_or marks k 0 in
    let least : one_of own own ≤ count_of own marks = get_or-le-sum_by (one_of own) marks k 0 h in
    omega (arith, least, one_same own own refl, t.count own (t.small k h))

few_by : (bucket mark m n : ℕ) (c : Bool) → m ≤ n → cond {A = ℕ} c 1 0 + m ≤ suc n
few_by bucket mark m n true h = omega (arith, h)
few_by bucket mark m n false h = omega (arith, h)

count_few : (bucket : ℕ) (marks : List ℕ) → count_of bucket marks ≤ length marks
count_few bucket [] = omega arith
count_few bucket (mark ∷ marks) =
    let whole = sum_by-append (one_of bucket) (mark ∷ []) marks in
    let few : one_of bucket mark + count_of bucket marks ≤ suc (length marks) = few_by bucket mark (count_of bucket marks) (length marks) (eqb mark bucket) (count_few bucket marks) in
    omega (arith, whole, few)

-- so few that one more can be counted
pub counted_few : (counts marks : List ℕ) (bucket : ℕ) → IsCounted counts marks → bucket < 16385 → get_or counts bucket 0 ≤ 4096
counted_few counts marks bucket t h = omega (arith, t.count bucket h, count_few bucket marks, t.few)

pub counted_none : IsCounted (replicate 16385 0) []
counted_none = record {
  long = length-replicate {A = ℕ} 16385 0;
  few = omega arith;
  small = λ k h. absurd (not_below k h);
  count = λ bucket h. get_or-replicate {A = ℕ} 16385 bucket 0 0 h;
}
  where
    not_below : (k : ℕ) → k < 0 → ⊥
    not_below k h = omega (arith, h)

-- a mark comes

small_by : (marks : List ℕ) (mark k : ℕ) → (k < length marks) ⊎ (length marks ≤ k) → k < length (marks ++ mark ∷ []) → mark < 16385 → ((j : ℕ) → j < length marks → get_or marks j 0 < 16385) → get_or (marks ++ mark ∷ []) k 0 < 16385
small_by marks mark k (inl h) within small f = omega (arith, get_or_append_left marks (mark ∷ []) 0 k h, f k h)
small_by marks mark k (inr h) within small f =
    let last : k ≡ length marks = omega (arith, h, within, length-append marks (mark ∷ [])) in
    omega (arith, ap (λ j. get_or (marks ++ mark ∷ []) j 0) last, get_or-append_seam marks mark [] 0, small)

pub counted_more : (counts marks : List ℕ) (mark : ℕ) → IsCounted counts marks → length marks < 4096 → mark < 16385 → IsCounted (set counts mark (get_or counts mark 0 + 1)) (marks ++ mark ∷ [])
counted_more counts marks mark t room small = record {
  long = length-set counts mark (get_or counts mark 0 + 1) ∙ t.long;
  few = omega (arith, room, length-append marks (mark ∷ []));
  small = λ k within. small_by marks mark k (cases_lt k (length marks)) within small t.small;
  count = λ bucket h. omega (arith, more_at counts mark bucket (omega (arith, small, t.long)), t.count bucket h, sum_by-append (one_of bucket) marks (mark ∷ []));
}

-- a mark becomes another

set_small : (marks : List ℕ) (place mark k : ℕ) → (k ≡ place) ⊎ (k ≢ place) → place < length marks → k < length marks → mark < 16385 → ((j : ℕ) → j < length marks → get_or marks j 0 < 16385) → get_or (set marks place mark) k 0 < 16385
set_small marks place mark k (inl same) h within small f = omega (arith, ap (λ j. get_or (set marks place mark) j 0) same, get_or-set_same marks place mark 0 h, small)
set_small marks place mark k (inr other) h within small f = omega (arith, get_or-set_other marks place k mark 0 other, f k within)

pub fewer_few : (counts marks less : List ℕ) (own bucket : ℕ) → IsCounted counts marks → own < 16385 → 0 < get_or counts own 0 → bucket < 16385 → less ≡ set counts own (get_or counts own 0 - 1) → get_or less bucket 0 ≤ 4096
fewer_few counts marks less own bucket t h some small is =
    let fewer : get_or less bucket 0 + one_of bucket own ≡ get_or counts bucket 0 = ap (λ ns. get_or ns bucket 0 + one_of bucket own) is ∙ less_at counts own bucket (omega (arith, h, t.long)) some in
    omega (arith, fewer, counted_few counts marks bucket t small)

pub counted_set : (counts marks less more : List ℕ) (place own mark : ℕ) → IsCounted counts marks → place < length marks → mark < 16385 → get_or marks place 0 ≡ own
    → less ≡ set counts own (get_or counts own 0 - 1) → more ≡ set less mark (get_or less mark 0 + 1) → IsCounted more (set marks place mark)
counted_set counts marks less more place own mark t h small here is is' =
    let own_small : own < 16385 = omega (arith, here, t.small place h) in
    let some : 0 < get_or counts own 0 = subst (λ n. 0 < get_or counts n 0) here (counted_some counts marks place t h) in
    let long : length less ≡ 16385 = ap length is ∙ length-set counts own (get_or counts own 0 - 1) ∙ t.long in record {
      long = ap length is' ∙ length-set less mark (get_or less mark 0 + 1) ∙ long;
      few = omega (arith, t.few, length-set marks place mark);
      small = λ k within. set_small marks place mark k (cases_eq k place) h (omega (arith, within, length-set marks place mark)) small t.small;
      count = λ bucket within.
          let fewer : get_or less bucket 0 + one_of bucket own ≡ get_or counts bucket 0 = ap (λ ns. get_or ns bucket 0 + one_of bucket own) is ∙ less_at counts own bucket (omega (arith, own_small, t.long)) some in
          let then : get_or more bucket 0 ≡ get_or less bucket 0 + one_of bucket mark = ap (λ ns. get_or ns bucket 0) is' ∙ more_at less mark bucket (omega (arith, small, long)) in
          let sums : count_of bucket (set marks place mark) + one_of bucket own ≡ count_of bucket marks + one_of bucket mark = ap (λ n. count_of bucket (set marks place mark) + one_of bucket n) (sym here) ∙ sum_by-set (one_of bucket) marks place mark 0 h in
          omega (arith, fewer, then, sums, t.count bucket within);
    }

-- the first mark goes

pub counted_first : (counts marks : List ℕ) (own : ℕ) → IsCounted counts marks → slice_get marks 0 ≡ Some own → 0 < get_or counts own 0
counted_first counts [] own t e = cc
counted_first counts (mark ∷ marks) own t e = let same : mark ≡ own = cc e in subst (λ n. 0 < get_or counts n 0) same (counted_some counts (mark ∷ marks) 0 t (omega arith))

pub counted_less : (counts marks now : List ℕ) (own : ℕ) → IsCounted counts marks → slice_get marks 0 ≡ Some own → now ≡ set counts own (get_or counts own 0 - 1) → IsCounted now (drop 1 marks)
counted_less counts [] now own t e is = cc
counted_less counts (mark ∷ marks) now own t e is =
    let same : mark ≡ own = cc e in
    let own_small : own < 16385 = omega (arith, sym same, t.small 0 (omega arith)) in
    let some : 0 < get_or counts own 0 = subst (λ n. 0 < get_or counts n 0) same (counted_some counts (mark ∷ marks) 0 t (omega arith)) in record {
      long = ap length is ∙ length-set counts own (get_or counts own 0 - 1) ∙ t.long;
      few = omega (arith, t.few);
      small = λ k within. t.small (suc k) (omega (arith, within));
      count = λ bucket within.
          let fewer : get_or now bucket 0 + one_of bucket own ≡ get_or counts bucket 0 = ap (λ ns. get_or ns bucket 0 + one_of bucket own) is ∙ less_at counts own bucket (omega (arith, own_small, t.long)) some in
          omega (arith, fewer, t.count bucket within, ap (one_of bucket) same, sum_by-append (one_of bucket) (mark ∷ []) marks);
    }

-- the mark at a place
pub counted_at : (counts marks : List ℕ) (place own : ℕ) → IsCounted counts marks → slice_get marks place ≡ Some own → 0 < get_or counts own 0
counted_at counts marks place own t at = subst (λ n. 0 < get_or counts n 0) (get_or_from_slice_get marks place own 0 at) (counted_some counts marks place t (slice_get_within marks place own at))

pub small_at : (counts marks : List ℕ) (place own : ℕ) → IsCounted counts marks → slice_get marks place ≡ Some own → own < 16385
small_at counts marks place own t at = omega (arith, get_or_from_slice_get marks place own 0 at, t.small place (slice_get_within marks place own at))

-- no mark of a bucket that none has
pub no_count : (marks : List ℕ) (bucket k : ℕ) → k < length marks → get_or marks k 0 ≡ bucket → count_of bucket marks ≡ 0 → ⊥
no_count marks bucket k h e none = omega (arith, get_or-le-sum_by (one_of bucket) marks k 0 h, one_same bucket (get_or marks k 0) e, none)

apart : (marks : List ℕ) (bucket j k : ℕ) → j < length marks → k < length marks → get_or marks j 0 ≡ bucket → get_or marks k 0 ≡ bucket → count_of bucket marks ≡ 1 → k ≢ j → ⊥
apart marks bucket j k h h' e e' one other =
    let sums = sum_by-set (one_of bucket) marks j (bucket + 1) 0 h in
    let left : count_of bucket (set marks j (bucket + 1)) ≡ 0 = omega (arith, sums, one, one_same bucket (get_or marks j 0) e, one_other bucket (bucket + 1) (one_up bucket)) in
    no_count (set marks j (bucket + 1)) bucket k (omega (arith, h', length-set marks j (bucket + 1))) (get_or-set_other marks j k (bucket + 1) 0 other ∙ e') left
  where
    one_up : (n : ℕ) → n + 1 ≢ n
    one_up n e = omega (arith, e)

same_by : (marks : List ℕ) (bucket j k : ℕ) → (k ≡ j) ⊎ (k ≢ j) → j < length marks → k < length marks → get_or marks j 0 ≡ bucket → get_or marks k 0 ≡ bucket → count_of bucket marks ≡ 1 → k ≡ j
same_by marks bucket j k (inl same) h h' e e' one = same
same_by marks bucket j k (inr other) h h' e e' one = absurd (apart marks bucket j k h h' e e' one other)

-- the only mark of its bucket
pub only_one : (marks : List ℕ) (bucket j k : ℕ) → j < length marks → k < length marks → get_or marks j 0 ≡ bucket → get_or marks k 0 ≡ bucket → count_of bucket marks ≡ 1 → k ≡ j
only_one marks bucket j k h h' e e' one = same_by marks bucket j k (cases_eq k j) h h' e e' one
