-- What a scan tells is how far the head reaches, however its bytes were cut.
use Rattle.std.proofs.Common.{◌≡◌, ℕ, suc, ◌+◌, ◌-◌, ◌<◌, ◌≤◌, ◌⊎◌, Bool, true, false, eqb, ltb, ◌||◌, List, [], ◌∷◌, ◌++◌, length, get_or, take, drop, Option, Some, None, refl, sym, ap, ◌∙◌, subst, arith, inl, inr, lt-ltb, le-ltb, length-append}
use Rattle.std.proofs.Math.Seq.{take-nil, drop-append_seam}
use Rattle.std.proofs.lemmas.List.{take_more, take-append-drop}
use Rattle.std.proofs.lemmas.Bool.{cases_lt, ne_eqb, eqb-false, ltb-false, or_parts}
use Rattle.gp_head.specs.declared.scan.Scan.{Scan}
use Rattle.gp_head.specs.declared.scan.Extent.TheVariants.{TooMany, TooLong, More, Ends}
use Rattle.gp_head.specs.Lines.{begun_fields, head_end, extent_of}
use Rattle.gp_head.specs.Steps.{after}
use Rattle.gp_head.specs.Scans.{is_end, is_settled, moved, step, after_all, opening, scan_of, extent_told, HasSeen}
use Rattle.gp_head.proofs.StepLemmas.{later, end_from, begun_from, end_from-head_end, begun_from-begun_fields, begun_at_end, end_at_end}
use Rattle.gp_head.proofs.ExtentLemmas.{extent_too_many, extent_too_long, extent_more, extent_ends}

pub after_all-append : (xs ys : List ℕ) (s : Scan) → after_all (xs ++ ys) s ≡ after_all ys (after_all xs s)
unfolding after_all
after_all-append [] ys s = refl
after_all-append (x ∷ xs) ys s = after_all-append xs ys (step s x)

-- a scan whose answer is settled stays
pub stays : (bs : List ℕ) (s : Scan) → is_settled s ≡ true → after_all bs s ≡ s
unfolding after_all step
stays [] s settled = refl
stays (b ∷ bs) s settled = rw settled (stays bs s settled)

pub step_moves : (b : ℕ) (s : Scan) → is_settled s ≡ false → step s b ≡ moved s b
unfolding step
step_moves b s open_still = rw open_still refl

-- what an unsettled scan is
pub record IsOpen (s : Scan) : Type 0 where
  pub running : is_end s.state ≡ false
  pub few : s.fields ≤ 64
  pub short : s.seen ≡ 16384 → ⊥

pub is_open : (s : Scan) → is_settled s ≡ false → IsOpen s
is_open s h =
    let first = or_parts (is_end s.state) (ltb 64 s.fields || eqb s.seen 16384) h in
    let second = or_parts (ltb 64 s.fields) (eqb s.seen 16384) first.1 in
    record { running = first.0; few = ltb-false 64 s.fields second.0; short = eqb-false s.seen 16384 second.1 }

unsettled : (s : Scan) → IsOpen s → is_settled s ≡ false
unsettled s at = rw (at.running, le-ltb 64 s.fields at.few, ne_eqb s.seen 16384 at.short) refl

-- what is told behind a text, by what its front has
record TellsBy (front t : List ℕ) (s : Scan) : Type 0 where
  many : 64 < s.fields + begun_from front s.state → extent_told (after_all t s) ≡ TooMany
  ends : (n : ℕ) → s.fields + begun_from front s.state ≤ 64 → end_from front s.state ≡ Some n → extent_told (after_all t s) ≡ Ends (s.seen + n)
  long : s.fields + begun_from front s.state ≤ 64 → end_from front s.state ≡ None → 16384 ≤ s.seen + length t → extent_told (after_all t s) ≡ TooLong
  more : s.fields + begun_from front s.state ≤ 64 → end_from front s.state ≡ None → s.seen + length t < 16384 → extent_told (after_all t s) ≡ More

told_open : (s : Scan) → IsOpen s → extent_told s ≡ More
told_open s at = rw (le-ltb 64 s.fields at.few, at.running, ne_eqb s.seen 16384 at.short) refl

none_later : (end : Option ℕ) → later 1 end ≡ None → end ≡ None
none_later None e = refl
none_later (Some n) e = cc

some_later : (end : Option ℕ) (n : ℕ) → later 1 end ≡ Some n → (m : ℕ) × (end ≡ Some m) × (n ≡ 1 + m)
some_later None n e = cc
some_later (Some m) n e = (m, refl, cc)

-- no bytes
tells_none : (s : Scan) → IsOpen s → s.seen ≤ 16384 → TellsBy [] [] s
unfolding after_all
tells_none s at low =
    let none : end_from [] s.state ≡ None = rw at.running refl in
    record {
      many = λ many. absurd (omega (arith, many, at.few));
      ends = λ n few found. let other = sym none ∙ found in cc;
      long = λ few end long. absurd (at.short (omega (arith, long, low)));
      more = λ few end short. told_open s at;
    }

-- a byte, and what is told behind it
module _ (b : ℕ) (bs front : List ℕ) (s : Scan) (at : IsOpen s) (low : s.seen ≤ 16384) where
  next_is : after_all (b ∷ bs) s ≡ after_all bs (moved s b)
  unfolding after_all
  next_is = ap (after_all bs) (step_moves b s (unsettled s at))

  -- the answer is settled at this byte
  told_here : is_settled (moved s b) ≡ true → extent_told (after_all (b ∷ bs) s) ≡ extent_told (moved s b)
  told_here settled = ap extent_told (next_is ∙ stays bs (moved s b) settled)

  end_here : end_from (b ∷ front) s.state ≡ later 1 (end_from front (after s.state b))
  end_here = rw at.running refl

  too_many : 64 < (moved s b).fields → TellsBy (b ∷ front) (b ∷ bs) s
  too_many over =
      let settled : is_settled (moved s b) ≡ true = rw (lt-ltb 64 (moved s b).fields over) (by_end (is_end (after s.state b))) in
      let told : extent_told (moved s b) ≡ TooMany = rw (lt-ltb 64 (moved s b).fields over) refl in
      record {
        many = λ many. told_here settled ∙ told;
        ends = λ n few found. absurd (omega (arith, few, over));
        long = λ few end long. absurd (omega (arith, few, over));
        more = λ few end short. absurd (omega (arith, few, over));
      }
    where
      by_end : (t : Bool) → t || true ≡ true
      by_end true = refl
      by_end false = refl

  ended : (moved s b).fields ≤ 64 → is_end (after s.state b) ≡ true → TellsBy (b ∷ front) (b ∷ bs) s
  ended low_fields end =
      let settled : is_settled (moved s b) ≡ true = rw end refl in
      let told : extent_told (moved s b) ≡ Ends (s.seen + 1) = rw (le-ltb 64 (moved s b).fields low_fields, end) refl in
      let here : end_from (b ∷ front) s.state ≡ Some (1 + 0) = end_here ∙ ap (later 1) (end_at_end front (after s.state b) end) in
      let none = begun_at_end front (after s.state b) end in
      record {
        many = λ many. absurd (omega (arith, many, none, low_fields));
        ends = λ n few found. let same : ◌≡◌ {A = Option ℕ} (Some (1 + 0)) (Some n) = sym here ∙ found in
            let number : 1 + 0 ≡ n = cc in told_here settled ∙ told ∙ ap (λ (k : ℕ). Ends k) (omega arith);
        long = λ few no long. let other = sym here ∙ no in cc;
        more = λ few no short. let other = sym here ∙ no in cc;
      }

  goes_on : TellsBy front bs (moved s b) → TellsBy (b ∷ front) (b ∷ bs) s
  goes_on tells =
      let same : extent_told (after_all (b ∷ bs) s) ≡ extent_told (after_all bs (moved s b)) = ap extent_told next_is in
      record {
        many = λ many. same ∙ tells.many (omega (arith, many));
        ends = λ n few found. let behind = some_later (end_from front (after s.state b)) n (sym end_here ∙ found) in
            same ∙ tells.ends behind.0 (omega (arith, few)) behind.1 ∙ ap (λ (k : ℕ). Ends k) (omega (arith, behind.2));
        long = λ few no long. same ∙ tells.long (omega (arith, few)) (none_later (end_from front (after s.state b)) (sym end_here ∙ no)) (omega (arith, long));
        more = λ few no short. same ∙ tells.more (omega (arith, few)) (none_later (end_from front (after s.state b)) (sym end_here ∙ no)) (omega (arith, short));
      }

  too_long : (moved s b).fields ≤ 64 → is_end (after s.state b) ≡ false → s.seen + 1 ≡ 16384 → front ≡ [] → TellsBy (b ∷ front) (b ∷ bs) s
  too_long low_fields running full none =
      let test : eqb (s.seen + 1) 16384 ≡ true = rw full refl in
      let settled : is_settled (moved s b) ≡ true = rw (running, le-ltb 64 (moved s b).fields low_fields, test) refl in
      let told : extent_told (moved s b) ≡ TooLong = rw (le-ltb 64 (moved s b).fields low_fields, running, test) refl in
      let begun : begun_from front (after s.state b) ≡ 0 = rw none refl in
      let end : end_from front (after s.state b) ≡ None = rw (none, running) refl in
      let here : end_from (b ∷ front) s.state ≡ None = end_here ∙ ap (later 1) end in
      record {
        many = λ many. absurd (omega (arith, many, begun, low_fields));
        ends = λ n few found. let other = sym here ∙ found in cc;
        long = λ few no long. told_here settled ∙ told;
        more = λ few no short. absurd (omega (arith, short, full));
      }

tells : (t : List ℕ) (s : Scan) → IsOpen s → s.seen ≤ 16384 → TellsBy (take (16384 - s.seen) t) t s
tells [] s at low = subst (λ (front : List ℕ). TellsBy front [] s) (sym (take-nil (16384 - s.seen))) (tells_none s at low)
tells (b ∷ bs) s at low =
    subst (λ (front : List ℕ). TellsBy front (b ∷ bs) s) (sym front_is) (by_fields (cases_lt 64 (moved s b).fields) (λ on. tells bs (moved s b) on room))
  where
    room : s.seen + 1 ≤ 16384
    room = let short = at.short in by_place (cases_lt s.seen 16384)
      where
        by_place : (s.seen < 16384) ⊎ (16384 ≤ s.seen) → s.seen + 1 ≤ 16384
        by_place (inl less) = omega (arith, less)
        by_place (inr full) = absurd (at.short (omega (arith, full, low)))

    front_is : take (16384 - s.seen) (b ∷ bs) ≡ b ∷ take (16384 - (s.seen + 1)) bs
    front_is = let count : 16384 - s.seen ≡ suc (16384 - (s.seen + 1)) = omega (arith, room) in ap (λ (k : ℕ). take k (b ∷ bs)) count

    by_place : (moved s b).fields ≤ 64 → is_end (after s.state b) ≡ false → (s.seen + 1 < 16384) ⊎ (16384 ≤ s.seen + 1)
        → (IsOpen (moved s b) → TellsBy (take (16384 - (s.seen + 1)) bs) bs (moved s b)) → TellsBy (b ∷ take (16384 - (s.seen + 1)) bs) (b ∷ bs) s
    by_place few running (inl less) ih =
        goes_on b bs (take (16384 - (s.seen + 1)) bs) s at low (ih (record { running = running; few = few; short = λ e. omega (arith, e, less) }))
    by_place few running (inr full) ih =
        let none : 16384 - (s.seen + 1) ≡ 0 = omega (arith, full) in
        too_long b bs (take (16384 - (s.seen + 1)) bs) s at low few running (omega (arith, full, room)) (ap (λ (k : ℕ). take k bs) none)

    by_end : (moved s b).fields ≤ 64 → (e : Bool) → is_end (after s.state b) ≡ e
        → (IsOpen (moved s b) → TellsBy (take (16384 - (s.seen + 1)) bs) bs (moved s b)) → TellsBy (b ∷ take (16384 - (s.seen + 1)) bs) (b ∷ bs) s
    by_end few true end ih = ended b bs (take (16384 - (s.seen + 1)) bs) s at low few end
    by_end few false running ih = by_place few running (cases_lt (s.seen + 1) 16384) ih

    by_fields : (64 < (moved s b).fields) ⊎ ((moved s b).fields ≤ 64)
        → (IsOpen (moved s b) → TellsBy (take (16384 - (s.seen + 1)) bs) bs (moved s b)) → TellsBy (b ∷ take (16384 - (s.seen + 1)) bs) (b ∷ bs) s
    by_fields (inl over) ih = too_many b bs (take (16384 - (s.seen + 1)) bs) s at low over
    by_fields (inr few) ih = by_end few (is_end (after s.state b)) refl ih

-- what a scan of the bytes tells
pub scan_tells : (bytes : List ℕ) → extent_told (scan_of bytes) ≡ extent_of bytes
unfolding scan_of
scan_tells bytes =
    let first = tells bytes opening (record { running = refl; few = omega arith; short = λ e. omega (arith, e) }) (omega arith) in
    let count : 16384 - 0 ≡ 16384 = omega arith in
    let front : TellsBy (take 16384 bytes) bytes opening = subst (λ (k : ℕ). TellsBy (take k bytes) bytes opening) count first in
    by_fields front (cases_lt 64 (begun_fields (take 16384 bytes)))
  where
    by_length : TellsBy (take 16384 bytes) bytes opening → begun_fields (take 16384 bytes) ≤ 64 → head_end (take 16384 bytes) ≡ None → (length bytes < 16384) ⊎ (16384 ≤ length bytes)
        → extent_told (after_all bytes opening) ≡ extent_of bytes
    by_length front few none (inl short) =
        front.more (omega (arith, few, begun_from-begun_fields (take 16384 bytes))) (end_from-head_end (take 16384 bytes) ∙ none) (omega (arith, short)) ∙ sym (extent_more bytes few none short)
    by_length front few none (inr long) =
        front.long (omega (arith, few, begun_from-begun_fields (take 16384 bytes))) (end_from-head_end (take 16384 bytes) ∙ none) (omega (arith, long)) ∙ sym (extent_too_long bytes few none long)

    by_end : TellsBy (take 16384 bytes) bytes opening → begun_fields (take 16384 bytes) ≤ 64 → (end : Option ℕ) → head_end (take 16384 bytes) ≡ end → extent_told (after_all bytes opening) ≡ extent_of bytes
    by_end front few None none = by_length front few none (cases_lt (length bytes) 16384)
    by_end front few (Some n) found =
        front.ends n (omega (arith, few, begun_from-begun_fields (take 16384 bytes))) (end_from-head_end (take 16384 bytes) ∙ found) ∙ ap (λ (k : ℕ). Ends k) (omega arith) ∙ sym (extent_ends bytes n few found)

    by_fields : TellsBy (take 16384 bytes) bytes opening → (64 < begun_fields (take 16384 bytes)) ⊎ (begun_fields (take 16384 bytes) ≤ 64) → extent_told (after_all bytes opening) ≡ extent_of bytes
    by_fields front (inl many) = front.many (omega (arith, many, begun_from-begun_fields (take 16384 bytes))) ∙ sym (extent_too_many bytes many)
    by_fields front (inr few) = by_end front few (head_end (take 16384 bytes)) refl

-- ---- a scan that goes on

-- how many bytes a scan looked at
record Looks (t : List ℕ) (s s' : Scan) : Type 0 where
  most : s'.seen ≤ s.seen + length t
  all : is_settled s' ≡ false → s'.seen ≡ s.seen + length t

looks : (t : List ℕ) (s : Scan) → Looks t s (after_all t s)
unfolding after_all step
looks [] s = record { most = omega arith; all = λ e. omega arith }
looks (b ∷ bs) s = by_test (is_settled s) refl (looks bs (step s b))
  where
    by_test : (t : Bool) → is_settled s ≡ t → Looks bs (step s b) (after_all bs (step s b)) → Looks (b ∷ bs) s (after_all (b ∷ bs) s)
    by_test true settled ih =
        let same : after_all (b ∷ bs) s ≡ s = stays (b ∷ bs) s settled in
        subst (Looks (b ∷ bs) s) (sym same) (record { most = omega arith; all = λ e. (let both = sym settled ∙ e in cc) })
    by_test false running ih =
        let next : (step s b).seen ≡ s.seen + 1 = ap (λ (x : Scan). x.seen) (step_moves b s running) in
        record { most = omega (arith, ih.most, next); all = λ e. omega (arith, ih.all e, next) }

-- the bytes that a scan of the first of them hasn't seen
pub seen_within : (s : Scan) (bytes : List ℕ) → HasSeen s bytes → s.seen ≤ length bytes
unfolding scan_of
seen_within s bytes has =
    let at = looks has.front opening in
    omega (arith, at.most, ap (λ (x : Scan). x.seen) has.scan, ap length has.bytes_are, length-append has.front has.more)

pub goes_to_end : (s : Scan) (bytes : List ℕ) → HasSeen s bytes → after_all (drop s.seen bytes) s ≡ scan_of bytes
unfolding scan_of
goes_to_end s bytes has = by_test (is_settled s) refl
  where
    whole : scan_of bytes ≡ after_all has.more s
    whole = ap (λ (t : List ℕ). after_all t opening) has.bytes_are ∙ after_all-append has.front has.more opening ∙ ap (after_all has.more) (sym has.scan)

    by_test : (t : Bool) → is_settled s ≡ t → after_all (drop s.seen bytes) s ≡ scan_of bytes
    by_test true settled = stays (drop s.seen bytes) s settled ∙ sym (whole ∙ stays has.more s settled)
    by_test false running =
        let at = looks has.front opening in
        let test : is_settled (after_all has.front opening) ≡ false = ap is_settled (sym has.scan) ∙ running in
        let count : s.seen ≡ length has.front = omega (arith, at.all test, ap (λ (x : Scan). x.seen) has.scan) in
        let rest : drop s.seen bytes ≡ has.more = ap (λ (k : ℕ). drop k bytes) count ∙ ap (drop (length has.front)) has.bytes_are ∙ drop-append_seam has.front has.more in
        ap (λ (t : List ℕ). after_all t s) rest ∙ sym whole

pub seen_nothing : (bytes : List ℕ) → HasSeen (scan_of []) bytes
seen_nothing bytes = record { front = []; more = bytes; bytes_are = refl; scan = refl }

-- one more byte of those that a scan goes over
pub one_more : (bytes : List ℕ) (i : ℕ) (s now next : Scan) → i < length bytes → now ≡ after_all (take i bytes) s → is_settled now ≡ false → next ≡ moved now (get_or bytes i 0)
    → next ≡ after_all (take (i + 1) bytes) s
unfolding after_all
one_more bytes i s now next inside so_far running moves =
    rw (take_more bytes i 0 inside, after_all-append (take i bytes) (get_or bytes i 0 ∷ []) s, ← so_far) (moves ∙ sym (step_moves (get_or bytes i 0) now running))

-- the bytes behind those that settled the answer change nothing
pub settled_stays : (bytes : List ℕ) (i : ℕ) (s now : Scan) → now ≡ after_all (take i bytes) s → is_settled now ≡ true → now ≡ after_all bytes s
settled_stays bytes i s now so_far settled =
    let whole : take i bytes ++ drop i bytes ≡ bytes = take-append-drop i bytes in
    let all : after_all (take i bytes ++ drop i bytes) s ≡ now = after_all-append (take i bytes) (drop i bytes) s ∙ ap (after_all (drop i bytes)) (sym so_far) ∙ stays (drop i bytes) now settled in
    sym (rw whole at all)
