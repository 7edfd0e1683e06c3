-- How a reading goes over a run of content.
use Rattle.std.proofs.Common.{◌≡◌, ℕ, zero, suc, ◌+◌, ◌-◌, ◌^◌, ◌<◌, ◌≤◌, min, true, false, List, [], ◌∷◌, length, take, Option, Some, None, refl, sym, ap, ◌∙◌, subst, arith, eq-eqb, length-take, ltb, ◌⊎◌, inl, inr, Bool}
use Rattle.std.proofs.lemmas.Bool.{ne_eqb, ltb-true, ltb-false}
use Rattle.gp_body.specs.declared.state.State.{State}
use Rattle.gp_body.specs.declared.state.State.TheVariants.{Left, Stream, Size, Extension, SizeReturn, Data, DataReturn, Trailer, Field, FieldReturn, LastReturn}
use Rattle.gp_body.specs.declared.fed.FedFault.{FedFault}
use Rattle.gp_body.specs.declared.fed.FedFault.TheVariants.{TooLong}
use Rattle.gp_body.specs.declared.reading.Reading.{Reading}
use Rattle.gp_body.specs.Steps.{is_end, is_content, is_framing, after, content_len, behind}
use Rattle.gp_body.specs.Steps as steps
use Rattle.gp_body.specs.Readings.{refused_by, moved, step, given_of, after_all, content_from, Refuses, Takes}
use Rattle.gp_body.proofs.ReadingLemmas.{stays, gives_none}

-- where content is waited for, the body hasn't ended
pub content_goes_on : (s : State) → is_content s ≡ true → is_end s ≡ false
content_goes_on (Left zero) h = cc
content_goes_on (Left (suc n)) h = refl
content_goes_on Stream h = refl
content_goes_on (Size digits size) h = refl
content_goes_on (Extension size line) h = refl
content_goes_on (SizeReturn size) h = refl
content_goes_on (Data n) h = refl
content_goes_on DataReturn h = refl
content_goes_on (Trailer n) h = refl
content_goes_on (Field n) h = refl
content_goes_on (FieldReturn n) h = refl
content_goes_on LastReturn h = refl

pub is_content-from_len : (s : State) (n : ℕ) → 0 < content_len s n → is_content s ≡ true
is_content-from_len (Left zero) n h = absurd (omega arith)
is_content-from_len (Left (suc k)) n h = refl
is_content-from_len Stream n h = refl
is_content-from_len (Size digits size) n h = absurd (omega arith)
is_content-from_len (Extension size line) n h = absurd (omega arith)
is_content-from_len (SizeReturn size) n h = absurd (omega arith)
is_content-from_len (Data zero) n h = absurd (omega arith)
is_content-from_len (Data (suc k)) n h = refl
is_content-from_len DataReturn n h = absurd (omega arith)
is_content-from_len (Trailer k) n h = absurd (omega arith)
is_content-from_len (Field k) n h = absurd (omega arith)
is_content-from_len (FieldReturn k) n h = absurd (omega arith)
is_content-from_len LastReturn n h = absurd (omega arith)

pub len-from_content : (s : State) (n : ℕ) → is_content s ≡ true → 0 < n → 0 < content_len s n
len-from_content (Left zero) n h some = cc
len-from_content (Left (suc k)) n h some = omega arith
len-from_content Stream n h some = some
len-from_content (Size digits size) n h some = cc
len-from_content (Extension size line) n h some = cc
len-from_content (SizeReturn size) n h some = cc
len-from_content (Data zero) n h some = cc
len-from_content (Data (suc k)) n h some = omega arith
len-from_content DataReturn n h some = cc
len-from_content (Trailer k) n h some = cc
len-from_content (Field k) n h some = cc
len-from_content (FieldReturn k) n h some = cc
len-from_content LastReturn n h some = cc

pub len-le : (s : State) (n : ℕ) → content_len s n ≤ n
len-le (Left k) n = omega arith
len-le Stream n = omega arith
len-le (Size digits size) n = omega arith
len-le (Extension size line) n = omega arith
len-le (SizeReturn size) n = omega arith
len-le (Data k) n = omega arith
len-le DataReturn n = omega arith
len-le (Trailer k) n = omega arith
len-le (Field k) n = omega arith
len-le (FieldReturn k) n = omega arith
len-le LastReturn n = omega arith

-- of fewer bytes at most so many are content as there are
pub len-fewer : (s : State) (n k : ℕ) → k ≤ content_len s n → content_len s k ≡ k
len-fewer (Left m) n k h = omega arith
len-fewer Stream n k h = refl
len-fewer (Size digits size) n k h = omega arith
len-fewer (Extension size line) n k h = omega arith
len-fewer (SizeReturn size) n k h = omega arith
len-fewer (Data m) n k h = omega arith
len-fewer DataReturn n k h = omega arith
len-fewer (Trailer m) n k h = omega arith
len-fewer (Field m) n k h = omega arith
len-fewer (FieldReturn m) n k h = omega arith
len-fewer LastReturn n k h = omega arith

pub behind-sound : (s : State) (n : ℕ) → steps.IsSound s → steps.IsSound (behind s n)
behind-sound (Left m) n h = tt
behind-sound Stream n h = tt
behind-sound (Size digits size) n h = h
behind-sound (Extension size line) n h = h
behind-sound (SizeReturn size) n h = tt
behind-sound (Data m) n h = tt
behind-sound DataReturn n h = tt
behind-sound (Trailer m) n h = h
behind-sound (Field m) n h = h
behind-sound (FieldReturn m) n h = h
behind-sound LastReturn n h = tt

-- a byte of content
pub step_content : (b : ℕ) (r : Reading) (s : State) → r.refused ≡ None → is_content r.state ≡ true → r.given < r.limit → after r.state b ≡ Some s → step b r ≡ moved s 1 1 r
unfolding step
step_content b r s none content room next =
    rw (none, content_goes_on r.state content, content, ne_eqb r.given r.limit (λ e. omega (arith, e, room)), next) (rw content refl)

pub given_content : (b : ℕ) (r : Reading) → r.refused ≡ None → is_content r.state ≡ true → r.given < r.limit → given_of b r ≡ b ∷ []
unfolding given_of
given_content b r none content room =
    rw (none, content_goes_on r.state content, content, ne_eqb r.given r.limit (λ e. omega (arith, e, room))) refl

-- the limit is met
pub too_long : (bytes : List ℕ) (r : Reading) → 0 < content_len r.state (length bytes) → r.limit ≡ r.given → r.refused ≡ None
    → Refuses r bytes (TooLong r.limit) (refused_by (TooLong r.limit) r)
unfolding step given_of after_all content_from
too_long [] r some full none = absurd (omega (arith, len-le r.state 0))
too_long (b ∷ bs) r some full none =
    let content = is_content-from_len r.state (length (b ∷ bs)) some in
    let here : step b r ≡ refused_by (TooLong r.limit) r = rw (none, content_goes_on r.state content, content, eq-eqb r.given r.limit (sym full)) refl in
    let gives : given_of b r ≡ [] = rw (none, content_goes_on r.state content, content, eq-eqb r.given r.limit (sym full)) refl in
    record {
      reading = sym (ap (after_all bs) here ∙ stays bs (refused_by (TooLong r.limit) r) refl);
      no_content = rw (gives, here) (gives_none bs (refused_by (TooLong r.limit) r) refl);
      told = refl;
    }

behind-none : (s : State) → behind s 0 ≡ s
behind-none (Left m) = ap (λ (k : ℕ). Left k) (omega arith)
behind-none Stream = refl
behind-none (Size digits size) = refl
behind-none (Extension size line) = refl
behind-none (SizeReturn size) = refl
behind-none (Data m) = ap (λ (k : ℕ). Data k) (omega arith)
behind-none DataReturn = refl
behind-none (Trailer m) = refl
behind-none (Field m) = refl
behind-none (FieldReturn m) = refl
behind-none LastReturn = refl

-- so many bytes were spent, or the limit is met
spent_or_met : (m len room n : ℕ) → n ≡ min (min len m) room → n < len → (m - n ≡ 0) ⊎ (n ≡ room)
spent_or_met m len room n exact more = by_test (ltb n room) refl
  where
    by_test : (t : Bool) → ltb n room ≡ t → (m - n ≡ 0) ⊎ (n ≡ room)
    by_test true e = let less = ltb-true n room e in inl (omega (arith, less, exact, more))
    by_test false e = let full = ltb-false n room e in inr (omega (arith, full, exact))

spent : {limit : ℕ} (m len given n : ℕ) (wait : ℕ → State) → is_content (wait 0) ≡ false → given ≤ limit → n ≡ min (min len m) (limit - given) → n < len → (is_content (wait (m - n)) ≡ false) ⊎ (given + n ≡ limit)
spent {limit = limit} m len given n wait none within exact more =
    elim (spent_or_met m len (limit - given) n exact more) [ inl e ↦ inl (ap (λ (k : ℕ). is_content (wait k)) e ∙ none) | inr e ↦ inr (omega (arith, e, within)) ]

module _ (limit : ℕ) where
  abbrev pub at : State → ℕ → ℕ → Reading
  at s place given = record { state = s; refused = None; limit = limit; place = place; given = given }

  at-same : (s s' : State) (p p' g g' : ℕ) → s ≡ s' → p ≡ p' → g ≡ g' → at s p g ≡ at s' p' g'
  at-same s s' p p' g g' e f h = rw (e, f, h) refl

  -- one more byte of content before the others
  one_then : (b : ℕ) (bs : List ℕ) (s s' : State) (place given : ℕ) → is_content s ≡ true → after s b ≡ Some s' → behind s' (length bs) ≡ behind s (length (b ∷ bs)) → given + length (b ∷ bs) ≤ limit
      → after_all bs (at s' (min (place + 1) (2 ^ 64 - 1)) (given + 1)) ≡ at (behind s' (length bs)) (min (min (place + 1) (2 ^ 64 - 1) + length bs) (2 ^ 64 - 1)) (given + 1 + length bs)
      → after_all (b ∷ bs) (at s place given) ≡ at (behind s (length (b ∷ bs))) (min (place + length (b ∷ bs)) (2 ^ 64 - 1)) (given + length (b ∷ bs))
  unfolding after_all
  one_then b bs s s' place given content next end room others =
      ap (after_all bs) (step_content b (at s place given) s' refl content (omega arith) next) ∙ others
      ∙ at-same (behind s' (length bs)) (behind s (length (b ∷ bs))) _ _ _ _ end (omega arith) (omega arith)

  pub run_all : (bs : List ℕ) (s : State) (place given : ℕ) → content_len s (length bs) ≡ length bs → given + length bs ≤ limit → place ≤ 2 ^ 64 - 1
      → after_all bs (at s place given) ≡ at (behind s (length bs)) (min (place + length bs) (2 ^ 64 - 1)) (given + length bs)
  unfolding after after_all
  run_all [] s place given all room low = at-same s (behind s 0) place _ given _ (sym (behind-none s)) (omega arith) (omega arith)
  run_all (b ∷ bs) (Left zero) place given all room low = absurd (omega arith)
  run_all (b ∷ bs) (Left (suc n)) place given all room low =
      one_then b bs (Left (suc n)) (Left n) place given refl refl (ap (λ (k : ℕ). Left k) (omega arith)) room (run_all bs (Left n) (min (place + 1) (2 ^ 64 - 1)) (given + 1) (omega arith) (omega arith) (omega arith))
  run_all (b ∷ bs) Stream place given all room low =
      one_then b bs Stream Stream place given refl refl refl room (run_all bs Stream (min (place + 1) (2 ^ 64 - 1)) (given + 1) refl (omega arith) (omega arith))
  run_all (b ∷ bs) (Size digits size) place given all room low = absurd (omega arith)
  run_all (b ∷ bs) (Extension size line) place given all room low = absurd (omega arith)
  run_all (b ∷ bs) (SizeReturn size) place given all room low = absurd (omega arith)
  run_all (b ∷ bs) (Data zero) place given all room low = absurd (omega arith)
  run_all (b ∷ bs) (Data (suc n)) place given all room low =
      one_then b bs (Data (suc n)) (Data n) place given refl refl (ap (λ (k : ℕ). Data k) (omega arith)) room (run_all bs (Data n) (min (place + 1) (2 ^ 64 - 1)) (given + 1) (omega arith) (omega arith) (omega arith))
  run_all (b ∷ bs) DataReturn place given all room low = absurd (omega arith)
  run_all (b ∷ bs) (Trailer m) place given all room low = absurd (omega arith)
  run_all (b ∷ bs) (Field m) place given all room low = absurd (omega arith)
  run_all (b ∷ bs) (FieldReturn m) place given all room low = absurd (omega arith)
  run_all (b ∷ bs) LastReturn place given all room low = absurd (omega arith)

  -- the same of what is given
  gives_then : (b : ℕ) (bs : List ℕ) (s s' : State) (place given : ℕ) → is_content s ≡ true → after s b ≡ Some s' → given < limit
      → content_from bs (at s' (min (place + 1) (2 ^ 64 - 1)) (given + 1)) ≡ bs → content_from (b ∷ bs) (at s place given) ≡ b ∷ bs
  unfolding content_from
  gives_then b bs s s' place given content next room others =
      rw (given_content b (at s place given) refl content room, step_content b (at s place given) s' refl content room next) (ap (λ (c : List ℕ). b ∷ c) others)

  pub run_gives : (bs : List ℕ) (s : State) (place given : ℕ) → content_len s (length bs) ≡ length bs → given + length bs ≤ limit → content_from bs (at s place given) ≡ bs
  unfolding after content_from
  run_gives [] s place given all room = refl
  run_gives (b ∷ bs) (Left zero) place given all room = absurd (omega arith)
  run_gives (b ∷ bs) (Left (suc n)) place given all room =
      gives_then b bs (Left (suc n)) (Left n) place given refl refl (omega arith) (run_gives bs (Left n) (min (place + 1) (2 ^ 64 - 1)) (given + 1) (omega arith) (omega arith))
  run_gives (b ∷ bs) Stream place given all room =
      gives_then b bs Stream Stream place given refl refl (omega arith) (run_gives bs Stream (min (place + 1) (2 ^ 64 - 1)) (given + 1) refl (omega arith))
  run_gives (b ∷ bs) (Size digits size) place given all room = absurd (omega arith)
  run_gives (b ∷ bs) (Extension size line) place given all room = absurd (omega arith)
  run_gives (b ∷ bs) (SizeReturn size) place given all room = absurd (omega arith)
  run_gives (b ∷ bs) (Data zero) place given all room = absurd (omega arith)
  run_gives (b ∷ bs) (Data (suc n)) place given all room =
      gives_then b bs (Data (suc n)) (Data n) place given refl refl (omega arith) (run_gives bs (Data n) (min (place + 1) (2 ^ 64 - 1)) (given + 1) (omega arith) (omega arith))
  run_gives (b ∷ bs) DataReturn place given all room = absurd (omega arith)
  run_gives (b ∷ bs) (Trailer m) place given all room = absurd (omega arith)
  run_gives (b ∷ bs) (Field m) place given all room = absurd (omega arith)
  run_gives (b ∷ bs) (FieldReturn m) place given all room = absurd (omega arith)
  run_gives (b ∷ bs) LastReturn place given all room = absurd (omega arith)

  -- a run ends where the content does, or at the limit
  run_over : (s : State) (len given n : ℕ) → given ≤ limit → n ≡ min (content_len s len) (limit - given) → n < len → (is_content (behind s n) ≡ false) ⊎ (given + n ≡ limit)
  run_over (Left m) len given n within exact more = spent m len given n (λ (k : ℕ). Left k) refl within exact more
  run_over Stream len given n within exact more = inr (omega (arith, exact, more, within))
  run_over (Size digits size) len given n within exact more = inl refl
  run_over (Extension size line) len given n within exact more = inl refl
  run_over (SizeReturn size) len given n within exact more = inl refl
  run_over (Data m) len given n within exact more = spent m len given n (λ (k : ℕ). Data k) refl within exact more
  run_over DataReturn len given n within exact more = inl refl
  run_over (Trailer m) len given n within exact more = inl refl
  run_over (Field m) len given n within exact more = inl refl
  run_over (FieldReturn m) len given n within exact more = inl refl
  run_over LastReturn len given n within exact more = inl refl

  pub run_takes : (bytes : List ℕ) (s : State) (place given n : ℕ) → given ≤ limit → place ≤ 2 ^ 64 - 1 → n ≡ min (content_len s (length bytes)) (limit - given)
      → (0 < content_len s (length bytes) → 0 < n)
      → Takes (at s place given) bytes n (at (behind s n) (min (place + n) (2 ^ 64 - 1)) (given + n))
  run_takes bytes s place given n within low exact some =
      let front : n ≤ content_len s (length bytes) = omega (arith, exact) in
      let room : n ≤ limit - given = omega (arith, exact) in
      let few : n ≤ length bytes = omega (arith, len-le s (length bytes)) in
      let len : length (take n bytes) ≡ n = length-take n bytes ∙ omega arith in
      let all : content_len s (length (take n bytes)) ≡ length (take n bytes) = rw len (len-fewer s (length bytes) n front) in
      let reads : after_all (take n bytes) (at s place given) ≡ at (behind s n) (min (place + n) (2 ^ 64 - 1)) (given + n) =
      rw len at (run_all (take n bytes) s place given all (omega arith) low) in
      record {
        within = few;
        reading = sym reads;
        content = run_gives (take n bytes) s place given all (omega arith);
        moves = λ content more. some (len-from_content s (length bytes) content more);
        whole = λ more. run_over s (length bytes) given n within exact more;
        goes_on = refl;
      }

pub takes : (r : Reading) (bytes : List ℕ) (n place : ℕ) (s : State) → r.refused ≡ None → r.given ≤ r.limit → r.place ≤ 2 ^ 64 - 1 → n ≡ min (content_len r.state (length bytes)) (r.limit - r.given)
    → (0 < content_len r.state (length bytes) → 0 < n) → s ≡ behind r.state n → place ≡ min (r.place + n) (2 ^ 64 - 1)
    → Takes r bytes n (record { state = s; refused = r.refused; limit = r.limit; place = place; given = r.given + n })
takes r bytes n place s none within low exact some behind_is place_is =
    let P : Option FedFault → Type 0 =
    λ o. Takes (record { state = r.state; refused = o; limit = r.limit; place = r.place; given = r.given }) bytes n
    (record { state = behind r.state n; refused = o; limit = r.limit; place = min (r.place + n) (2 ^ 64 - 1); given = r.given + n }) in
    rw (behind_is, place_is) (subst P (sym none) (run_takes r.limit bytes r.state r.place r.given n within low exact some))
