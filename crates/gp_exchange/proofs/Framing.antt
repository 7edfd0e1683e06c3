-- Bytes of a body that are no content come to an end: so many of them can stand before content, the body's end or a refusal.
use Rattle.std.proofs.Common.{◌≡◌, ℕ, zero, suc, ◌+◌, ◌-◌, ◌*◌, ◌<◌, ◌≤◌, Bool, true, false, ltb, eqb, List, [], ◌∷◌, ◌++◌, length, Option, Some, None, refl, sym, ap, ◌∙◌, arith, ◌&&◌, ◌||◌}
use Rattle.std.specs.Prelude.{⊤, is_some, if◌then◌else◌}
use Rattle.std.proofs.lemmas.Bool.{cond_both, ltb-true}
use Rattle.gp_body.specs.declared.reading.Reading.{Reading}
use Rattle.gp_body.specs.declared.state.State.{State}
use Rattle.gp_body.specs.declared.state.State.TheVariants.{Left, Stream, Size, Extension, SizeReturn, Data, DataReturn, Trailer, Field, FieldReturn, LastReturn}
use Rattle.gp_body.specs.declared.fed.FedFault.{FedFault}
use Rattle.gp_body.specs.declared.fed.FedFault.TheVariants.{TooLong}
use Rattle.gp_body.specs.Steps.{is_hex, is_extension_byte, is_field_byte, is_end, is_content, after}
use Rattle.gp_body.specs.Readings.{has_stopped, is_full, refused_by, moved, moved_or_refused, step, given_of, after_all, content_from}
use Rattle.gp_body.proofs.ReadingLemmas.{stays}
use Rattle.gp_exchange.specs.Ends.{last_of, last_by}

abbrev pub framing_left : State → ℕ
framing_left (Left n) = 0
framing_left Stream = 0
framing_left (Size digits size) = 49412 + (8 - digits)
framing_left (Extension size line) = 49157 + (254 - line)
framing_left (SizeReturn size) = 49156
framing_left (Data zero) = 49422
framing_left (Data (suc n)) = 0
framing_left DataReturn = 49421
framing_left (Trailer n) = 3 * (16384 - n) + 3
framing_left (Field n) = 3 * (16384 - n) + 5
framing_left (FieldReturn n) = 3 * (16384 - (n + 2)) + 4
framing_left LastReturn = 1

abbrev pub Falls : Option State → ℕ → Type 0
Falls None n = ⊤
Falls (Some s) n = framing_left s < n

and_right_true : (x y : Bool) → x && y ≡ true → y ≡ true
and_right_true true y e = e
and_right_true false y e = cc

-- a byte that is no content leaves fewer to come
module _ (b : ℕ) where
  falls_field : (length n : ℕ) → (length < 16382 → framing_left (Field (length + 1)) < n) → Falls (if is_field_byte b && ltb length 16382 then Some (Field (length + 1)) else None) n
  falls_field length n less =
      cond_both (is_field_byte b && ltb length 16382) (Some (Field (length + 1))) None (λ (o : Option State). Falls o n)
      (λ e. less (ltb-true length 16382 (and_right_true (is_field_byte b) (ltb length 16382) e))) (λ e. tt)

  pub falls : (s : State) → is_content s ≡ false → Falls (after s b) (framing_left s)
  unfolding after
  falls (Left zero) none = tt
  falls (Left (suc n)) none = cc
  falls Stream none = cc
  falls (Size digits size) none =
      cond_both (is_hex b) _ _ (λ (o : Option State). Falls o (49412 + (8 - digits)))
      (λ _. cond_both (ltb digits 8) _ None (λ (o : Option State). Falls o (49412 + (8 - digits))) (λ e. (let few = ltb-true digits 8 e in omega arith)) (λ _. tt))
      (λ _. cond_both (eqb digits 0) None _ (λ (o : Option State). Falls o (49412 + (8 - digits))) (λ _. tt)
      (λ _. cond_both (eqb b 13) _ _ (λ (o : Option State). Falls o (49412 + (8 - digits))) (λ _. omega arith)
      (λ _. cond_both (eqb b 59) _ None (λ (o : Option State). Falls o (49412 + (8 - digits))) (λ _. omega arith) (λ _. tt))))
  falls (Extension size line) none =
      cond_both (eqb b 13) _ _ (λ (o : Option State). Falls o (49157 + (254 - line))) (λ _. omega arith)
      (λ _. cond_both (is_extension_byte b && ltb line 254) _ None (λ (o : Option State). Falls o (49157 + (254 - line)))
      (λ e. (let few = ltb-true line 254 (and_right_true (is_extension_byte b) (ltb line 254) e) in omega arith)) (λ _. tt))
  falls (SizeReturn zero) none = cond_both (eqb b 10) _ None (λ (o : Option State). Falls o 49156) (λ _. omega arith) (λ _. tt)
  falls (SizeReturn (suc n)) none = cond_both (eqb b 10) _ None (λ (o : Option State). Falls o 49156) (λ _. omega arith) (λ _. tt)
  falls (Data zero) none = cond_both (eqb b 13) _ None (λ (o : Option State). Falls o 49422) (λ _. omega arith) (λ _. tt)
  falls (Data (suc n)) none = cc
  falls DataReturn none = cond_both (eqb b 10) _ None (λ (o : Option State). Falls o 49421) (λ _. omega arith) (λ _. tt)
  falls (Trailer length) none = cond_both (eqb b 13) _ _ (λ (o : Option State). Falls o (3 * (16384 - length) + 3)) (λ _. omega arith) (λ _. falls_field length (3 * (16384 - length) + 3) (λ few. omega arith))
  falls (Field length) none = cond_both (eqb b 13) _ _ (λ (o : Option State). Falls o (3 * (16384 - length) + 5)) (λ _. omega arith) (λ _. falls_field length (3 * (16384 - length) + 5) (λ few. omega arith))
  falls (FieldReturn length) none = cond_both (eqb b 10) _ None (λ (o : Option State). Falls o (3 * (16384 - (length + 2)) + 4)) (λ _. omega arith) (λ _. tt)
  falls LastReturn none = cond_both (eqb b 10) _ None (λ (o : Option State). Falls o 1) (λ _. omega arith) (λ _. tt)

-- what can come where no content does
abbrev pub left : Reading → ℕ
left r = if has_stopped r then 0 else framing_left r.state + 1

left_most : (r : Reading) → left r ≤ framing_left r.state + 1
left_most r = cond_both (has_stopped r) 0 (framing_left r.state + 1) (λ (n : ℕ). n ≤ framing_left r.state + 1) (λ _. omega arith) (λ _. omega arith)

some_left : (r : Reading) → has_stopped r ≡ false → left r ≡ framing_left r.state + 1
some_left r going = rw going refl

falls_on : (r : Reading) (o : Option State) → Falls o (framing_left r.state) → left (moved_or_refused o r) < framing_left r.state + 1
falls_on r None f = omega arith
falls_on r (Some s) f = omega (arith, left_most (moved s 1 (if is_content r.state then 1 else 0) r), f)

step_falls : (b : ℕ) (r : Reading) → has_stopped r ≡ false → given_of b r ≡ [] → left (step b r) < framing_left r.state + 1
unfolding step given_of
step_falls b r going none = rw going (by_full (is_full r) refl)
  where
    by_content : (t : Bool) → is_content r.state ≡ t → is_full r ≡ false → left (moved_or_refused (after r.state b) r) < framing_left r.state + 1
    by_content true e full =
        let given : given_of b r ≡ b ∷ [] = rw (going, full, e) refl in
        let never : b ∷ [] ≡ [] = sym given ∙ none in cc
    by_content false e full = falls_on r (after r.state b) (falls b r.state e)

    by_full : (t : Bool) → is_full r ≡ t → left (if t then refused_by (TooLong r.limit) r else moved_or_refused (after r.state b) r) < framing_left r.state + 1
    by_full true e = omega arith
    by_full false e = by_content (is_content r.state) refl e

no_parts : (xs ys : List ℕ) → xs ++ ys ≡ [] → (xs ≡ []) × (ys ≡ [])
no_parts [] ys e = (refl, e)
no_parts (x ∷ xs) ys e = cc

never_more : (bs : List ℕ) (r : Reading) → content_from bs r ≡ [] → left (after_all bs r) ≤ left r
unfolding after_all content_from
never_more [] r none = omega arith
never_more (b ∷ bs) r none =
    let parts = no_parts (given_of b r) (content_from bs (step b r)) none in
    by_stopped (has_stopped r) refl parts.0 (never_more bs (step b r) parts.1)
  where
    by_stopped : (t : Bool) → has_stopped r ≡ t → given_of b r ≡ [] → left (after_all bs (step b r)) ≤ left (step b r) → left (after_all bs (step b r)) ≤ left r
    by_stopped true e first others = omega (arith, others, ap left (stays (b ∷ []) r e))
    by_stopped false e first others = omega (arith, others, step_falls b r e first, some_left r e)

pub falls_all : (bs : List ℕ) (r : Reading) → has_stopped r ≡ false → content_from bs r ≡ [] → 0 < length bs → left (after_all bs r) < left r
unfolding after_all content_from
falls_all [] r going none some = absurd (omega arith)
falls_all (b ∷ bs) r going none some =
    let parts = no_parts (given_of b r) (content_from bs (step b r)) none in
    omega (arith, never_more bs (step b r) parts.1, step_falls b r going parts.0, some_left r going)

-- a reader that has met no end goes on
pub goes_on : (r : Reading) → last_of r ≡ None → has_stopped r ≡ false
goes_on r none = by_both r.refused (is_end r.state) none
  where
    by_both : (refused : Option FedFault) (end : Bool) → last_by refused end ≡ None → is_some refused || end ≡ false
    by_both (Some fault) end e = cc
    by_both None true e = cc
    by_both None false e = refl
