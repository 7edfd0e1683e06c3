-- What every reading of a body keeps, and that each byte brings its end nearer.
use Rattle.std.proofs.Common.{◌≡◌, ℕ, zero, suc, ◌+◌, ◌*◌, ◌<◌, ◌≤◌, Bool, true, false, cond, ◌&&◌, List, [], ◌∷◌, length, Option, Some, None, inl, inr, refl, subst, arith, eqb}
use Rattle.std.proofs.lemmas.Bool.{ltb-true, and_parts, eqb-false, false_from_ne_true}
use Rattle.std.proofs.lemmas.Option.{cond_some}
use Rattle.std.specs.Char.{digit_value}
use Rattle.std.specs.Prelude.{nat_lt}
use Rattle.gp_body.specs.declared.plan.BodyPlan.{BodyPlan}
use Rattle.gp_body.specs.declared.plan.BodyPlan.TheVariants.{None as NoBody, Length, Chunked, ToClose}
use Rattle.gp_body.specs.declared.state.State.{State}
use Rattle.gp_body.specs.declared.state.State.TheVariants.{Left, Stream, Size, Extension, SizeReturn, Data, DataReturn, Trailer, Field, FieldReturn, LastReturn}
use Rattle.gp_body.specs.declared.fed.FedFault.{FedFault}
use Rattle.gp_body.specs.declared.fed.FedFault.TheVariants.{Chunk, TooLong}
use Rattle.gp_body.specs.declared.reading.Reading.{Reading}
use Rattle.gp_body.specs.Steps.{is_end, is_content, is_hex, is_extension_byte, is_field_byte, after, after_size_line, first_state}
use Rattle.gp_body.specs.Steps as steps
use Rattle.gp_body.specs.Readings.{has_stopped, is_full, refused_by, moved, moved_or_refused, step, after_all}
use Rattle.gp_body.specs.Wholes.{opening, reading_of}
use Rattle.gp_body.proofs.GrammarSound.{size_branch, byte_branch}
use Rattle.gp_body.proofs.ReadingLemmas.{step_stopped, stays}
use Rattle.gp_intake.specs.Bodies.{IsCause, framing_left, left_of, bytes_left}

-- the bounds of lines are kept
abbrev pub IsBounded : State → Type 0
IsBounded (Left n) = Unit {0}
IsBounded Stream = Unit {0}
IsBounded (Size digits size) = digits ≤ 8
IsBounded (Extension size line) = line ≤ 254
IsBounded (SizeReturn size) = Unit {0}
IsBounded (Data n) = Unit {0}
IsBounded DataReturn = Unit {0}
IsBounded (Trailer n) = n ≤ 16384
IsBounded (Field n) = n ≤ 16382
IsBounded (FieldReturn n) = n ≤ 16382
IsBounded LastReturn = Unit {0}

pub record Steady (limit : ℕ) (r : Reading) : Type 0 where
  pub state : IsBounded r.state
  pub within : r.given ≤ r.limit
  pub limit_is : r.limit ≡ limit
  pub cause : IsCause limit r.refused
  pub ended : is_end r.state ≡ true → r.refused ≡ None

-- what the next state of a reading keeps
record Next (s s' : State) : Type 0 where
  sound : IsBounded s'
  framing : is_content s ≡ false → is_end s' ≡ false → framing_left s' < framing_left s
  content : framing_left s' < framing_left s + 17000

one_size : (digits size b : ℕ) (s' : State) → IsBounded (Size digits size) → after (Size digits size) b ≡ Some s' → Next (Size digits size) s'
unfolding after
one_size digits size b s' sound e =
    elim (size_branch (is_hex b) (nat_lt digits 8) (eqb digits 0) (eqb b 13) (eqb b 59) (Size (digits + 1) (size * 16 + digit_value b)) (SizeReturn size) (Extension size (digits + 1)) s' e) [
      | inl h ↦ subst (Next (Size digits size)) h.2 (record { sound = omega (arith, ltb-true digits 8 h.1); framing = λ c n. omega (arith, ltb-true digits 8 h.1); content = omega (arith, sound) })
      | inr g ↦ elim g [
        | inl r ↦ subst (Next (Size digits size)) r.2 (record { sound = tt; framing = λ c n. omega (arith, sound); content = omega (arith, sound) })
        | inr x ↦ subst (Next (Size digits size)) x.2 (record { sound = omega (arith, sound); framing = λ c n. omega (arith, sound); content = omega (arith, sound) })
      ]
    ]

one_extension : (size line b : ℕ) (s' : State) → line ≤ 254 → after (Extension size line) b ≡ Some s' → Next (Extension size line) s'
unfolding after
one_extension size line b s' sound e =
    elim (byte_branch (eqb b 13) (steps.is_extension_byte b && nat_lt line 254) (SizeReturn size) (Extension size (line + 1)) s' e) [
      | inl r ↦ subst (Next (Extension size line)) r.1 (record { sound = tt; framing = λ c n. omega arith; content = omega arith })
      | inr x ↦ let few : line < 254 = ltb-true line 254 (and_parts (is_extension_byte b) (nat_lt line 254) x.0).1 in
          subst (Next (Extension size line)) x.1 (record { sound = omega arith; framing = λ c n. omega arith; content = omega arith })
    ]

size_line : (size : ℕ) → Next (SizeReturn size) (after_size_line size)
size_line zero = record { sound = omega arith; framing = λ c n. omega arith; content = omega arith }
size_line (suc n) = record { sound = tt; framing = λ c m. omega arith; content = omega arith }

next : (s : State) (b : ℕ) (s' : State) → IsBounded s → after s b ≡ Some s' → Next s s'
unfolding after
next (Left zero) b s' sound e = cc
next (Left (suc n)) b s' sound e = let h : Left n ≡ s' = cc in subst (Next (Left (suc n))) h (record { sound = tt; framing = λ c m. (cc); content = omega arith })
next Stream b s' sound e = let h : Stream ≡ s' = cc in subst (Next Stream) h (record { sound = tt; framing = λ c m. (cc); content = omega arith })
next (Size digits size) b s' sound e = one_size digits size b s' sound e
next (Extension size line) b s' sound e = one_extension size line b s' sound e
next (SizeReturn size) b s' sound e = let h = cond_some (eqb b 10) (after_size_line size) s' e in subst (Next (SizeReturn size)) h.1 (size_line size)
next (Data zero) b s' sound e = let h = cond_some (eqb b 13) DataReturn s' e in subst (Next (Data zero)) h.1 (record { sound = tt; framing = λ c n. omega arith; content = omega arith })
next (Data (suc zero)) b s' sound e = let h : Data zero ≡ s' = cc in subst (Next (Data (suc zero))) h (record { sound = tt; framing = λ c m. (cc); content = omega arith })
next (Data (suc (suc n))) b s' sound e = let h : Data (suc n) ≡ s' = cc in subst (Next (Data (suc (suc n)))) h (record { sound = tt; framing = λ c m. (cc); content = omega arith })
next DataReturn b s' sound e = let h = cond_some (eqb b 10) (Size 0 0) s' e in subst (Next DataReturn) h.1 (record { sound = omega arith; framing = λ c n. omega arith; content = omega arith })
next (Trailer n) b s' sound e =
    elim (byte_branch (eqb b 13) (is_field_byte b && nat_lt n 16382) LastReturn (Field (n + 1)) s' e) [
      | inl r ↦ subst (Next (Trailer n)) r.1 (record { sound = tt; framing = λ c m. omega arith; content = omega arith })
      | inr x ↦ let few : n < 16382 = ltb-true n 16382 (and_parts (is_field_byte b) (nat_lt n 16382) x.0).1 in
          subst (Next (Trailer n)) x.1 (record { sound = omega arith; framing = λ c m. omega arith; content = omega arith })
    ]
next (Field n) b s' sound e =
    elim (byte_branch (eqb b 13) (is_field_byte b && nat_lt n 16382) (FieldReturn n) (Field (n + 1)) s' e) [
      | inl r ↦ subst (Next (Field n)) r.1 (record { sound = sound; framing = λ c m. omega arith; content = omega arith })
      | inr x ↦ let few : n < 16382 = ltb-true n 16382 (and_parts (is_field_byte b) (nat_lt n 16382) x.0).1 in
          subst (Next (Field n)) x.1 (record { sound = omega arith; framing = λ c m. omega arith; content = omega arith })
    ]
next (FieldReturn n) b s' sound e = let h = cond_some (eqb b 10) (Trailer (n + 2)) s' e in subst (Next (FieldReturn n)) h.1 (record { sound = omega arith; framing = λ c m. omega arith; content = omega arith })
next LastReturn b s' sound e = let h = cond_some (eqb b 10) (Left 0) s' e in subst (Next LastReturn) h.1 (record { sound = tt; framing = λ c m. (cc); content = omega arith })

-- a reading behind one more byte
record Stepped (limit : ℕ) (r r' : Reading) : Type 0 where
  steady : Steady limit r'
  falls : has_stopped r' ≡ false → left_of r' < left_of r

open_parts : (r : Reading) → has_stopped r ≡ false → (r.refused ≡ None) × (is_end r.state ≡ false)
open_parts r h = parts r.refused (is_end r.state) refl refl
  where
    parts : (o : Option FedFault) (e : Bool) → r.refused ≡ o → is_end r.state ≡ e → (r.refused ≡ None) × (is_end r.state ≡ false)
    parts None false x y = (x, y)
    parts None true x y = let bad : has_stopped r ≡ true = rw (x, y) refl in cc
    parts (Some f) e x y = let bad : has_stopped r ≡ true = rw x refl in cc

not_full : (r : Reading) → is_content r.state ≡ true → is_full r ≡ false → r.given ≤ r.limit → r.given < r.limit
not_full r content f within =
    let other : eqb r.given r.limit ≡ false = rw content at f in
    let differ : r.given ≡ r.limit → ⊥ = eqb-false r.given r.limit other in
    omega (arith, within, differ)

stepped : (limit b : ℕ) (r : Reading) → Steady limit r → has_stopped r ≡ false → Stepped limit r (step b r)
unfolding step
stepped limit b r s going = by_full (is_full r) refl
  where
    none : (r.refused ≡ None) × (is_end r.state ≡ false)
    none = open_parts r going

    refuses : (fault : FedFault) → IsCause limit (Some fault) → Stepped limit r (refused_by fault r)
    refuses fault cause = record {
      steady = record { state = s.state; within = s.within; limit_is = s.limit_is; cause = cause; ended = λ e. (let h = none.1 in cc) };
      falls = λ h. (cc);
    }

    moves : (s' : State) (c : Bool) → is_content r.state ≡ c → (c ≡ true → r.given < r.limit) → after r.state b ≡ Some s' → Stepped limit r (moved s' 1 (cond c 1 0) r)
    moves s' true content room e =
        let n = next r.state b s' s.state e in
        record {
          steady = record { state = n.sound; within = omega (arith, room refl); limit_is = s.limit_is; cause = s.cause; ended = λ h. none.0 };
          falls = λ h. omega (arith, room refl, n.content);
        }
    moves s' false content room e =
        let n = next r.state b s' s.state e in
        record {
          steady = record { state = n.sound; within = omega (arith, s.within); limit_is = s.limit_is; cause = s.cause; ended = λ h. none.0 };
          falls = λ h. omega (arith, n.framing content (open_parts (moved s' 1 0 r) h).1);
        }

    by_next : (o : Option State) → after r.state b ≡ o → (is_content r.state ≡ true → r.given < r.limit) → Stepped limit r (moved_or_refused o r)
    by_next None e room = refuses (Chunk r.place) tt
    by_next (Some s') e room = moves s' (is_content r.state) refl room e

    by_full : (t : Bool) → is_full r ≡ t → Stepped limit r (step b r)
    by_full true f = rw (going, f) (refuses (TooLong r.limit) s.limit_is)
    by_full false f = rw (going, f) (by_next (after r.state b) refl (λ content. not_full r content f s.within))

pub all_steady : (limit : ℕ) (bytes : List ℕ) (r : Reading) → Steady limit r → Steady limit (after_all bytes r)
unfolding after_all
all_steady limit [] r s = s
all_steady limit (b ∷ bs) r s = all_steady limit bs (step b r) (one (has_stopped r) refl)
  where
    one : (t : Bool) → has_stopped r ≡ t → Steady limit (step b r)
    one true e = rw (step_stopped b r e) s
    one false e = (stepped limit b r s e).steady

not_below : (n : ℕ) → nat_lt n 0 ≡ false
not_below n = false_from_ne_true (nat_lt n 0) (λ h. absurd (omega (arith, ltb-true n 0 h)))

first_steady : (plan : BodyPlan) (limit : ℕ) → Steady limit (opening plan limit)
first_steady NoBody limit = record { state = tt; within = omega arith; limit_is = refl; cause = tt; ended = λ e. refl }
first_steady (Length n) limit = record { state = tt; within = omega arith; limit_is = refl; cause = planned (nat_lt limit n); ended = λ e. empty n e }
  where
    planned : (t : Bool) → IsCause limit (cond t (Some (TooLong limit)) None)
    planned true = refl
    planned false = tt

    empty : (n : ℕ) → is_end (Left n) ≡ true → cond (nat_lt limit n) (Some (TooLong limit)) None ≡ None
    empty zero e = rw (not_below limit) refl
    empty (suc n) e = cc
first_steady Chunked limit = record { state = omega arith; within = omega arith; limit_is = refl; cause = tt; ended = λ e. refl }
first_steady ToClose limit = record { state = tt; within = omega arith; limit_is = refl; cause = tt; ended = λ e. refl }

pub steady : (plan : BodyPlan) (limit : ℕ) (text : List ℕ) → Steady limit (reading_of plan limit text)
unfolding reading_of
steady plan limit text = all_steady limit text (opening plan limit) (first_steady plan limit)

module _ (limit b : ℕ) (r : Reading) (s : Steady limit r) (going : has_stopped r ≡ false) where
  behind : (bs : List ℕ) (t : Bool) → has_stopped (step b r) ≡ t → (has_stopped (step b r) ≡ false → 0 < length bs → bytes_left (after_all bs (step b r)) < bytes_left (step b r))
      → bytes_left (after_all bs (step b r)) < bytes_left r
  unfolding after_all
  behind bs true e rest = rw (stays bs (step b r) e, e, going) (omega (arith))
  behind [] false e rest = rw (e, going) (omega (arith, (stepped limit b r s going).falls e))
  behind (x ∷ xs) false e rest =
      let less = rest e (omega arith) in
      let falls = (stepped limit b r s going).falls e in
      let here : bytes_left (step b r) < bytes_left r = rw (e, going) (omega (arith, falls)) in
      omega (arith, less, here)

pub nearer : (limit : ℕ) (bytes : List ℕ) (r : Reading) → Steady limit r → has_stopped r ≡ false → 0 < length bytes → bytes_left (after_all bytes r) < bytes_left r
unfolding after_all
nearer limit [] r s going some = absurd (omega arith)
nearer limit (b ∷ bs) r s going some = behind limit b r s going bs (has_stopped (step b r)) refl (λ e more. nearer limit bs (step b r) (stepped limit b r s going).steady e more)
