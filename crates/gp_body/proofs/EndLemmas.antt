-- What is known of a body where the input ends.
use Rattle.std.proofs.Common.{◌≡◌, ℕ, zero, suc, ◌+◌, Bool, true, false, cond, eqb, ltb, ◌&&◌, List, [], ◌∷◌, length, Option, Some, None, inl, inr, refl, sym, ap, ◌∙◌, arith, length-append, add-zero}
use Rattle.std.specs.Prelude.{Result, Ok, Err, ⊤}
use Rattle.std.proofs.lemmas.Bool.{cond_both}
use Rattle.gp_body.specs.declared.plan.BodyPlan.{BodyPlan}
use Rattle.gp_body.specs.declared.plan.BodyPlan.TheVariants.{None as NoBody, Length, Chunked, ToClose}
use Rattle.gp_body.specs.declared.state.State.{State}
use Rattle.gp_body.specs.declared.state.State.TheVariants.{Left, Stream, Size, Extension, SizeReturn, Data, DataReturn, Trailer, Field, FieldReturn, LastReturn}
use Rattle.gp_body.specs.declared.fed.FedFault.{FedFault}
use Rattle.gp_body.specs.declared.fed.FedFault.TheVariants.{TooLong}
use Rattle.gp_body.specs.declared.reading.Reading.{Reading}
use Rattle.gp_body.specs.Steps.{first_state, is_end, is_content, is_hex, is_extension_byte, is_field_byte, after, after_size, after_size_line, after_extension, after_field_byte}
use Rattle.gp_body.specs.Readings.{has_stopped, is_full, refused_by, moved_or_refused, step, given_of, after_all, content_from}
use Rattle.gp_body.specs.Wholes.{opening, reading_of, content_of, fault_of, refusal, IsFinished, IsFinishedAt}

-- content up to the close is waited for
abbrev pub is_stream : State → Bool
is_stream (Left n) = false
is_stream Stream = true
is_stream (Size digits size) = false
is_stream (Extension size line) = false
is_stream (SizeReturn size) = false
is_stream (Data n) = false
is_stream DataReturn = false
is_stream (Trailer n) = false
is_stream (Field n) = false
is_stream (FieldReturn n) = false
is_stream LastReturn = false

abbrev Keeps : Bool → Option State → Type 0
Keeps b None = ⊤
Keeps b (Some s) = is_stream s ≡ b

by_test : (b : Bool) (x y : Option State) (t : Bool) → Keeps b x → Keeps b y → Keeps b (cond t x y)
by_test b x y t h k = cond_both t x y (Keeps b) (λ e. h) (λ e. k)

field_keeps : (n b : ℕ) → Keeps false (after_field_byte n b)
field_keeps n b = by_test false (Some (Field (n + 1))) None (is_field_byte b && ltb n 16382) refl tt

size_keeps : (digits size b : ℕ) → Keeps false (after_size digits size b)
size_keeps digits size b =
    by_test false _ _ (is_hex b) (by_test false _ None (ltb digits 8) refl tt)
    (by_test false None _ (eqb digits 0) tt (by_test false _ _ (eqb b 13) refl (by_test false _ None (eqb b 59) refl tt)))

extension_keeps : (size line b : ℕ) → Keeps false (after_extension size line b)
extension_keeps size line b =
    by_test false _ _ (eqb b 13) refl (by_test false (Some (Extension size (line + 1))) None (is_extension_byte b && ltb line 254) refl tt)

line_keeps : (n : ℕ) → is_stream (after_size_line n) ≡ false
line_keeps zero = refl
line_keeps (suc n) = refl

keeps : (s : State) (b : ℕ) → Keeps (is_stream s) (after s b)
unfolding after
keeps (Left zero) b = tt
keeps (Left (suc n)) b = refl
keeps Stream b = refl
keeps (Size digits size) b = size_keeps digits size b
keeps (Extension size line) b = extension_keeps size line b
keeps (SizeReturn n) b = by_test false (Some (after_size_line n)) None (eqb b 10) (line_keeps n) tt
keeps (Data zero) b = by_test false (Some DataReturn) None (eqb b 13) refl tt
keeps (Data (suc n)) b = refl
keeps DataReturn b = by_test false (Some (Size 0 0)) None (eqb b 10) refl tt
keeps (Trailer n) b = by_test false (Some LastReturn) _ (eqb b 13) refl (field_keeps n b)
keeps (Field n) b = by_test false (Some (FieldReturn n)) _ (eqb b 13) refl (field_keeps n b)
keeps (FieldReturn n) b = by_test false (Some (Trailer (n + 2))) None (eqb b 10) refl tt
keeps LastReturn b = by_test false (Some (Left 0)) None (eqb b 10) refl tt

moved_keeps : (o : Option State) (r : Reading) → Keeps (is_stream r.state) o → is_stream (moved_or_refused o r).state ≡ is_stream r.state
moved_keeps None r h = refl
moved_keeps (Some s) r h = h

step_keeps : (b : ℕ) (r : Reading) → is_stream (step b r).state ≡ is_stream r.state
unfolding step
step_keeps b r =
    cond_both (has_stopped r) r _ (λ (x : Reading). is_stream x.state ≡ is_stream r.state) (λ e. refl)
    (λ e. cond_both (is_full r) (refused_by (TooLong r.limit) r) _ (λ (x : Reading). is_stream x.state ≡ is_stream r.state) (λ f. refl) (λ f. moved_keeps (after r.state b) r (keeps r.state b)))

pub all_keep : (bs : List ℕ) (r : Reading) → is_stream (after_all bs r).state ≡ is_stream r.state
unfolding after_all
all_keep [] r = refl
all_keep (b ∷ bs) r = all_keep bs (step b r) ∙ step_keeps b r

-- the count is that of the content
moved_counts : (o : Option State) (b : ℕ) (r : Reading) (t : Bool) → is_content r.state ≡ t → (t ≡ true → (s : State) × (o ≡ Some s))
    → (moved_or_refused o r).given ≡ r.given + length (cond t (b ∷ []) [])
moved_counts None b r true e some = let h = some refl in cc
moved_counts None b r false e some = sym (add-zero r.given)
moved_counts (Some s) b r true e some = rw e refl
moved_counts (Some s) b r false e some = rw e refl

content_moves : (s : State) (b : ℕ) → is_content s ≡ true → (s' : State) × (after s b ≡ Some s')
unfolding after
content_moves (Left zero) b h = cc
content_moves (Left (suc n)) b h = (Left n, refl)
content_moves Stream b h = (Stream, refl)
content_moves (Size digits size) b h = cc
content_moves (Extension size line) b h = cc
content_moves (SizeReturn n) b h = cc
content_moves (Data zero) b h = cc
content_moves (Data (suc n)) b h = (Data n, refl)
content_moves DataReturn b h = cc
content_moves (Trailer n) b h = cc
content_moves (Field n) b h = cc
content_moves (FieldReturn n) b h = cc
content_moves LastReturn b h = cc

step_counts : (b : ℕ) (r : Reading) → (step b r).given ≡ r.given + length (given_of b r)
unfolding step given_of
step_counts b r = by_stop (has_stopped r) refl
  where
    by_full : (t : Bool) → has_stopped r ≡ false → is_full r ≡ t → (step b r).given ≡ r.given + length (given_of b r)
    by_full true e f = rw (e, f) (sym (add-zero r.given))
    by_full false e f = rw (e, f) (moved_counts (after r.state b) b r (is_content r.state) refl (content_moves r.state b))

    by_stop : (t : Bool) → has_stopped r ≡ t → (step b r).given ≡ r.given + length (given_of b r)
    by_stop true e = rw e (sym (add-zero r.given))
    by_stop false e = by_full (is_full r) e refl

pub all_count : (bs : List ℕ) (r : Reading) → (after_all bs r).given ≡ r.given + length (content_from bs r)
unfolding after_all content_from
all_count [] r = sym (add-zero r.given)
all_count (b ∷ bs) r = omega (arith, all_count bs (step b r), step_counts b r, length-append (given_of b r) (content_from bs (step b r)))

pub counts : (plan : BodyPlan) (limit : ℕ) (text : List ℕ) → (reading_of plan limit text).given ≡ length (content_of plan limit text)
unfolding reading_of content_of
counts plan limit text = omega (arith, all_count text (opening plan limit))

first_stream : (plan : BodyPlan) → is_stream (first_state plan) ≡ true → plan ≡ ToClose
first_stream NoBody h = cc
first_stream (Length n) h = cc
first_stream Chunked h = cc
first_stream ToClose h = refl

pub stream_is : (s : State) → is_stream s ≡ true → s ≡ Stream
stream_is (Left n) h = cc
stream_is Stream h = refl
stream_is (Size digits size) h = cc
stream_is (Extension size line) h = cc
stream_is (SizeReturn n) h = cc
stream_is (Data n) h = cc
stream_is DataReturn h = cc
stream_is (Trailer n) h = cc
stream_is (Field n) h = cc
stream_is (FieldReturn n) h = cc
stream_is LastReturn h = cc

-- content up to the close is waited for exactly where the plan is so
module _ (plan : BodyPlan) (limit : ℕ) (text : List ℕ) where
  pub is_to_close : (reading_of plan limit text).state ≡ Stream → plan ≡ ToClose
  unfolding reading_of
  is_to_close h = first_stream plan (sym (all_keep text (opening plan limit)) ∙ ap is_stream h)

  pub is_waiting : plan ≡ ToClose → (reading_of plan limit text).state ≡ Stream
  unfolding reading_of
  is_waiting h = stream_is (reading_of plan limit text).state (all_keep text (opening plan limit) ∙ ap (λ (p : BodyPlan). is_stream (first_state p)) h)

  pub finished_at : (r r' : Reading) (result : Result ⊤ FedFault) → r ≡ reading_of plan limit text → IsFinished r result r' → IsFinishedAt plan limit text result
  finished_at r r' (Ok done) stands finishes = record {
    accepted = ap (λ (x : Reading). x.refused) (sym stands) ∙ finishes.accepted;
    whole = elim finishes.whole [ inl e ↦ inl (ap (λ (x : Reading). is_end x.state) (sym stands) ∙ e) | inr e ↦ inr (is_to_close (ap (λ (x : Reading). x.state) (sym stands) ∙ e)) ];
  }
  finished_at r r' (Err fault) stands cuts =
      let same : fault ≡ refusal (reading_of plan limit text).refused (reading_of plan limit text).given = cuts.fault_is ∙ ap (λ (x : Reading). refusal x.refused x.given) stands in
      record {
        fault_is = same ∙ ap (refusal (fault_of plan limit text)) (counts plan limit text);
        not_whole = λ none.
            let h = cuts.not_whole (ap (λ (x : Reading). x.refused) stands ∙ none) in
            (ap (λ (x : Reading). is_end x.state) (sym stands) ∙ h.0, λ e. h.1 (ap (λ (x : Reading). x.state) stands ∙ is_waiting e));
      }

-- a reading that was refused answers that again
pub finished_again : (r r' : Reading) (result : Result ⊤ FedFault) (fault : FedFault) → IsFinished r result r' → r.refused ≡ Some fault → (result ≡ Err fault) × (r' ≡ r)
finished_again r r' (Ok done) fault finishes told = let none = finishes.accepted in absurd (cc)
finished_again r r' (Err other) fault cuts told =
    let same : other ≡ fault = cuts.fault_is ∙ ap (λ (o : Option FedFault). refusal o r.given) told in (
      ap (λ (f : FedFault). Err f) same,
      cuts.reading ∙ ap (λ (o : Option FedFault). record { state = r.state; refused = o; limit = r.limit; place = r.place; given = r.given }) (ap (λ (f : FedFault). Some f) same ∙ sym told),
    )
