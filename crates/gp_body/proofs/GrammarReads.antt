-- A reading of a text, and the grammar.
use Rattle.std.proofs.Common.{◌≡◌, ℕ, zero, suc, ◌+◌, ◌≤◌, Bool, true, false, cond, eqb, List, [], ◌∷◌, ◌++◌, length, Option, Some, None, eqb-true, refl, sym, ap, ◌∙◌, subst, arith, append_assoc, length-append}
use Rattle.gp_body.specs.declared.state.State.{State}
use Rattle.gp_body.specs.declared.state.State.TheVariants.{Left, Stream, Size, Extension, SizeReturn, Data, DataReturn, Trailer, Field, FieldReturn, LastReturn}
use Rattle.gp_body.specs.declared.fed.FedFault.{FedFault}
use Rattle.gp_body.specs.declared.fed.FedFault.TheVariants.{Chunk, TooLong}
use Rattle.gp_body.specs.declared.reading.Reading.{Reading}
use Rattle.gp_body.specs.Steps.{is_end, is_content, after}
use Rattle.gp_body.specs.Readings.{has_stopped, is_full, refused_by, moved, step, given_of, after_all, content_from}
use Rattle.gp_body.proofs.ReadingLemmas.{stays, gives_none}
use Rattle.gp_body.proofs.WholeLemmas.{stopped_by_end}
use Rattle.gp_body.proofs.GrammarComplete.{Ends, content_byte}

-- what a byte does to a reading that goes on
pub data Stepped (b : ℕ) (r : Reading) : Type 0 where
  full : is_content r.state ≡ true → r.given ≡ r.limit → step b r ≡ refused_by (TooLong r.limit) r → given_of b r ≡ [] → Stepped b r
  bad : after r.state b ≡ None → step b r ≡ refused_by (Chunk r.place) r → Stepped b r
  on : (s : State) → after r.state b ≡ Some s → step b r ≡ moved s 1 (cond (is_content r.state) 1 0) r → given_of b r ≡ content_byte r.state b → Stepped b r

goes_on : (r : Reading) → r.refused ≡ None → is_end r.state ≡ false → has_stopped r ≡ false
goes_on r none going = rw (none, going) refl

pub stepped : (b : ℕ) (r : Reading) → r.refused ≡ None → is_end r.state ≡ false → Stepped b r
unfolding step given_of
stepped b r none going = by_content (is_content r.state) refl
  where
    going_on : has_stopped r ≡ false
    going_on = goes_on r none going

    by_next : (o : Option State) → after r.state b ≡ o → is_full r ≡ false → Stepped b r
    by_next None next room = bad next (rw (going_on, room, next) refl)
    by_next (Some s) next room = on s next (rw (going_on, room, next) refl) (rw (going_on, room) refl)

    by_full : (f : Bool) → is_content r.state ≡ true → eqb r.given r.limit ≡ f → Stepped b r
    by_full true content met = full content (eqb-true r.given r.limit met) (rw (going_on, content, met) refl) (rw (going_on, content, met) refl)
    by_full false content room = by_next (after r.state b) refl (rw (content, room) refl)

    by_content : (t : Bool) → is_content r.state ≡ t → Stepped b r
    by_content true content = by_full (eqb r.given r.limit) content refl
    by_content false framing = by_next (after r.state b) refl (rw framing refl)

refused_end : (bs : List ℕ) (r : Reading) (fault : FedFault) → r.refused ≡ Some fault → (after_all bs r).refused ≡ Some fault
refused_end bs r fault told = ap (λ (x : Reading). x.refused) (stays bs r (rw told refl)) ∙ told

-- a reading that isn't refused behind a text, and hasn't ended: what goes on to the end from there goes on from the start
pub joins_end : (t : List ℕ) (r : Reading) (c' t' : List ℕ) → r.refused ≡ None → (after_all t r).refused ≡ None → is_end (after_all t r).state ≡ false
    → Ends (after_all t r).state c' t' → Ends r.state (content_from t r ++ c') (t ++ t')
unfolding after_all content_from
joins_end [] r c' t' none accepted going ends = ends
joins_end (b ∷ bs) r c' t' none accepted going ends = by_end (is_end r.state) refl (λ still. joins_end bs (step b r) c' t' still accepted going ends)
  where
    by_step : is_end r.state ≡ false → Stepped b r → ((step b r).refused ≡ None → Ends (step b r).state (content_from bs (step b r) ++ c') (bs ++ t')) → Ends r.state (content_from (b ∷ bs) r ++ c') (b ∷ (bs ++ t'))
    by_step alive (full content met is gives) ih =
        let told : (after_all bs (step b r)).refused ≡ Some (TooLong r.limit) = refused_end bs (step b r) (TooLong r.limit) (ap (λ (x : Reading). x.refused) is) in cc
    by_step alive (bad next is) ih =
        let told : (after_all bs (step b r)).refused ≡ Some (Chunk r.place) = refused_end bs (step b r) (Chunk r.place) (ap (λ (x : Reading). x.refused) is) in cc
    by_step alive (on s next is gives) ih =
        let still : (step b r).refused ≡ None = ap (λ (x : Reading). x.refused) is ∙ none in
        let here : (step b r).state ≡ s = ap (λ (x : Reading). x.state) is in
        let others : Ends (step b r).state (content_from bs (step b r) ++ c') (bs ++ t') = ih still in (
          s,
          content_from bs (step b r) ++ c',
          record { next = next; content = ap (λ (x : List ℕ). (x ++ content_from bs (step b r)) ++ c') gives ∙ append_assoc (content_byte r.state b) (content_from bs (step b r)) c' },
          subst (λ (x : State). Ends x (content_from bs (step b r) ++ c') (bs ++ t')) here others,
        )

    by_end : (e : Bool) → is_end r.state ≡ e → ((step b r).refused ≡ None → Ends (step b r).state (content_from bs (step b r) ++ c') (bs ++ t')) → Ends r.state (content_from (b ∷ bs) r ++ c') (b ∷ (bs ++ t'))
    by_end true end ih =
        let same : after_all (b ∷ bs) r ≡ r = stays (b ∷ bs) r (stopped_by_end r end) in
        let ended : is_end (after_all bs (step b r)).state ≡ true = ap (λ (x : Reading). is_end x.state) same ∙ end in
        cc
    by_end false alive ih = by_step alive (stepped b r none alive) ih

-- a body that has ended in a text is at its front
pub record Ended (s : State) (c t : List ℕ) : Type 0 where
  pub body : List ℕ
  pub more : List ℕ
  pub text : t ≡ body ++ more
  pub ends : Ends s c body

pub has_ended : (t : List ℕ) (r : Reading) → r.refused ≡ None → is_end (after_all t r).state ≡ true → Ended r.state (content_from t r) t
unfolding after_all content_from
has_ended [] r none end = record { body = []; more = []; text = refl; ends = (end, refl) }
has_ended (b ∷ bs) r none end = by_end (is_end r.state) refl (λ still. has_ended bs (step b r) still end)
  where
    refused_open : (fault : FedFault) → is_end r.state ≡ false → step b r ≡ refused_by fault r → is_end (after_all bs (step b r)).state ≡ false
    refused_open fault alive is =
        let stopped : has_stopped (step b r) ≡ true = rw is refl in
        let same : after_all bs (step b r) ≡ refused_by fault r = stays bs (step b r) stopped ∙ is in
        ap (λ (x : Reading). is_end x.state) same ∙ alive

    by_step : is_end r.state ≡ false → Stepped b r → ((step b r).refused ≡ None → Ended (step b r).state (content_from bs (step b r)) bs) → Ended r.state (content_from (b ∷ bs) r) (b ∷ bs)
    by_step alive (full content met is gives) ih = let no_end = refused_open (TooLong r.limit) alive is in cc
    by_step alive (bad next is) ih = let no_end = refused_open (Chunk r.place) alive is in cc
    by_step alive (on s next is gives) ih =
        let still : (step b r).refused ≡ None = ap (λ (x : Reading). x.refused) is ∙ none in
        let here : (step b r).state ≡ s = ap (λ (x : Reading). x.state) is in
        let others = ih still in
        record {
          body = b ∷ others.body;
          more = others.more;
          text = ap (λ (x : List ℕ). b ∷ x) others.text;
          ends = (
            s,
            content_from bs (step b r),
            record { next = next; content = ap (λ (x : List ℕ). x ++ content_from bs (step b r)) gives },
            subst (λ (x : State). Ends x (content_from bs (step b r)) others.body) here others.ends,
          );
        }

    by_end : (e : Bool) → is_end r.state ≡ e → ((step b r).refused ≡ None → Ended (step b r).state (content_from bs (step b r)) bs) → Ended r.state (content_from (b ∷ bs) r) (b ∷ bs)
    by_end true e ih = record { body = []; more = b ∷ bs; text = refl; ends = (e, gives_none (b ∷ bs) r (stopped_by_end r e)) }
    by_end false alive ih = by_step alive (stepped b r none alive) ih

-- a body within the limit is read to its end, whatever follows it
pub record Whole (r : Reading) (c t : List ℕ) : Type 0 where
  pub ended : is_end (after_all t r).state ≡ true
  pub content : content_from t r ≡ c
  pub accepted : (after_all t r).refused ≡ None

not_end : (s s' : State) (b : ℕ) → after s b ≡ Some s' → is_end s ≡ false
unfolding after
not_end (Left zero) s' b next = cc
not_end (Left (suc n)) s' b next = refl
not_end Stream s' b next = refl
not_end (Size d n) s' b next = refl
not_end (Extension n l) s' b next = refl
not_end (SizeReturn n) s' b next = refl
not_end (Data n) s' b next = refl
not_end DataReturn s' b next = refl
not_end (Trailer n) s' b next = refl
not_end (Field n) s' b next = refl
not_end (FieldReturn n) s' b next = refl
not_end LastReturn s' b next = refl

pub same_state : (s s' : State) → (o : Option State) → o ≡ Some s → o ≡ Some s' → s ≡ s'
same_state s s' o e f = cc

pub is_whole : (t more : List ℕ) (r : Reading) (c : List ℕ) → r.refused ≡ None → Ends r.state c t → r.given + length c ≤ r.limit → Whole r c (t ++ more)
unfolding after_all content_from
is_whole [] more r c none ends room =
    let stopped = stopped_by_end r ends.0 in
    record {
      ended = ap (λ (x : Reading). is_end x.state) (stays more r stopped) ∙ ends.0;
      content = gives_none more r stopped ∙ sym ends.1;
      accepted = ap (λ (x : Reading). x.refused) (stays more r stopped) ∙ none;
    }
is_whole (b ∷ bs) more r c none (s', c', goes, ends) room =
    by_step (stepped b r none (not_end r.state s' b goes.next)) (λ still on_from fits. is_whole bs more (step b r) c' still on_from fits)
  where
    by_step : Stepped b r → ((step b r).refused ≡ None → Ends (step b r).state c' bs → (step b r).given + length c' ≤ (step b r).limit → Whole (step b r) c' (bs ++ more)) → Whole r c (b ∷ (bs ++ more))
    by_step (full content met is gives) ih =
        let one : c ≡ b ∷ c' = goes.content ∙ rw content refl in
        absurd (omega (arith, ap length one, met, room))
    by_step (bad next is) ih = let o = goes.next in absurd (cc)
    by_step (on s next is gives) ih =
        let still : (step b r).refused ≡ None = ap (λ (x : Reading). x.refused) is ∙ none in
        let here : s' ≡ (step b r).state = same_state s' s (after r.state b) goes.next next ∙ sym (ap (λ (x : Reading). x.state) is) in
        let limits : (step b r).limit ≡ r.limit = ap (λ (x : Reading). x.limit) is in
        let counts : (step b r).given ≡ r.given + cond (is_content r.state) 1 0 = ap (λ (x : Reading). x.given) is in
        let lengths : length c ≡ cond (is_content r.state) 1 0 + length c' = ap length goes.content ∙ length-append (content_byte r.state b) c' ∙ ap (λ (n : ℕ). n + length c') (one (is_content r.state)) in
        let others = ih still (subst (λ (x : State). Ends x c' bs) here ends) (omega (arith, limits, counts, lengths, room)) in
        record {
          ended = others.ended;
          content = ap (λ (x : List ℕ). x ++ content_from (bs ++ more) (step b r)) gives ∙ ap (λ (x : List ℕ). content_byte r.state b ++ x) others.content ∙ sym goes.content;
          accepted = others.accepted;
        }
      where
        one : (t : Bool) → length (cond t (b ∷ []) []) ≡ cond t 1 0
        one true = refl
        one false = refl
