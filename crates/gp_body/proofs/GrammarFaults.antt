-- Where a reading of a text is refused, and the grammar.
use Rattle.std.proofs.Common.{◌≡◌, ℕ, suc, ◌+◌, ◌-◌, ◌^◌, ◌<◌, ◌≤◌, min, Bool, true, false, cond, eqb, ◌&&◌, ◌≢◌, List, [], ◌∷◌, ◌++◌, length, take, get_or, Option, Some, None, refl, sym, ap, ◌∙◌, subst, arith, append_assoc}
use Rattle.std.proofs.lemmas.Bool.{cond_both, eqb-false}
use Rattle.gp_body.specs.declared.plan.BodyPlan.{BodyPlan}
use Rattle.gp_body.specs.declared.state.State.{State}
use Rattle.gp_body.specs.declared.fed.FedFault.{FedFault}
use Rattle.gp_body.specs.declared.fed.FedFault.TheVariants.{Chunk, TooLong, Cut}
use Rattle.gp_body.specs.declared.reading.Reading.{Reading}
use Rattle.gp_body.specs.Steps.{is_end, is_content, after}
use Rattle.gp_body.specs.Readings.{has_stopped, is_full, refused_by, moved, moved_or_refused, step, given_of, after_all, content_from}
use Rattle.gp_body.specs.Wholes.{opening, reading_of, content_of}
use Rattle.gp_body.proofs.EndLemmas.{counts}
use Rattle.gp_body.proofs.ReadingLemmas.{stays}
use Rattle.gp_body.proofs.WholeLemmas.{stopped_by_end}
use Rattle.gp_body.proofs.GrammarComplete.{Ends, content_byte}
use Rattle.gp_body.proofs.GrammarRest.{Fits}
use Rattle.gp_body.proofs.GrammarOpen.{after_fits}
use Rattle.gp_body.proofs.GrammarReads.{Stepped, full, bad, on, stepped, same_state}

-- why a byte is refused
abbrev pub IsCause : Reading → ℕ → FedFault → Type 0
IsCause r b (Chunk p) = (after r.state b ≡ None) × (p ≡ r.place)
IsCause r b (TooLong n) = (is_content r.state ≡ true) × (r.given ≡ r.limit) × (n ≡ r.limit)
IsCause r b (Cut n) = ⊥

pub record RefusedAt (t : List ℕ) (r : Reading) (fault : FedFault) : Type 0 where
  pub place : ℕ
  pub inside : place < length t
  pub accepted : (after_all (take place t) r).refused ≡ None
  pub alive : is_end (after_all (take place t) r).state ≡ false
  pub cause : IsCause (after_all (take place t) r) (get_or t place 0) fault

same_fault : (f g : FedFault) (o : Option FedFault) → o ≡ Some f → o ≡ Some g → f ≡ g
same_fault f g o e h = cc

refused_end : (bs : List ℕ) (r : Reading) (fault : FedFault) → r.refused ≡ Some fault → (after_all bs r).refused ≡ Some fault
refused_end bs r fault told = ap (λ (x : Reading). x.refused) (stays bs r (rw told refl)) ∙ told

pub refused_at : (t : List ℕ) (r : Reading) (fault : FedFault) → r.refused ≡ None → (after_all t r).refused ≡ Some fault → RefusedAt t r fault
unfolding after_all
refused_at [] r fault none told = absurd (cc)
refused_at (b ∷ bs) r fault none told = by_end (is_end r.state) refl (λ still. refused_at bs (step b r) fault still told)
  where
    here : (f : FedFault) → is_end r.state ≡ false → step b r ≡ refused_by f r → IsCause r b f → RefusedAt (b ∷ bs) r fault
    here f alive is cause =
        let same : f ≡ fault = same_fault f fault _ (refused_end bs (step b r) f (ap (λ (x : Reading). x.refused) is)) told in
        record { place = 0; inside = omega arith; accepted = none; alive = alive; cause = subst (λ (x : FedFault). IsCause r b x) same cause }

    by_step : is_end r.state ≡ false → Stepped b r → ((step b r).refused ≡ None → RefusedAt bs (step b r) fault) → RefusedAt (b ∷ bs) r fault
    by_step alive (full content met is gives) ih = here (TooLong r.limit) alive is (content, met, refl)
    by_step alive (bad next is) ih = here (Chunk r.place) alive is (next, refl)
    by_step alive (on s next is gives) ih =
        let at = ih (ap (λ (x : Reading). x.refused) is ∙ none) in
        record { place = suc at.place; inside = omega (arith, at.inside); accepted = at.accepted; alive = at.alive; cause = at.cause }

    by_end : (e : Bool) → is_end r.state ≡ e → ((step b r).refused ≡ None → RefusedAt bs (step b r) fault) → RefusedAt (b ∷ bs) r fault
    by_end true end ih =
        let same : after_all (b ∷ bs) r ≡ r = stays (b ∷ bs) r (stopped_by_end r end) in
        let none_told : (after_all bs (step b r)).refused ≡ None = ap (λ (x : Reading). x.refused) same ∙ none in
        absurd (cc)
    by_end false alive ih = by_step alive (stepped b r none alive) ih

-- a reading that goes on behind a text went on before it
pub data Went (b : ℕ) (bs : List ℕ) (r : Reading) : Type 0 where
  went : (s : State) → after r.state b ≡ Some s → step b r ≡ moved s 1 (cond (is_content r.state) 1 0) r → given_of b r ≡ content_byte r.state b → (step b r).refused ≡ None → Went b bs r

pub has_gone : (b : ℕ) (bs : List ℕ) (r : Reading) → r.refused ≡ None → (after_all bs (step b r)).refused ≡ None → is_end (after_all bs (step b r)).state ≡ false → Went b bs r
unfolding after_all
has_gone b bs r none accepted alive = by_end (is_end r.state) refl
  where
    by_step : Stepped b r → Went b bs r
    by_step (full content met is gives) =
        let told = refused_end bs (step b r) (TooLong r.limit) (ap (λ (x : Reading). x.refused) is) in absurd (cc)
    by_step (bad next is) =
        let told = refused_end bs (step b r) (Chunk r.place) (ap (λ (x : Reading). x.refused) is) in absurd (cc)
    by_step (on s next is gives) = went s next is gives (ap (λ (x : Reading). x.refused) is ∙ none)

    by_end : (e : Bool) → is_end r.state ≡ e → Went b bs r
    by_end true end =
        let same : after_all (b ∷ bs) r ≡ r = stays (b ∷ bs) r (stopped_by_end r end) in
        let ended : is_end (after_all bs (step b r)).state ≡ true = ap (λ (x : Reading). is_end x.state) same ∙ end in
        absurd (cc)
    by_end false e = by_step (stepped b r none e)

-- the place is the count of the bytes
pub place_is : (t : List ℕ) (r : Reading) → r.refused ≡ None → (after_all t r).refused ≡ None → is_end (after_all t r).state ≡ false → r.place ≤ 2 ^ 64 - 1
    → (after_all t r).place ≡ min (r.place + length t) (2 ^ 64 - 1)
unfolding after_all
place_is [] r none accepted alive low = omega arith
place_is (b ∷ bs) r none accepted alive low = by_went (has_gone b bs r none accepted alive) (λ still few. place_is bs (step b r) still accepted alive few)
  where
    by_went : Went b bs r → ((step b r).refused ≡ None → (step b r).place ≤ 2 ^ 64 - 1 → (after_all bs (step b r)).place ≡ min ((step b r).place + length bs) (2 ^ 64 - 1))
        → (after_all bs (step b r)).place ≡ min (r.place + length (b ∷ bs)) (2 ^ 64 - 1)
    by_went (went s next is gives still) ih =
        let here : (step b r).place ≡ min (r.place + 1) (2 ^ 64 - 1) = ap (λ (x : Reading). x.place) is in
        omega (arith, ih still (omega (arith, here)), here)

-- a body that the text begins goes on from where the text was read to
pub record Splits (r : Reading) (t rest c : List ℕ) : Type 0 where
  pub others : List ℕ
  pub content : c ≡ content_from t r ++ others
  pub ends : Ends (after_all t r).state others rest

pub splits : (t rest : List ℕ) (r : Reading) (c : List ℕ) → r.refused ≡ None → (after_all t r).refused ≡ None → is_end (after_all t r).state ≡ false → Ends r.state c (t ++ rest) → Splits r t rest c
unfolding after_all content_from
splits [] rest r c none accepted alive ends = record { others = c; content = refl; ends = ends }
splits (b ∷ bs) rest r c none accepted alive (s', c', goes, ends) =
    by_went (has_gone b bs r none accepted alive) (λ still on_from. splits bs rest (step b r) c' still accepted alive on_from)
  where
    by_went : Went b bs r → ((step b r).refused ≡ None → Ends (step b r).state c' (bs ++ rest) → Splits (step b r) bs rest c') → Splits r (b ∷ bs) rest c
    by_went (went s next is gives still) ih =
        let here : s' ≡ (step b r).state = same_state s' s (after r.state b) goes.next next ∙ sym (ap (λ (x : Reading). x.state) is) in
        let at = ih still (subst (λ (x : State). Ends x c' (bs ++ rest)) here ends) in
        record {
          others = at.others;
          content = goes.content ∙ ap (λ (x : List ℕ). content_byte r.state b ++ x) at.content ∙ sym (append_assoc (content_byte r.state b) (content_from bs (step b r)) at.others)
              ∙ ap (λ (x : List ℕ). (x ++ content_from bs (step b r)) ++ at.others) (sym gives);
          ends = at.ends;
        }

-- the bounds of lines and the limit are kept
moved_fits : (o : Option State) (b : ℕ) (r : Reading) → after r.state b ≡ o → Fits r.state → Fits (moved_or_refused o r).state
moved_fits None b r next fits = fits
moved_fits (Some s) b r next fits = after_fits r.state s b fits next

step_fits : (b : ℕ) (r : Reading) → Fits r.state → Fits (step b r).state
unfolding step
step_fits b r fits =
    cond_both (has_stopped r) r _ (λ (x : Reading). Fits x.state) (λ e. fits)
    (λ e. cond_both (is_full r) (refused_by (TooLong r.limit) r) _ (λ (x : Reading). Fits x.state) (λ f. fits) (λ f. moved_fits (after r.state b) b r refl fits))

pub all_fit : (t : List ℕ) (r : Reading) → Fits r.state → Fits (after_all t r).state
unfolding after_all
all_fit [] r fits = fits
all_fit (b ∷ bs) r fits = all_fit bs (step b r) (step_fits b r fits)

moved_limit : (o : Option State) (r : Reading) → (moved_or_refused o r).limit ≡ r.limit
moved_limit None r = refl
moved_limit (Some s) r = refl

step_limit : (b : ℕ) (r : Reading) → (step b r).limit ≡ r.limit
unfolding step
step_limit b r =
    cond_both (has_stopped r) r _ (λ (x : Reading). x.limit ≡ r.limit) (λ e. refl)
    (λ e. cond_both (is_full r) (refused_by (TooLong r.limit) r) _ (λ (x : Reading). x.limit ≡ r.limit) (λ f. refl) (λ f. moved_limit (after r.state b) r))

pub limit_is : (t : List ℕ) (r : Reading) → (after_all t r).limit ≡ r.limit
unfolding after_all
limit_is [] r = refl
limit_is (b ∷ bs) r = limit_is bs (step b r) ∙ step_limit b r

-- the count stays within the limit
content_within : (given limit : ℕ) (t : Bool) → given ≤ limit → t && eqb given limit ≡ false → given + cond t 1 0 ≤ limit
content_within given limit false within room = omega arith
content_within given limit true within room = let less : given ≢ limit = eqb-false given limit room in omega arith

moved_within : (o : Option State) (r : Reading) → r.given ≤ r.limit → is_full r ≡ false → (moved_or_refused o r).given ≤ (moved_or_refused o r).limit
moved_within None r within room = within
moved_within (Some s) r within room = content_within r.given r.limit (is_content r.state) within room

step_within : (b : ℕ) (r : Reading) → r.given ≤ r.limit → (step b r).given ≤ (step b r).limit
unfolding step
step_within b r within =
    cond_both (has_stopped r) r _ (λ (x : Reading). x.given ≤ x.limit) (λ e. within)
    (λ e. cond_both (is_full r) (refused_by (TooLong r.limit) r) _ (λ (x : Reading). x.given ≤ x.limit) (λ f. within) (λ f. moved_within (after r.state b) r within f))

all_within : (t : List ℕ) (r : Reading) → r.given ≤ r.limit → (after_all t r).given ≤ (after_all t r).limit
unfolding after_all
all_within [] r within = within
all_within (b ∷ bs) r within = all_within bs (step b r) (step_within b r within)

pub within_limit : (plan : BodyPlan) (limit : ℕ) (text : List ℕ) → length (content_of plan limit text) ≤ limit
unfolding reading_of content_of
within_limit plan limit text = omega (arith, counts plan limit text, all_within text (opening plan limit) (omega arith), limit_is text (opening plan limit))
