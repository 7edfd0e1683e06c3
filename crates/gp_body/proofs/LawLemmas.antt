-- The law of bodies, part by part.
use Rattle.std.proofs.Common.{◌≡◌, ℕ, zero, suc, ◌+◌, ◌<◌, ◌≤◌, Bool, true, false, ltb, List, [], ◌∷◌, ◌++◌, length, take, drop, get_or, Some, None, ◌⊎◌, inl, inr, refl, sym, ap, ◌∙◌, subst, arith, append_assoc, append-nil, length-append, length-take, length-drop, take-append-drop}
use Rattle.std.proofs.lemmas.Bool.{ltb-true, lt-ltb}
use Rattle.std.proofs.Math.Seq.{take-append_seam}
use Rattle.std.proofs.lemmas.List.{take_more}
use Rattle.gp_body.specs.declared.plan.BodyPlan.{BodyPlan}
use Rattle.gp_body.specs.declared.plan.BodyPlan.TheVariants.{None as NoBody, Length, Chunked, ToClose}
use Rattle.gp_body.specs.declared.state.State.{State}
use Rattle.gp_body.specs.declared.state.State.TheVariants.{Left, Stream}
use Rattle.gp_body.specs.declared.fed.FedFault.TheVariants.{Chunk, TooLong}
use Rattle.gp_body.specs.declared.reading.Reading.{Reading}
use Rattle.gp_body.specs.Steps.{first_state, is_end, is_content, after}
use Rattle.gp_body.specs.Readings.{after_all, content_from}
use Rattle.gp_body.specs.Wholes.{opening, first_refusal, reading_of, content_of, is_ended, fault_of}
use Rattle.gp_body.specs.Bodies.{Spells}
use Rattle.gp_body.specs.Laws.{IsFramed, HasBody, Begins, Settles, StopsAt, IsOver, IsWhole, IsPlannedOver}
use Rattle.gp_body.proofs.ReadingLemmas.{stays, after_all-append, content-append}
use Rattle.gp_body.proofs.RunLemmas.{run_all, run_gives, too_long}
use Rattle.gp_body.proofs.EndLemmas.{is_stream, all_keep, counts, is_waiting}
use Rattle.gp_body.proofs.GrammarComplete.{Ends, complete}
use Rattle.gp_body.proofs.GrammarRest.{Fits}
use Rattle.gp_body.proofs.GrammarSound.{exactly, spells_chunks}
use Rattle.gp_body.proofs.GrammarOpen.{filled, can_end, ends_left}
use Rattle.gp_body.proofs.GrammarReads.{joins_end, has_ended, is_whole}
use Rattle.gp_body.proofs.GrammarFaults.{refused_at, place_is, Splits, splits, all_fit, limit_is, within_limit}

no_bytes : (t : List ℕ) → length t ≡ 0 → t ≡ []
no_bytes [] e = refl
no_bytes (x ∷ xs) e = absurd (omega arith)

-- the bodies of a plan are the texts that are read to the end
ends_of : (plan : BodyPlan) (c t : List ℕ) → IsFramed plan → Spells plan c t → Ends (first_state plan) c t
ends_of NoBody c t framed spells = rw (spells.0, spells.1) (refl, refl)
ends_of (Length n) c t framed spells = rw spells.0 (subst (λ (k : ℕ). Ends (Left k) t t) spells.1 (ends_left t))
ends_of Chunked c t framed spells = complete c t spells
ends_of ToClose c t framed spells = absurd framed

spells_of : (plan : BodyPlan) (c t : List ℕ) → IsFramed plan → Ends (first_state plan) c t → Spells plan c t
spells_of NoBody c t framed ends = let at = exactly 0 c t ends in let none = no_bytes t at.1 in (at.0 ∙ none, none)
spells_of (Length n) c t framed ends = exactly n c t ends
spells_of Chunked c t framed ends = spells_chunks c t ends
spells_of ToClose c t framed ends = absurd framed

first_fits : (plan : BodyPlan) → Fits (first_state plan)
first_fits NoBody = tt
first_fits (Length n) = tt
first_fits Chunked = omega arith
first_fits ToClose = tt

first_frames : (plan : BodyPlan) → IsFramed plan → is_stream (first_state plan) ≡ false
first_frames NoBody framed = refl
first_frames (Length n) framed = refl
first_frames Chunked framed = refl
first_frames ToClose framed = absurd framed

-- at first a body is refused only for its planned length
opens : (plan : BodyPlan) (limit : ℕ) → (first_refusal plan limit ≡ None) ⊎ (IsPlannedOver plan limit × (first_refusal plan limit ≡ Some (TooLong limit)) × (is_end (first_state plan) ≡ false))
opens NoBody limit = inl refl
opens Chunked limit = inl refl
opens ToClose limit = inl refl
opens (Length n) limit = by_test (ltb limit n) refl
  where
    some : (k : ℕ) → limit < k → is_end (Left k) ≡ false
    some zero above = absurd (omega arith)
    some (suc k) above = refl

    by_test : (t : Bool) → ltb limit n ≡ t → (first_refusal (Length n) limit ≡ None) ⊎ (IsPlannedOver (Length n) limit × (first_refusal (Length n) limit ≡ Some (TooLong limit)) × (is_end (Left n) ≡ false))
    by_test true e = inr (record { planned = n; plan_is = refl; above = ltb-true limit n e }, rw e refl, some n (ltb-true limit n e))
    by_test false e = inl (rw e refl)

spells_within : (plan : BodyPlan) (limit : ℕ) (c t : List ℕ) → Spells plan c t → length c ≤ limit → IsPlannedOver plan limit → ⊥
spells_within plan limit c t spells few over =
    let at : Spells (Length over.planned) c t = subst (λ (p : BodyPlan). Spells p c t) over.plan_is spells in
    omega (arith, ap length at.0, at.1, few, over.above)

ended_frames : (plan : BodyPlan) (limit : ℕ) (text : List ℕ) → is_ended plan limit text ≡ true → IsFramed plan
ended_frames NoBody limit text end = tt
ended_frames (Length n) limit text end = tt
ended_frames Chunked limit text end = tt
ended_frames ToClose limit text end =
    let waits : is_ended ToClose limit text ≡ false = ap is_end (is_waiting ToClose limit text refl) in absurd (cc)

tail_of : List ℕ → List ℕ
tail_of [] = []
tail_of (x ∷ xs) = xs

-- a text that stands in front of both fillings is no longer than what stands before them
not_longer : (xs more : List ℕ) (i j : ℕ) → take (length more) (xs ++ filled 0 i) ≡ more → take (length more) (xs ++ filled 1 j) ≡ more → length more ≤ length xs
unfolding filled tail_of
not_longer [] [] i j low high = omega arith
not_longer [] (m ∷ ms) zero j low high = cc
not_longer [] (m ∷ ms) (suc i) zero low high = cc
not_longer [] (m ∷ ms) (suc i) (suc j) low high = cc
not_longer (x ∷ xs) [] i j low high = omega arith
not_longer (x ∷ xs) (m ∷ ms) i j low high = omega (arith, not_longer xs ms i j (ap tail_of low) (ap tail_of high))

module _ (plan : BodyPlan) (limit : ℕ) where
  pub ended_law : (text : List ℕ) → is_ended plan limit text ≡ true → HasBody plan (content_of plan limit text) text
  unfolding reading_of content_of
  ended_law text end = elim (opens plan limit) [
    | inl none ↦
        let at = has_ended text (opening plan limit) none end in
        record { body = at.body; behind = at.more; text_is = at.text; spells = spells_of plan (content_from text (opening plan limit)) at.body (ended_frames plan limit text end) at.ends }
    | inr over ↦
        let same : after_all text (opening plan limit) ≡ opening plan limit = stays text (opening plan limit) (rw over.1 refl) in
        let none : is_end (after_all text (opening plan limit)).state ≡ false = ap (λ (x : Reading). is_end x.state) same ∙ over.2 in
        absurd (cc)
  ]

  pub whole_law : (content body behind : List ℕ) → IsFramed plan → Spells plan content body → length content ≤ limit → IsWhole plan limit (body ++ behind) content
  unfolding reading_of content_of
  whole_law content body behind framed spells few = elim (opens plan limit) [
    | inl none ↦
        let at = is_whole body behind (opening plan limit) content none (ends_of plan content body framed spells) (omega arith) in
        record { ended = at.ended; content_is = at.content; accepted = at.accepted }
    | inr over ↦ absurd (spells_within plan limit content body spells few over.0)
  ]

  -- from where an accepted text was read to, a body can go on to its end, with this byte for all content that is left
  goes_to_end : (fill : ℕ) (text : List ℕ) → IsFramed plan → first_refusal plan limit ≡ None → (after_all text (opening plan limit)).refused ≡ None → is_end (after_all text (opening plan limit)).state ≡ false
      → (k : ℕ) × ((behind : List ℕ) × Spells plan (content_from text (opening plan limit) ++ filled fill k) (text ++ behind))
  goes_to_end fill text framed none accepted alive =
      let now = after_all text (opening plan limit) in
      let frames : is_stream now.state ≡ false = all_keep text (opening plan limit) ∙ first_frames plan framed in
      let at = can_end fill now.state (all_fit text (opening plan limit) (first_fits plan)) frames in
      let ends = joins_end text (opening plan limit) (filled fill at.count) at.text none accepted alive at.ends in
      (at.count, (at.text, spells_of plan (content_from text (opening plan limit) ++ filled fill at.count) (text ++ at.text) framed ends))

  begins : (text : List ℕ) → IsFramed plan → first_refusal plan limit ≡ None → (after_all text (opening plan limit)).refused ≡ None → is_end (after_all text (opening plan limit)).state ≡ false
      → Begins plan (content_from text (opening plan limit)) text
  begins text framed none accepted alive =
      let at = goes_to_end 0 text framed none accepted alive in
      record { rest = filled 0 at.0; behind = at.1.0; spells = at.1.1 }

  settles : (text : List ℕ) → IsFramed plan → first_refusal plan limit ≡ None → (after_all text (opening plan limit)).refused ≡ None → is_end (after_all text (opening plan limit)).state ≡ false
      → Settles plan (content_from text (opening plan limit)) text
  settles text framed none accepted alive =
      let content = content_from text (opening plan limit) in
      record {
        begins = begins text framed none accepted alive;
        each = λ whole behind spells.
            let at = splits text behind (opening plan limit) whole none accepted alive (ends_of plan whole (text ++ behind) framed spells) in
            ap (take (length content)) at.content ∙ take-append_seam content at.others;
        longest = λ more is.
            let low = goes_to_end 0 text framed none accepted alive in
            let high = goes_to_end 1 text framed none accepted alive in
            not_longer content more low.0 high.0 (is _ low.1.0 low.1.1) (is _ high.1.0 high.1.1);
      }

  -- nothing stands behind a body that ends with the text's last byte and not before
  pub exact_law : (text : List ℕ) → is_ended plan limit text ≡ true → ((n : ℕ) → n < length text → is_ended plan limit (take n text) ≡ false) → Spells plan (content_of plan limit text) text
  exact_law text end waits =
      let at = ended_law text end in
      let framed = ended_frames plan limit text end in
      let few : length (content_of plan limit text) ≤ limit = within_limit plan limit text in
      let whole = whole_law (content_of plan limit text) at.body [] framed at.spells few in
      let all : at.body ++ [] ≡ at.body = append-nil at.body in
      let ended : is_ended plan limit at.body ≡ true = rw all at whole.ended in
      let front : take (length at.body) text ≡ at.body = ap (take (length at.body)) at.text_is ∙ take-append_seam at.body at.behind in
      by_rest text at.body at.behind at.text_is (λ less. let open_still : is_ended plan limit (take (length at.body) text) ≡ false = waits (length at.body) less in absurd_end (is_ended plan limit at.body) ended (ap (is_ended plan limit) (sym front) ∙ open_still)) at.spells
    where
      absurd_end : (b : Bool) → b ≡ true → b ≡ false → ⊥
      absurd_end b t f = cc

      by_rest : (t body behind : List ℕ) → t ≡ body ++ behind → (length body < length t → ⊥) → Spells plan (content_of plan limit text) body → Spells plan (content_of plan limit text) t
      by_rest t body [] is none spells = let same : body ≡ t = sym (append-nil body) ∙ sym is in subst (λ (x : List ℕ). Spells plan (content_of plan limit text) x) same spells
      by_rest t body (x ∷ xs) is none spells = absurd (none (omega (arith, ap length is, length-append body (x ∷ xs))))

  pub goes_on_law : (text : List ℕ) → IsFramed plan → fault_of plan limit text ≡ None → is_ended plan limit text ≡ false → Settles plan (content_of plan limit text) text
  unfolding reading_of content_of
  goes_on_law text framed accepted alive = elim (opens plan limit) [
    | inl none ↦ settles text framed none accepted alive
    | inr over ↦
        let told : (after_all text (opening plan limit)).refused ≡ Some (TooLong limit) = ap (λ (x : Reading). x.refused) (stays text (opening plan limit) (rw over.1 refl)) ∙ over.1 in
        absurd (cc)
  ]

  -- where a body that begins with the text up to a byte goes on from
  from_byte : (text behind c : List ℕ) (place : ℕ) → IsFramed plan → first_refusal plan limit ≡ None → place < length text
      → (after_all (take place text) (opening plan limit)).refused ≡ None → is_end (after_all (take place text) (opening plan limit)).state ≡ false
      → Spells plan c (take (place + 1) text ++ behind) → Splits (opening plan limit) (take place text) (get_or text place 0 ∷ behind) c
  from_byte text behind c place framed none inside accepted alive spells =
      let whole : take (place + 1) text ++ behind ≡ take place text ++ get_or text place 0 ∷ behind =
      ap (λ (x : List ℕ). x ++ behind) (take_more text place 0 inside) ∙ append_assoc (take place text) (get_or text place 0 ∷ []) behind in
      let ends : Ends (first_state plan) c (take place text ++ get_or text place 0 ∷ behind) = rw whole at (ends_of plan c (take (place + 1) text ++ behind) framed spells) in
      splits (take place text) (get_or text place 0 ∷ behind) (opening plan limit) c none accepted alive ends

  pub chunk_law : (text : List ℕ) (told : ℕ) → IsFramed plan → fault_of plan limit text ≡ Some (Chunk told) → StopsAt plan text told
  unfolding reading_of
  chunk_law text told framed fault = elim (opens plan limit) [
    | inl none ↦
        let at = refused_at text (opening plan limit) (Chunk told) none fault in
        let count : length (take at.place text) ≡ at.place = length-take at.place text ∙ omega (arith, at.inside) in
        let place = place_is (take at.place text) (opening plan limit) none at.accepted at.alive (omega arith) in
        let start = begins (take at.place text) framed none at.accepted at.alive in
        record {
          place = at.place;
          inside = at.inside;
          told_is = at.cause.1 ∙ place ∙ omega (arith, count);
          before = record { content = content_from (take at.place text) (opening plan limit) ++ start.rest; behind = start.behind; spells = start.spells };
          here = λ can.
              let on_from = from_byte text can.behind can.content at.place framed none at.inside at.accepted at.alive can.spells in
              no_next (after_all (take at.place text) (opening plan limit)).state (get_or text at.place 0) on_from.others can.behind at.cause.0 on_from.ends;
        }
    | inr over ↦
        let too : (after_all text (opening plan limit)).refused ≡ Some (TooLong limit) = ap (λ (x : Reading). x.refused) (stays text (opening plan limit) (rw over.1 refl)) ∙ over.1 in
        absurd (cc)
  ]
    where
      no_next : (s : State) (b : ℕ) (c bs : List ℕ) → after s b ≡ None → Ends s c (b ∷ bs) → ⊥
      no_next s b c bs none (s', c', goes, ends) = let next = goes.next in cc

  pub too_long_law : (text : List ℕ) (told : ℕ) → IsFramed plan → fault_of plan limit text ≡ Some (TooLong told) → (told ≡ limit) × (IsPlannedOver plan limit ⊎ IsOver plan limit text)
  unfolding reading_of content_of
  too_long_law text told framed fault = elim (opens plan limit) [
    | inl none ↦
        let at = refused_at text (opening plan limit) (TooLong told) none fault in
        let now = after_all (take at.place text) (opening plan limit) in
        let limits : now.limit ≡ limit = limit_is (take at.place text) (opening plan limit) in
        let given : now.given ≡ length (content_from (take at.place text) (opening plan limit)) = counts plan limit (take at.place text) in
        let met : length (content_from (take at.place text) (opening plan limit)) ≡ limit = sym given ∙ at.cause.1 ∙ limits in (
          at.cause.2 ∙ limits,
          inr (record {
            place = at.place;
            inside = at.inside;
            before = met;
            here = λ c behind spells.
                let on_from = from_byte text behind c at.place framed none at.inside at.accepted at.alive spells in
                let some = has_byte now.state (get_or text at.place 0) on_from.others behind at.cause.0 on_from.ends in
                omega (arith, ap length on_from.content, length-append (content_from (take at.place text) (opening plan limit)) on_from.others, some, met);
          }),
        )
    | inr over ↦
        let too : (after_all text (opening plan limit)).refused ≡ Some (TooLong limit) = ap (λ (x : Reading). x.refused) (stays text (opening plan limit) (rw over.1 refl)) ∙ over.1 in
        ((cc), inl over.0)
  ]
    where
      has_byte : (s : State) (b : ℕ) (c bs : List ℕ) → is_content s ≡ true → Ends s c (b ∷ bs) → 0 < length c
      has_byte s b c bs content (s', c', goes, ends) = let one : c ≡ b ∷ c' = goes.content ∙ rw content refl in omega (arith, ap length one)

pub planned_over_law : (limit n : ℕ) (text : List ℕ) → limit < n → fault_of (Length n) limit text ≡ Some (TooLong limit)
unfolding reading_of
planned_over_law limit n text above =
    let told : first_refusal (Length n) limit ≡ Some (TooLong limit) = rw (lt-ltb limit n above) refl in
    ap (λ (x : Reading). x.refused) (stays text (opening (Length n) limit) (rw told refl)) ∙ told

pub to_close_law : (limit : ℕ) (text : List ℕ) → length text ≤ limit → (fault_of ToClose limit text ≡ None) × (content_of ToClose limit text ≡ text)
unfolding reading_of content_of
to_close_law limit text few =
    (ap (λ (x : Reading). x.refused) (run_all limit text Stream 0 0 refl (omega arith) (omega arith)), run_gives limit text Stream 0 0 refl (omega arith))

pub over_to_close_law : (limit : ℕ) (text : List ℕ) → limit < length text → (fault_of ToClose limit text ≡ Some (TooLong limit)) × (content_of ToClose limit text ≡ take limit text)
unfolding reading_of content_of
over_to_close_law limit text above =
    let front = take limit text in
    let back = drop limit text in
    let r = opening ToClose limit in
    let count : length front ≡ limit = length-take limit text ∙ omega arith in
    let whole : front ++ back ≡ text = take-append-drop limit text in
    let reads = run_all limit front Stream 0 0 refl (omega (arith, count)) (omega arith) in
    let met : limit ≡ (after_all front r).given = sym (ap (λ (x : Reading). x.given) reads ∙ omega (arith, count)) in
    let waits : (after_all front r).state ≡ Stream = ap (λ (x : Reading). x.state) reads in
    let limits : (after_all front r).limit ≡ limit = limit_is front r in
    let accepted : (after_all front r).refused ≡ None = ap (λ (x : Reading). x.refused) reads in
    let refuses = too_long back (after_all front r) (rw waits (omega (arith, length-drop limit text))) (limits ∙ met) accepted in
    let read : after_all (front ++ back) r ≡ after_all back (after_all front r) = after_all-append front back r in
    let told : (after_all (front ++ back) r).refused ≡ Some (TooLong limit) =
    ap (λ (x : Reading). x.refused) (read ∙ sym refuses.reading) ∙ ap (λ (n : ℕ). Some (TooLong n)) limits in
    let gives : content_from (front ++ back) r ≡ front =
    content-append front back r ∙ rw (refuses.no_content, append-nil (content_from front r)) (run_gives limit front Stream 0 0 refl (omega (arith, count))) in
    (rw whole at told, rw whole at gives)
