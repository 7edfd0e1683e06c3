-- What a feed takes, of the bytes and of the whole text.
use Rattle.std.proofs.Common.{◌∷◌, ◌≡◌, ℕ, zero, suc, ◌+◌, ◌-◌, ◌<◌, ◌≤◌, Bool, true, false, not, ◌||◌, List, [], ◌++◌, length, take, drop, Some, None, ◌⊎◌, inl, inr, refl, sym, ap, ◌∙◌, arith, append-nil, length-take, length-drop, take-append-drop, get_or, ltb, cond, eq-eqb}
use Rattle.std.specs.Prelude.{is_some, Result, Ok, Err}
use Rattle.std.proofs.Math.Seq.{take-add}
use Rattle.std.proofs.lemmas.Bool.{cond_both, ltb-true, ltb-false}
use Rattle.std.proofs.lemmas.List.{take_more, take-take}
use Rattle.gp_body.specs.declared.plan.BodyPlan.{BodyPlan}
use Rattle.gp_body.specs.declared.state.State.{State}
use Rattle.gp_body.specs.declared.fed.Fed.{Fed}
use Rattle.gp_body.specs.declared.fed.FedFault.{FedFault}
use Rattle.gp_body.specs.declared.reading.Reading.{Reading}
use Rattle.gp_body.specs.Steps.{is_end, is_content, is_framing}
use Rattle.gp_body.specs.Readings.{has_stopped, after_all, content_from, Skips, Refuses, Takes, given_of, is_full}
use Rattle.gp_body.specs.Wholes.{opening, reading_of, content_of, Feeds, IsFed, IsFedAt}
use Rattle.gp_body.proofs.ReadingLemmas.{after_all-append, content-append, content_few, stays, gives_none, not_end}

end_or_content : (e c : Bool) → not (e || c) ≡ false → e ≡ false → c ≡ true
end_or_content true c h n = cc
end_or_content false true h n = refl
end_or_content false false h n = cc

-- what isn't framing has ended or is content
pub waits : (s : State) → is_framing s ≡ false → (is_end s ≡ true) ⊎ (is_content s ≡ true)
waits s h = by_end (is_end s) refl
  where
    by_end : (e : Bool) → is_end s ≡ e → (is_end s ≡ true) ⊎ (is_content s ≡ true)
    by_end true e = inl e
    by_end false e = inr (end_or_content (is_end s) (is_content s) h e)

pub stopped_by_end : (r : Reading) → is_end r.state ≡ true → has_stopped r ≡ true
stopped_by_end r h = by_fault (is_some r.refused) refl
  where
    by_fault : (t : Bool) → is_some r.refused ≡ t → has_stopped r ≡ true
    by_fault true e = rw e refl
    by_fault false e = rw (e, h) refl

-- no content is taken where none is waited for, or at the limit
given_none : (b : ℕ) (r : Reading) → (is_content r.state ≡ false) ⊎ (r.given ≡ r.limit) → given_of b r ≡ []
unfolding given_of
given_none b r over =
    cond_both (has_stopped r) [] _ (λ (x : List ℕ). x ≡ []) (λ e. refl)
    (λ e. cond_both (is_full r) [] _ (λ (x : List ℕ). x ≡ []) (λ f. refl) (λ f. by_content (is_content r.state) refl f))
  where
    by_content : (t : Bool) → is_content r.state ≡ t → is_full r ≡ false → cond t (b ∷ []) [] ≡ []
    by_content false content room = refl
    by_content true content room = elim over [
      | inl none ↦ absurd (cc)
      | inr met ↦ let full : is_full r ≡ true = rw (content, eq-eqb r.given r.limit met) refl in absurd (cc)
    ]

-- bytes that aren't content, and then content
module _ (r mid r' : Reading) (bytes : List ℕ) (from run : ℕ) (skips : Skips r bytes from mid) (takes : Takes mid (drop from bytes) run r') where
  both : after_all (take (from + run) bytes) r ≡ r'
  both = rw (take-add from run bytes, after_all-append (take from bytes) (take run (drop from bytes)) r, ← skips.reading) (sym takes.reading)

  content : content_from (take (from + run) bytes) r ≡ take run (drop from bytes)
  content = rw (take-add from run bytes, content-append (take from bytes) (take run (drop from bytes)) r, ← skips.reading, skips.no_content) takes.content

  inside : from + run ≤ length bytes
  inside = omega (arith, takes.within, skips.within, length-drop from bytes)

  some_left : from < length bytes → 0 < length (drop from bytes)
  some_left h = omega (arith, length-drop from bytes)

  moves : is_end r.state ≡ false → 0 < length bytes → 0 < from + run
  unfolding after_all
  moves going some = by_framing (is_framing r.state) refl
    where
      by_start : (k : ℕ) → from ≡ k → is_content r.state ≡ true → 0 < from + run
      by_start zero e waits_for =
          let same : mid ≡ r = skips.reading ∙ rw e refl in
          let more : 0 < run = takes.moves (ap (λ (x : Reading). is_content x.state) same ∙ waits_for) (some_left (omega arith)) in
          omega arith
      by_start (suc k) e waits_for = omega arith

      by_framing : (f : Bool) → is_framing r.state ≡ f → 0 < from + run
      by_framing true f = omega (arith, skips.moves f some)
      by_framing false f = by_start from refl (elim (waits r.state f) [ inl e ↦ cc | inr c ↦ c ])

  stops : from + run < length bytes → is_end r'.state ≡ false → 0 < run
  stops more going = elim (waits mid.state (skips.stops (omega arith))) [
    | inl ended ↦ let same : r' ≡ mid = takes.reading ∙ stays (take run (drop from bytes)) mid (stopped_by_end mid ended) in
        let end : is_end r'.state ≡ true = ap (λ (x : Reading). is_end x.state) same ∙ ended in cc
    | inr waits_for ↦ takes.moves waits_for (some_left (omega arith))
  ]

  -- the byte behind is no content
  behind : from + run < length bytes → content_from (take (from + run + 1) bytes) r ≡ content_from (take (from + run) bytes) r
  unfolding content_from
  behind more =
      let left : run < length (drop from bytes) = omega (arith, length-drop from bytes) in
      let b = get_or bytes (from + run) 0 in
      let next : given_of b r' ≡ [] = given_none b r' (takes.whole left) in
      let one : content_from (b ∷ []) r' ≡ [] = rw next refl in
      ap (λ (bs : List ℕ). content_from bs r) (take_more bytes (from + run) 0 more) ∙ content-append (take (from + run) bytes) (b ∷ []) r
      ∙ ap (λ (x : Reading). content_from (take (from + run) bytes) r ++ content_from (b ∷ []) x) both
      ∙ ap (λ (c : List ℕ). content_from (take (from + run) bytes) r ++ c) one ∙ append-nil (content_from (take (from + run) bytes) r)

  -- the body hadn't ended in front of any byte taken
  front_waits : (k : ℕ) → k < from → is_end (after_all (take k bytes) r).state ≡ false
  front_waits k less = let s = (after_all (take k bytes) r).state in not_end (is_end s) (is_content s) (skips.waits k less)

  -- nor in the run, since nothing behind an end is content
  split_run : (j : ℕ) → j < run → take run (drop from bytes) ≡ take j (drop from bytes) ++ drop j (take run (drop from bytes))
  split_run j less =
      sym (take-append-drop j (take run (drop from bytes)))
      ∙ ap (λ (x : List ℕ). x ++ drop j (take run (drop from bytes))) (take-take j run (drop from bytes) (omega arith))

  run_waits : (j : ℕ) → j < run → is_end (after_all (take j (drop from bytes)) mid).state ≡ false
  run_waits j less = by_end (is_end (after_all (take j (drop from bytes)) mid).state) refl
    where
      by_end : (t : Bool) → is_end (after_all (take j (drop from bytes)) mid).state ≡ t → is_end (after_all (take j (drop from bytes)) mid).state ≡ false
      by_end false e = e
      by_end true e =
          let at = after_all (take j (drop from bytes)) mid in
          let others = drop j (take run (drop from bytes)) in
          let gives : content_from (take run (drop from bytes)) mid ≡ content_from (take j (drop from bytes)) mid =
          ap (λ (x : List ℕ). content_from x mid) (split_run j less) ∙ content-append (take j (drop from bytes)) others mid
          ∙ ap (λ (x : List ℕ). content_from (take j (drop from bytes)) mid ++ x) (gives_none others at (stopped_by_end at e)) ∙ append-nil (content_from (take j (drop from bytes)) mid) in
          absurd (omega (arith, less, ap length (sym takes.content ∙ gives), content_few (take j (drop from bytes)) mid, length-take j (drop from bytes), length-take run (drop from bytes), takes.within))

  behind_front : (j : ℕ) → after_all (take (from + j) bytes) r ≡ after_all (take j (drop from bytes)) mid
  behind_front j = rw (take-add from j bytes, after_all-append (take from bytes) (take j (drop from bytes)) r, ← skips.reading) refl

  waits_for : (k : ℕ) → k < from + run → is_end (after_all (take k bytes) r).state ≡ false
  waits_for k less = by_front (ltb k from) refl
    where
      by_front : (t : Bool) → ltb k from ≡ t → is_end (after_all (take k bytes) r).state ≡ false
      by_front true e = front_waits k (ltb-true k from e)
      by_front false e =
          let past = ltb-false k from e in
          let j = k - from in
          let place : k ≡ from + j = omega (arith, past) in
          let read : after_all (take k bytes) r ≡ after_all (take j (drop from bytes)) mid =
          ap (λ (n : ℕ). after_all (take n bytes) r) place ∙ behind_front j in
          ap (λ (x : Reading). is_end x.state) read ∙ run_waits j (omega arith)

  pub feeds : (fed : Fed) → fed.taken ≡ from + run → fed.from ≡ from → fed.to ≡ from + run → fed.end ≡ is_end r'.state → Feeds r bytes fed r'
  feeds fed taken_is from_is to_is end_is = record {
    order = record { run = omega arith; taken = omega arith; within = omega (arith, inside); last = λ some. omega arith };
    reading = rw taken_is (sym both);
    run = rw (taken_is, from_is, to_is) (content ∙ ap (λ (n : ℕ). take n (drop from bytes)) (omega arith));
    whole = λ more. rw taken_is (behind (rw taken_is at more));
    goes_on = takes.goes_on;
    ended = end_is;
    waits = λ n less. waits_for n (omega arith);
    moves = λ going some. rw taken_is (moves going some);
    stops = λ more going. omega (arith, stops (rw taken_is at more) (sym end_is ∙ going));
  }

-- what came before was no content, and then it was refused
pub refuses_later : (r mid r' : Reading) (bytes : List ℕ) (from : ℕ) (fault : FedFault) → Skips r bytes from mid → Refuses mid (drop from bytes) fault r' → Refuses r bytes fault r'
refuses_later r mid r' bytes from fault skips refuses =
    let whole : take from bytes ++ drop from bytes ≡ bytes = take-append-drop from bytes in
    let reads : after_all (take from bytes ++ drop from bytes) r ≡ r' =
    after_all-append (take from bytes) (drop from bytes) r ∙ ap (after_all (drop from bytes)) (sym skips.reading) ∙ sym refuses.reading in
    let gives : content_from (take from bytes ++ drop from bytes) r ≡ [] =
    content-append (take from bytes) (drop from bytes) r ∙ rw (← skips.reading, skips.no_content) refuses.no_content in
    record { reading = sym (rw whole at reads); no_content = rw whole at gives; told = refuses.told }

-- a reading that was refused
pub refuses_again : (r : Reading) (bytes : List ℕ) (fault : FedFault) → r.refused ≡ Some fault → Refuses r bytes fault r
refuses_again r bytes fault told =
    let stopped : has_stopped r ≡ true = rw told refl in
    record { reading = sym (stays bytes r stopped); no_content = gives_none bytes r stopped; told = told }

-- the same of the whole text
module _ (plan : BodyPlan) (limit : ℕ) (text : List ℕ) (r : Reading) (stands : r ≡ reading_of plan limit text) where
  grown : (bytes : List ℕ) → after_all bytes r ≡ reading_of plan limit (text ++ bytes)
  unfolding reading_of
  grown bytes = rw stands (sym (after_all-append text bytes (opening plan limit)))

  grown_content : (bytes : List ℕ) → content_of plan limit (text ++ bytes) ≡ content_of plan limit text ++ content_from bytes r
  unfolding reading_of content_of
  grown_content bytes = rw stands (content-append text bytes (opening plan limit))

  pub fed_at : (bytes : List ℕ) (result : Result Fed FedFault) (r' : Reading) → IsFed r bytes result r' → IsFedAt plan limit text bytes result r'
  fed_at bytes (Ok fed) r' feeds =
      let reads : r' ≡ reading_of plan limit (text ++ take fed.taken bytes) = feeds.reading ∙ grown (take fed.taken bytes) in
      record {
        order = feeds.order;
        reading = reads;
        whole = λ more.
            grown_content (take (fed.taken + 1) bytes) ∙ ap (λ (c : List ℕ). content_of plan limit text ++ c) (feeds.whole more) ∙ sym (grown_content (take fed.taken bytes));
        run = grown_content (take fed.taken bytes) ∙ ap (λ (c : List ℕ). content_of plan limit text ++ c) feeds.run;
        goes_on = ap (λ (x : Reading). x.refused) (sym reads) ∙ feeds.goes_on;
        ended = feeds.ended ∙ ap (λ (x : Reading). is_end x.state) reads;
        waits = λ n less. ap (λ (x : Reading). is_end x.state) (sym (grown (take n bytes))) ∙ feeds.waits n less;
        moves = λ going some. feeds.moves (ap (λ (x : Reading). is_end x.state) stands ∙ going) some;
        stops = feeds.stops;
      }
  fed_at bytes (Err fault) r' refuses =
      let reads : r' ≡ reading_of plan limit (text ++ bytes) = refuses.reading ∙ grown bytes in
      record {
        reading = reads;
        no_content = grown_content bytes ∙ rw refuses.no_content (append-nil (content_of plan limit text));
        told = ap (λ (x : Reading). x.refused) (sym reads) ∙ refuses.told;
      }

-- a reading that was refused answers that again
pub fed_again : (r r' : Reading) (bytes : List ℕ) (result : Result Fed FedFault) (fault : FedFault) → IsFed r bytes result r' → r.refused ≡ Some fault → (result ≡ Err fault) × (r' ≡ r)
fed_again r r' bytes (Ok fed) fault feeds told =
    let same : r' ≡ r = feeds.reading ∙ stays (take fed.taken bytes) r (rw told refl) in
    let none : r.refused ≡ None = ap (λ (x : Reading). x.refused) (sym same) ∙ feeds.goes_on in
    absurd (cc)
fed_again r r' bytes (Err other) fault refuses told =
    let same : r' ≡ r = refuses.reading ∙ stays bytes r (rw told refl) in
    let both : Some other ≡ Some fault = sym refuses.told ∙ ap (λ (x : Reading). x.refused) same ∙ told in
    (ap (λ (f : FedFault). Err f) (cc), same)
