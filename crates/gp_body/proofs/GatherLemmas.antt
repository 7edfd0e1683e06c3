-- How all bytes are read in one call.
use Rattle.std.proofs.Common.{◌≡◌, ℕ, ◌+◌, ◌-◌, ◌<◌, Bool, true, false, ltb, List, [], ◌++◌, take, drop, Some, None, refl, sym, ap, ◌∙◌, arith, append_assoc, append-nil, length-drop, take-append-drop}
use Rattle.std.specs.Prelude.{slice_range, Result, Ok, Err}
use Rattle.std.proofs.Math.Seq.{take-add}
use Rattle.std.proofs.lemmas.Bool.{ltb-true, ltb-false}
use Rattle.std.proofs.lemmas.List.{take_all}
use Rattle.gp_body.specs.declared.plan.BodyPlan.{BodyPlan}
use Rattle.gp_body.specs.declared.fed.Fed.{Fed}
use Rattle.gp_body.specs.declared.fed.FedFault.{FedFault}
use Rattle.gp_body.specs.declared.fed.FedAll.{FedAll}
use Rattle.gp_body.specs.declared.fed.FedAllFault.{FedAllFault}
use Rattle.gp_body.specs.declared.fed.FedAllFault.TheVariants.{Body, NoMemory}
use Rattle.gp_body.specs.declared.reading.Reading.{Reading}
use Rattle.gp_body.specs.Steps.{is_end}
use Rattle.gp_body.specs.Readings.{after_all, content_from, Refuses}
use Rattle.gp_body.specs.Wholes.{opening, reading_of, content_of, Feeds}
use Rattle.gp_body.specs.Alls.{Gathers, FeedsAll, RefusesAll, IsAllFed, IsAllFedAt}
use Rattle.gp_body.proofs.ReadingLemmas.{after_all-append, content-append, stays, gives_none}
use Rattle.gp_body.proofs.WholeLemmas.{stopped_by_end}

pub starts : (r : Reading) (bytes had : List ℕ) → r.refused ≡ None → Gathers r bytes 0 r had had
unfolding after_all content_from
starts r bytes had none = record { within = omega arith; reading = refl; content = sym (append-nil had); goes_on = none; waits = λ n less. absurd (omega arith) }

-- behind bytes that were gathered
module _ (r mid : Reading) (bytes was had : List ℕ) (t : ℕ) (so_far : Gathers r bytes t mid was had) where
  reads : (n : ℕ) → after_all (take (t + n) bytes) r ≡ after_all (take n (drop t bytes)) mid
  reads n = rw (take-add t n bytes, after_all-append (take t bytes) (take n (drop t bytes)) r, ← so_far.reading) refl

  gives : (n : ℕ) → content_from (take (t + n) bytes) r ≡ content_from (take t bytes) r ++ content_from (take n (drop t bytes)) mid
  gives n = rw (take-add t n bytes, content-append (take t bytes) (take n (drop t bytes)) r, ← so_far.reading) refl

  pub one_feed : (r' : Reading) (now : List ℕ) (fed : Fed) → Feeds mid (drop t bytes) fed r' → now ≡ had ++ slice_range (drop t bytes) fed.from fed.to → Gathers r bytes (t + fed.taken) r' was now
  one_feed r' now fed feeds grown = record {
    within = omega (arith, feeds.order.within, length-drop t bytes, so_far.within);
    reading = feeds.reading ∙ sym (reads fed.taken);
    content = grown ∙ rw so_far.content (append_assoc was (content_from (take t bytes) r) (slice_range (drop t bytes) fed.from fed.to))
        ∙ ap (λ (x : List ℕ). was ++ (content_from (take t bytes) r ++ x)) (sym feeds.run) ∙ ap (λ (x : List ℕ). was ++ x) (sym (gives fed.taken));
    goes_on = feeds.goes_on;
    waits = λ n less. waits n less (ltb n t) refl;
  }
    where
      waits : (n : ℕ) → n < t + fed.taken → (b : Bool) → ltb n t ≡ b → is_end (after_all (take n bytes) r).state ≡ false
      waits n less true e = so_far.waits n (ltb-true n t e)
      waits n less false e =
          let past = ltb-false n t e in
          let place : t + (n - t) ≡ n = omega (arith, past) in
          let read : after_all (take n bytes) r ≡ after_all (take (n - t) (drop t bytes)) mid = ap (λ (k : ℕ). after_all (take k bytes) r) (sym place) ∙ reads (n - t) in
          ap (λ (x : Reading). is_end x.state) read ∙ feeds.waits (n - t) (omega arith)

  pub one_refusal : (r' : Reading) (fault : FedFault) → Refuses mid (drop t bytes) fault r' → RefusesAll r bytes fault r' was had
  one_refusal r' fault refuses =
      let whole : take t bytes ++ drop t bytes ≡ bytes = take-append-drop t bytes in
      let read : after_all (take t bytes ++ drop t bytes) r ≡ r' =
      after_all-append (take t bytes) (drop t bytes) r ∙ ap (after_all (drop t bytes)) (sym so_far.reading) ∙ sym refuses.reading in
      let given : content_from (take t bytes ++ drop t bytes) r ≡ content_from (take t bytes) r =
      content-append (take t bytes) (drop t bytes) r ∙ rw (← so_far.reading, refuses.no_content) (append-nil (content_from (take t bytes) r)) in
      record {
        reading = sym (rw whole at read);
        content = so_far.content ∙ ap (λ (x : List ℕ). was ++ x) (sym (rw whole at given));
        told = refuses.told;
      }

-- a reading that was refused gives nothing more
pub refused_before : (r : Reading) (bytes had : List ℕ) (fault : FedFault) → r.refused ≡ Some fault → RefusesAll r bytes fault r had had
refused_before r bytes had fault told = record {
  reading = sym (stays bytes r (rw told refl));
  content = rw (gives_none bytes r (rw told refl)) (sym (append-nil had));
  told = told;
}

-- what was read of all bytes, whether or not the body ended among them
pub record ReadsAll (r : Reading) (bytes : List ℕ) (r' : Reading) (was now : List ℕ) : Type 0 where
  pub reading : r' ≡ after_all bytes r
  pub content : now ≡ was ++ content_from bytes r

pub reads_all : (r r' : Reading) (bytes was now : List ℕ) (fed : FedAll) → FeedsAll r bytes fed r' was now → ReadsAll r bytes r' was now
reads_all r r' bytes was now fed feeds = by_end fed.end refl
  where
    gathers : Gathers r bytes fed.taken r' was now
    gathers = feeds.gathers

    by_end : (e : Bool) → fed.end ≡ e → ReadsAll r bytes r' was now
    by_end true e =
        let stopped = stopped_by_end r' (sym feeds.ended ∙ e) in
        let whole : take fed.taken bytes ++ drop fed.taken bytes ≡ bytes = take-append-drop fed.taken bytes in
        let read : after_all (take fed.taken bytes ++ drop fed.taken bytes) r ≡ r' =
        after_all-append (take fed.taken bytes) (drop fed.taken bytes) r ∙ ap (after_all (drop fed.taken bytes)) (sym gathers.reading) ∙ stays (drop fed.taken bytes) r' stopped in
        let none : content_from (drop fed.taken bytes) (after_all (take fed.taken bytes) r) ≡ [] = ap (content_from (drop fed.taken bytes)) (sym gathers.reading) ∙ gives_none (drop fed.taken bytes) r' stopped in
        let given : content_from (take fed.taken bytes ++ drop fed.taken bytes) r ≡ content_from (take fed.taken bytes) r =
        content-append (take fed.taken bytes) (drop fed.taken bytes) r ∙ ap (λ (x : List ℕ). content_from (take fed.taken bytes) r ++ x) none ∙ append-nil (content_from (take fed.taken bytes) r) in
        record { reading = sym (rw whole at read); content = gathers.content ∙ ap (λ (x : List ℕ). was ++ x) (sym (rw whole at given)) }
    by_end false e =
        let all : take fed.taken bytes ≡ bytes = take_all fed.taken bytes (omega (arith, feeds.whole e)) in
        record { reading = rw all at gathers.reading; content = rw all at gathers.content }

-- the same of the whole text
module _ (plan : BodyPlan) (limit : ℕ) (text : List ℕ) (r : Reading) (stands : r ≡ reading_of plan limit text) where
  grown : (bytes : List ℕ) → after_all bytes r ≡ reading_of plan limit (text ++ bytes)
  unfolding reading_of
  grown bytes = rw stands (sym (after_all-append text bytes (opening plan limit)))

  joined : (before bytes was now : List ℕ) → was ≡ before ++ content_of plan limit text → now ≡ was ++ content_from bytes r → now ≡ before ++ content_of plan limit (text ++ bytes)
  unfolding reading_of content_of
  joined before bytes was now had gives =
      gives ∙ rw (had, stands) (append_assoc before (content_from text (opening plan limit)) (content_from bytes (after_all text (opening plan limit))))
      ∙ ap (λ (x : List ℕ). before ++ x) (sym (content-append text bytes (opening plan limit)))

  pub all_fed_at : (bytes was now : List ℕ) (result : Result FedAll FedAllFault) (r' : Reading) → IsAllFed r bytes result r' was now → IsAllFedAt plan limit text bytes result r' was now
  all_fed_at bytes was now (Ok fed) r' feeds =
      let reads_to : r' ≡ reading_of plan limit (text ++ take fed.taken bytes) = feeds.gathers.reading ∙ grown (take fed.taken bytes) in
      record {
        within = feeds.gathers.within;
        reading = reads_to;
        content = λ before had. joined before (take fed.taken bytes) was now had feeds.gathers.content;
        goes_on = ap (λ (x : Reading). x.refused) (sym reads_to) ∙ feeds.gathers.goes_on;
        ended = feeds.ended ∙ ap (λ (x : Reading). is_end x.state) reads_to;
        waits = λ n less. ap (λ (x : Reading). is_end x.state) (sym (grown (take n bytes))) ∙ feeds.gathers.waits n less;
        whole = feeds.whole;
      }
  all_fed_at bytes was now (Err (Body fault)) r' refuses =
      let reads_to : r' ≡ reading_of plan limit (text ++ bytes) = refuses.reading ∙ grown bytes in
      record {
        reading = reads_to;
        content = λ before had. joined before bytes was now had refuses.content;
        told = ap (λ (x : Reading). x.refused) (sym reads_to) ∙ refuses.told;
      }
  all_fed_at bytes was now (Err NoMemory) r' changes = record { reading = changes.reading ∙ stands; content = changes.content }
