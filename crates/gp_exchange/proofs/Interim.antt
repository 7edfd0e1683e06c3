-- Heads stay where they are as more comes.
use Rattle.std.proofs.Common.{◌≡◌, ◌≢◌, ℕ, ◌+◌, ◌<◌, ◌≤◌, ◌⊎◌, inl, inr, Bool, true, false, List, ◌++◌, take, drop, Option, Some, None, length, sym, ap, ◌∙◌, refl, subst, arith, length-drop}
use Rattle.std.proofs.lemmas.List.{drop-append-le}
use Rattle.std.proofs.lemmas.Grind.{common_steps}
use Rattle.gp_plain.specs.declared.http.Response.{Response}
use Rattle.gp_head.specs.declared.read.HeadRead.{HeadRead}
use Rattle.gp_head.specs.declared.read.HeadRead.TheVariants.{Whole, More as Open}
use Rattle.gp_head.specs.Heads.{IsRead, IsResponseText}
use Rattle.gp_head.specs.Lines.{begun_fields, head_end}
use Rattle.gp_head.proofs.ExtentLemmas.{is_head_text, extent_too_many, extent_too_long, extent_ends}
use Rattle.std.proofs.lemmas.Bool.{cases_lt}
use Rattle.gp_head.proofs.SettledLemmas.{settled}
use Rattle.gp_body.specs.Wholes.{reading_of, content_of}
use Rattle.gp_exchange.specs.Views.{AskedView}
use Rattle.gp_exchange.specs.Heads.{is_interim, AreInterim, none, more as another, HeadsSoFar, HasHead, IsNoHead, RefusesHead, RefusesInterim}
use Rattle.gp_exchange.specs.Ends.{Reads}
use Rattle.gp_exchange.specs.Finds.{Finds, IsFound, IsBegun}
use Rattle.gp_exchange.specs.declared.answer.ExchangeFault.TheVariants.{Dial, Head as BadHead, Interim, Plan, Body}
use Rattle.gp_exchange.specs.declared.answer.Last.TheVariants.{End, Fault, NoMemory}
use Rattle.gp_exchange.specs.declared.heading.Found.{Found}
use Rattle.gp_exchange.specs.declared.heading.Found.TheVariants.{More, Head, Over}
use Rattle.gp_exchange.specs.declared.heading.Heading.{Heading}

-- a whole head is within the bytes
pub whole_within : (bytes : List ℕ) (head : Response) (n : ℕ) → IsRead IsResponseText bytes (Whole head n) → n ≤ length bytes
whole_within bytes head n read = (is_head_text bytes n (sym read.0)).inside

pub interim_within : (received : List ℕ) (count at : ℕ) → AreInterim received count at → at ≤ length received
interim_within received _ _ none = omega arith
interim_within received _ _ (another count at n head before read is not) =
    omega (arith, interim_within received count at before, whole_within (drop at received) head n read, length-drop at received)

drop_stays : (received more : List ℕ) (count at : ℕ) → AreInterim received count at → drop at (received ++ more) ≡ drop at received ++ more
drop_stays received more count at interim = drop-append-le at received more (interim_within received count at interim)

-- a whole head behind interim ones stays
pub whole_stays : (received more : List ℕ) (count at : ℕ) (head : Response) (n : ℕ) → AreInterim received count at → IsRead IsResponseText (drop at received) (Whole head n)
    → IsRead IsResponseText (drop at (received ++ more)) (Whole head n)
whole_stays received more count at head n interim read =
    subst (λ (bytes : List ℕ). IsRead IsResponseText bytes (Whole head n)) (sym (drop_stays received more count at interim))
    (settled IsResponseText (drop at received) (Whole head n) read more)

pub interim_stays : (received more : List ℕ) (count at : ℕ) → AreInterim received count at → AreInterim (received ++ more) count at
interim_stays received more _ _ none = none
interim_stays received more _ _ (another count at n head before read is not) =
    another count at n head (interim_stays received more count at before) (whole_stays received more count at head n before read) is not

-- more bytes of a head that isn't there whole
pub heads_more : (received more : List ℕ) (h h' : Heading) → h'.interim ≡ h.interim → h'.bytes ≡ h.bytes ++ more → HeadsSoFar received h → HeadsSoFar (received ++ more) h'
heads_more received more h h' same grown heads = record {
  at = heads.at;
  interim = subst (λ (n : ℕ). AreInterim (received ++ more) n heads.at) (sym same) (interim_stays received more h.interim heads.at heads.interim);
  bytes = drop_stays received more h.interim heads.at heads.interim ∙ ap (λ (x : List ℕ). x ++ more) heads.bytes ∙ sym grown;
}

-- the head of the response stays
pub head_stays : (received more : List ℕ) (head : Response) (at : ℕ) → HasHead received head at → HasHead (received ++ more) head at × (drop at (received ++ more) ≡ drop at received ++ more)
head_stays received more head at has =
    let within : at ≤ length received =
    omega (arith, has.at_is, interim_within received has.count has.before has.interim, whole_within (drop has.before received) head has.length has.read, length-drop has.before received) in (
      record {
        count = has.count;
        before = has.before;
        length = has.length;
        few = has.few;
        interim = interim_stays received more has.count has.before has.interim;
        read = whole_stays received more has.count has.before head has.length has.interim has.read;
        final = has.final;
        at_is = has.at_is;
      },
      drop-append-le at received more within,
    )

drop_twice : (xs : List ℕ) (at n : ℕ) → drop n (drop at xs) ≡ drop (at + n) xs
drop_twice xs at n = grind (arith, common_steps)

-- an interim head is dropped
pub heads_cut : (received : List ℕ) (h h' : Heading) (head : Response) (n : ℕ) → IsRead IsResponseText h.bytes (Whole head n) → is_interim head.code ≡ true → head.code ≢ 101
    → h'.interim ≡ h.interim + 1 → h'.bytes ≡ drop n h.bytes → HeadsSoFar received h → HeadsSoFar received h'
heads_cut received h h' head n read is not count cut heads =
    let here = subst (λ (bytes : List ℕ). IsRead IsResponseText bytes (Whole head n)) (sym heads.bytes) read in
    record {
      at = heads.at + n;
      interim = subst (λ (k : ℕ). AreInterim received k (heads.at + n)) (sym count) (another h.interim heads.at n head heads.interim here is not);
      bytes = sym (drop_twice received heads.at n) ∙ ap (drop n) heads.bytes ∙ sym cut;
    }

-- the head of the response is found
module _ (asked : AskedView) (received : List ℕ) (h is : Heading) (heads : HeadsSoFar received h) (few : h.interim ≤ 8) where
  pub found_head : (head : Response) (n : ℕ) (rest : List ℕ) (found : Found) → IsRead IsResponseText h.bytes (Whole head n) → is_interim head.code ≡ false → rest ≡ drop n h.bytes
      → IsBegun asked head rest found → IsFound asked received is found
  found_head head n rest found read final behind begun = by_found found begun
    where
      has : HasHead received head (heads.at + n)
      has = record {
        count = h.interim;
        before = heads.at;
        length = n;
        few = few;
        interim = heads.interim;
        read = subst (λ (bytes : List ℕ). IsRead IsResponseText bytes (Whole head n)) (sym heads.bytes) read;
        final = final;
        at_is = refl;
      }

      text : rest ≡ drop (heads.at + n) received
      text = behind ∙ ap (drop n) (sym heads.bytes) ∙ drop_twice received heads.at n

      by_found : (found : Found) → IsBegun asked head rest found → IsFound asked received is found
      by_found More begun = absurd begun
      by_found (Head given reading) begun =
          let p = begun.1 in
          subst (λ (r : Response). Reads asked r reading.reader reading.part received) (sym begun.0)
          (record {
            gave = record { at = heads.at + n; plan = p.plan; has = has; planned = p.planned; content_is = p.part ∙ ap (content_of p.plan asked.limit) text };
            reading = p.reader ∙ ap (reading_of p.plan asked.limit) text;
          })
      by_found (Over End) begun = absurd begun
      by_found (Over (Fault Dial)) begun = absurd begun
      by_found (Over (Fault BadHead)) begun = absurd begun
      by_found (Over (Fault Interim)) begun = absurd begun
      by_found (Over (Fault (Plan fault))) begun = (refl, record { at = heads.at + n; head = head; has = has; planned = begun })
      by_found (Over (Fault (Body fault))) begun = absurd begun
      by_found (Over NoMemory) begun = tt

  -- no head can be read
  pub no_head : (answer : HeadRead Response) (ended : Bool) → IsRead IsResponseText h.bytes answer → IsNoHead ended answer → RefusesHead received ended
  no_head answer ended read refused = record {
    count = h.interim;
    at = heads.at;
    few = few;
    interim = heads.interim;
    answer = answer;
    read = subst (λ (bytes : List ℕ). IsRead IsResponseText bytes answer) (sym heads.bytes) read;
    refused = refused;
  }

  -- an interim head too many, or one that is none
  pub no_interim : (head : Response) (n : ℕ) → IsRead IsResponseText h.bytes (Whole head n) → is_interim head.code ≡ true → (head.code ≡ 101) ⊎ (h.interim ≡ 8) → RefusesInterim received
  no_interim head n read is over = record {
    count = h.interim;
    at = heads.at;
    length = n;
    head = head;
    few = few;
    interim = heads.interim;
    read = subst (λ (bytes : List ℕ). IsRead IsResponseText bytes (Whole head n)) (sym heads.bytes) read;
    is_interim = is;
    over = over;
  }

-- a begun body has the head that was found
pub begun_finds : (asked : AskedView) (head : Response) (rest : List ℕ) (was is : Heading) (found : Found) → IsBegun asked head rest found → Finds was is found
begun_finds asked head rest was is More begun = absurd begun
begun_finds asked head rest was is (Head given reading) begun = begun.1.head_is ∙ sym begun.0
begun_finds asked head rest was is (Over End) begun = absurd begun
begun_finds asked head rest was is (Over (Fault Dial)) begun = absurd begun
begun_finds asked head rest was is (Over (Fault BadHead)) begun = tt
begun_finds asked head rest was is (Over (Fault Interim)) begun = tt
begun_finds asked head rest was is (Over (Fault (Plan fault))) begun = tt
begun_finds asked head rest was is (Over (Fault (Body fault))) begun = absurd begun
begun_finds asked head rest was is (Over NoMemory) begun = tt

-- a head that isn't there whole has fewer bytes than a head may have
pub open_short : (bytes : List ℕ) → IsRead IsResponseText bytes Open → length bytes < 16384
open_short bytes read = by_length (cases_lt (length bytes) 16384)
  where
    by_end : begun_fields (take 16384 bytes) ≤ 64 → 16384 ≤ length bytes → (end : Option ℕ) → head_end (take 16384 bytes) ≡ end → length bytes < 16384
    by_end few long None missing = let other = extent_too_long bytes few missing long in cc
    by_end few long (Some n) found = let other = extent_ends bytes n few found in cc

    by_count : 16384 ≤ length bytes → (64 < begun_fields (take 16384 bytes)) ⊎ (begun_fields (take 16384 bytes) ≤ 64) → length bytes < 16384
    by_count long (inl many) = let other = extent_too_many bytes many in cc
    by_count long (inr few) = by_end few long (head_end (take 16384 bytes)) refl

    by_length : (length bytes < 16384) ⊎ (16384 ≤ length bytes) → length bytes < 16384
    by_length (inl short) = short
    by_length (inr long) = by_count long (cases_lt 64 (begun_fields (take 16384 bytes)))
