-- The moves of an exchange that reads a body.
use Rattle.std.proofs.Common.{◌≡◌, ℕ, ◌<◌, Bool, true, false, List, [], ◌++◌, length, Option, Some, None, sym, ap, ◌∙◌, refl, subst, arith, append-nil}
use Rattle.gp_body.specs.declared.fed.FedFault.{FedFault}
use Rattle.gp_body.specs.declared.reading.Reading.{Reading as BodyReading}
use Rattle.gp_body.specs.Steps.{is_end}
use Rattle.gp_body.specs.Readings.{content_from}
use Rattle.gp_outside.specs.Counts.{Rose}
use Rattle.gp_outside.specs.Dials.{DialTells, DialLater, after_hang_up}
use Rattle.gp_outside.specs.Talks.{Talk, Talks, came}
use Rattle.gp_exchange.specs.Views.{AskedView}
use Rattle.gp_exchange.specs.Hearing.{Comes, ReadsOn}
use Rattle.std.specs.Prelude.{option_map}
use Rattle.std.specs.declared.snapshot.Snapshot.{Snapshot}
use Rattle.gp_plain.specs.declared.http.Response.{Response}
use Rattle.gp_exchange.specs.Answers.{told, head_of}
use Rattle.gp_exchange.specs.Ends.{Reads, Ends, EndsBy, IsBodyEnd, last_of, last_by}
use Rattle.gp_exchange.specs.Standing.{IsReading, StandsAt}
use Rattle.gp_exchange.specs.Moves.{Leads}
use Rattle.gp_exchange.specs.declared.answer.Progress.TheVariants.{Part}
use Rattle.gp_exchange.specs.declared.answer.ExchangeFault.TheVariants.{Dial, Head, Interim, Plan, Body}
use Rattle.gp_exchange.specs.declared.answer.Last.{Last}
use Rattle.gp_exchange.specs.declared.answer.Last.TheVariants.{End, Fault, NoMemory}
use Rattle.gp_exchange.specs.declared.place.Next.{Next}
use Rattle.gp_exchange.specs.declared.place.Over.{Over}
use Rattle.gp_exchange.specs.declared.place.Place.TheVariants as place
use Rattle.gp_exchange.specs.declared.reading.Reading.{Reading}
use Rattle.gp_exchange.proofs.Talking.{told_on, told_same, HangsUp, present_came, present_stays, reading_came, reading_ends}
use Rattle.gp_exchange.proofs.Leading.{EndGives, leads_over, later_same}

module _ (asked : AskedView) (r : Reading) (none : r.part ≡ []) (old now new : DialTells) where
  head_ends : (over : Over) → over.head ≡ Some r.head → head_of (place.Over over) ≡ head_of (place.Reading r)
  head_ends over given = ap (option_map (λ (head : Snapshot Response). head.value)) given

  -- an end by the bytes that came
  pub reading_over : (over : Over) (next : Next) → over.head ≡ Some r.head → next.place ≡ place.Over over → next.progress ≡ told over.last → new ≡ after_hang_up now → DialLater old now → now.talks ≡ old.talks
      → EndGives (place.Reading r) old now over.last → (over.ended ≡ true → Rose old.ends now.ends)
      → ((given received : List ℕ) → Reads asked r.head.value r.reader given received → Ends asked over given received)
      → Leads asked (place.Reading r) old new next
  reading_over over next given e f hung later same gives marked cause =
      leads_over asked (place.Reading r) old now new over next (head_ends over given) e f hung (omega arith) later gives marked
      (λ before given s. told_same (IsReading asked before given r) (HangsUp asked before given over) old.talks now.talks same
      (λ talks at. reading_ends asked before given [] r over talks talks none (λ sent received. present_stays asked before sent received talks)
      (λ received reads. subst (λ (x : List ℕ). Ends asked over given x) (sym (append-nil received)) (cause given received reads)) at) s)

  -- bytes that came are lost
  pub reading_lost : (more : List ℕ) (over : Over) (next : Next) → over.head ≡ Some r.head → next.place ≡ place.Over over → next.progress ≡ told over.last → new ≡ after_hang_up now → DialLater old now → Comes old now more
      → over.last ≡ NoMemory → over.ended ≡ false → Leads asked (place.Reading r) old new next
  reading_lost more over next given e f hung later comes memory mark =
      leads_over asked (place.Reading r) old now new over next (head_ends over given) e f hung (omega arith) later (rw memory tt) (λ m. (let never : true ≡ false = sym m ∙ mark in cc))
      (λ before given s. told_on (IsReading asked before given r) (HangsUp asked before given over) (came more) old.talks now.talks comes.talks
      (λ talks at. reading_ends asked before given more r over talks (came more talks) none (λ sent received. present_came asked before sent received more talks)
      (λ received reads. subst (λ (l : Last). EndsBy asked l over.ended over.head given (received ++ more)) (sym memory) tt) at) s)

  -- content came
  pub stands_on : (r' : Reading) (part more : List ℕ) → r'.head ≡ r.head → r'.part ≡ [] → Comes old now more → ReadsOn r.reader r'.reader [] part more
      → (before : List Talk) (given : List ℕ) → StandsAt asked before given (place.Reading r) old.talks → StandsAt asked before (given ++ part) (place.Reading r') now.talks
  stands_on r' part more head none' comes on before given s =
      told_on (IsReading asked before given r) (IsReading asked before (given ++ part) r') (came more) old.talks now.talks comes.talks
      (λ talks at. reading_came asked before given more part r r' talks none head none' on at) s

  pub gives_part : (r' : Reading) (part more : List ℕ) → r'.head ≡ r.head → r'.part ≡ [] → Comes old now more → ReadsOn r.reader r'.reader [] part more → 0 < length part → DialLater old now
      → Leads asked (place.Reading r) old now (record { place = place.Reading r'; progress = Part part })
  gives_part r' part more head none' comes on some later = record {
    kept = tt;
    begun = omega arith;
    later = later;
    gives = (some, refl, refl);
    marked = λ mark. cc;
    heads = ap (λ (s : Snapshot Response). Some s.value) head;
    stands = stands_on r' part more head none' comes on;
    over = λ over. absurd (omega arith);
  }

-- a body without a part to give goes on
pub on_without : (asked : AskedView) (before : List Talk) (given part : List ℕ) (r' : Reading) (talks : Option Talks) → part ≡ [] → StandsAt asked before (given ++ part) (place.Reading r') talks → StandsAt asked before given (place.Reading r') talks
on_without asked before given part r' talks none s = subst (λ (x : List ℕ). StandsAt asked before x (place.Reading r') talks) (ap (λ (x : List ℕ). given ++ x) none ∙ append-nil given) s

-- the end that a reader has met is the end or a refused body
pub met_gives : (r : Reading) (b : BodyReading) (old now : DialTells) (last : Last) → last_of b ≡ Some last → EndGives (place.Reading r) old now last
met_gives r b old now last met = by_both b.refused (is_end b.state) met
  where
    by_both : (refused : Option FedFault) (end : Bool) → last_by refused end ≡ Some last → EndGives (place.Reading r) old now last
    by_both (Some fault) end e = let is : Fault (Body fault) ≡ last = cc in subst (λ (l : Last). EndGives (place.Reading r) old now l) is tt
    by_both None true e = let is : End ≡ last = cc in subst (λ (l : Last). EndGives (place.Reading r) old now l) is (omega arith)
    by_both None false e = cc

-- a part that was empty before
pub from_none : (r r' : BodyReading) (was is part more : List ℕ) → was ≡ [] → part ≡ is → ReadsOn r r' was is more → ReadsOn r r' [] part more
from_none r r' was is part more none same on = record { reading = on.reading; content = same ∙ on.content ∙ ap (λ (x : List ℕ). x ++ content_from more r) none }

pub body_gives : (r : Reading) (old now : DialTells) (last : Last) → IsBodyEnd last → EndGives (place.Reading r) old now last
body_gives r old now End is = omega arith
body_gives r old now (Fault Dial) is = absurd is
body_gives r old now (Fault Head) is = absurd is
body_gives r old now (Fault Interim) is = absurd is
body_gives r old now (Fault (Plan fault)) is = absurd is
body_gives r old now (Fault (Body fault)) is = tt
body_gives r old now NoMemory is = tt

-- what came with the head is given
pub gives_kept : (asked : AskedView) (r r' : Reading) (dial : DialTells) → r'.head ≡ r.head → r'.reader ≡ r.reader → r'.part ≡ [] → 0 < length r.part
    → Leads asked (place.Reading r) dial dial (record { place = place.Reading r'; progress = Part r.part })
gives_kept asked r r' dial head reader none some = record {
  kept = tt;
  begun = omega arith;
  later = later_same dial;
  gives = (some, refl, refl);
  marked = λ mark. cc;
  heads = ap (λ (s : Snapshot Response). Some s.value) head;
  stands = λ before given s. told_same (IsReading asked before given r) (IsReading asked before (given ++ r.part) r') dial.talks dial.talks refl
      (λ talks at. record {
        received = at.received;
        talk = at.talk;
        body = subst (λ (x : List ℕ). Reads asked r'.head.value r'.reader x at.received) (sym (ap (λ (x : List ℕ). (given ++ r.part) ++ x) none ∙ append-nil (given ++ r.part))) (rw (head, reader) at.body);
      }) s;
  over = λ over. absurd (omega arith);
}

pub none_met : (o : Option Last) → ((last : Last) → o ≡ Some last → ⊥) → o ≡ None
none_met None never = refl
none_met (Some last) never = absurd (never last refl)
