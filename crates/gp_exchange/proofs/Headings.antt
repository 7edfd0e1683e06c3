-- The moves of an exchange that expects a head.
use Rattle.std.proofs.Common.{◌≡◌, ℕ, ◌+◌, ◌-◌, ◌*◌, ◌<◌, ◌≤◌, ◌⊎◌, true, false, inl, inr, List, [], ◌++◌, length, Some, None, refl, sym, ap, ◌∙◌, subst, arith, append-nil, length-append}
use Rattle.std.proofs.lemmas.Bool.{cases_lt}
use Rattle.gp_plain.specs.declared.http.Response.{Response}
use Rattle.gp_head.specs.declared.read.HeadRead.TheVariants.{More as Open}
use Rattle.gp_head.specs.Heads.{IsRead, IsResponseText}
use Rattle.gp_outside.specs.Counts.{Rose}
use Rattle.gp_outside.specs.Dials.{DialTells, DialLater, after_hang_up}
use Rattle.gp_outside.specs.Talks.{Talk, came}
use Rattle.gp_exchange.specs.Views.{AskedView}
use Rattle.gp_exchange.specs.Heads.{HeadsSoFar}
use Rattle.gp_exchange.specs.Hearing.{Comes}
use Rattle.std.specs.Prelude.{option_map}
use Rattle.std.specs.declared.snapshot.Snapshot.{Snapshot}
use Rattle.gp_exchange.specs.Answers.{told, head_of}
use Rattle.gp_exchange.specs.Ends.{Reads, Ends, EndsBy}
use Rattle.gp_exchange.specs.Finds.{Goes, IsHeadEnd}
use Rattle.gp_exchange.specs.Standing.{IsHeading, IsReading, StandsAt}
use Rattle.gp_exchange.specs.Moves.{Leads}
use Rattle.gp_exchange.specs.declared.answer.ExchangeFault.TheVariants.{Dial, Head as BadHead, Interim, Plan, Body}
use Rattle.gp_exchange.specs.declared.answer.Progress.TheVariants.{Head}
use Rattle.gp_exchange.specs.declared.answer.Last.{Last}
use Rattle.gp_exchange.specs.declared.answer.Last.TheVariants.{End, Fault, NoMemory}
use Rattle.gp_exchange.specs.declared.place.Next.{Next}
use Rattle.gp_exchange.specs.declared.place.Over.{Over}
use Rattle.gp_exchange.specs.declared.place.Place.TheVariants as place
use Rattle.gp_exchange.specs.declared.heading.Heading.{Heading}
use Rattle.gp_exchange.specs.declared.reading.Reading.{Reading}
use Rattle.gp_exchange.proofs.Interim.{open_short}
use Rattle.gp_exchange.proofs.Talking.{told_on, told_same, HangsUp, present_came, present_stays, heading_came, heading_ends}
use Rattle.gp_exchange.proofs.Leading.{EndGives, leads_over}

head_none : (over : Over) → over.head ≡ None → head_of (place.Over over) ≡ None
head_none over none = ap (option_map (λ (head : Snapshot Response). head.value)) none

module _ (asked : AskedView) (h : Heading) (old now new : DialTells) where
  -- an end without more bytes
  pub heading_over : (over : Over) (next : Next) → over.head ≡ None → next.place ≡ place.Over over → next.progress ≡ told over.last → new ≡ after_hang_up now → DialLater old now → now.talks ≡ old.talks
      → EndGives (place.Heading h) old now over.last → (over.ended ≡ true → Rose old.ends now.ends)
      → ((received : List ℕ) → HeadsSoFar received h → Ends asked over [] received)
      → Leads asked (place.Heading h) old new next
  heading_over over next none e f hung later same gives marked cause =
      leads_over asked (place.Heading h) old now new over next (head_none over none) e f hung (omega arith) later gives marked
      (λ before given s. told_same (IsHeading asked before given h) (HangsUp asked before given over) old.talks now.talks same
      (λ talks at. heading_ends asked before given [] h over talks talks (λ sent received. present_stays asked before sent received talks)
      (λ received heads. subst (λ (x : List ℕ). Ends asked over [] x) (sym (append-nil received)) (cause received heads)) at) s)

  -- bytes that came are lost
  pub heading_lost : (more : List ℕ) (over : Over) (next : Next) → over.head ≡ None → next.place ≡ place.Over over → next.progress ≡ told over.last → new ≡ after_hang_up now → DialLater old now → Comes old now more
      → over.last ≡ NoMemory → over.ended ≡ false → Leads asked (place.Heading h) old new next
  heading_lost more over next none e f hung later comes memory mark =
      leads_over asked (place.Heading h) old now new over next (head_none over none) e f hung (omega arith) later (rw memory tt) (λ m. (let never : true ≡ false = sym m ∙ mark in cc))
      (λ before given s. told_on (IsHeading asked before given h) (HangsUp asked before given over) (came more) old.talks now.talks comes.talks
      (λ talks at. heading_ends asked before given more h over talks (came more talks) (λ sent received. present_came asked before sent received more talks)
      (λ received heads. subst (λ (l : Last). EndsBy asked l over.ended over.head [] (received ++ more)) (sym memory) tt) at) s)

  -- bytes came
  module _ (g : Heading) (more : List ℕ) (later : DialLater old now) (comes : Comes old now more) (same : g.interim ≡ h.interim) (grown : g.bytes ≡ h.bytes ++ more) where
    pub found_end : (last : Last) (over : Over) (next : Next) → over ≡ record { last = last; ended = false; head = None } → next.place ≡ place.Over over → next.progress ≡ told over.last → new ≡ after_hang_up now
        → EndGives (place.Heading h) old now last → ((received : List ℕ) → HeadsSoFar received g → EndsBy asked last false None [] received)
        → Leads asked (place.Heading h) old new next
    found_end last over next is e f hung gives cause =
        leads_over asked (place.Heading h) old now new (record { last = last; ended = false; head = None }) next refl (e ∙ ap (λ (o : Over). place.Over o) is) (f ∙ ap (λ (o : Over). told o.last) is) hung (omega arith) later gives (λ m. cc)
        (λ before given s. told_on (IsHeading asked before given h) (HangsUp asked before given (record { last = last; ended = false; head = None })) (came more) old.talks now.talks comes.talks
        (λ talks at. heading_ends asked before given [] g (record { last = last; ended = false; head = None }) (came more talks) (came more talks) (λ sent received. present_stays asked before sent received (came more talks))
        (λ received heads. subst (λ (x : List ℕ). EndsBy asked last false None [] x) (sym (append-nil received)) (cause received heads))
        (heading_came asked before given more h g talks same grown at)) s)

    pub gives_head : (head : Response) (reading : Reading) → reading.head.value ≡ head → ((received : List ℕ) → HeadsSoFar received g → Reads asked head reading.reader reading.part received)
        → Leads asked (place.Heading h) old now (record { place = place.Reading reading; progress = Head head })
    gives_head head reading is found = record {
      kept = tt;
      begun = omega arith;
      later = later;
      gives = (omega arith, is);
      marked = λ mark. cc;
      heads = ap Some is;
      stands = λ before given s. told_on (IsHeading asked before given h) (IsReading asked before (given ++ []) reading) (came more) old.talks now.talks comes.talks
          (λ talks at.
          let s' = heading_came asked before given more h g talks same grown at in
          let none : (given ++ []) ++ reading.part ≡ reading.part = ap (λ (x : List ℕ). (x ++ []) ++ reading.part) at.none_given in
          record {
            received = s'.received;
            talk = s'.talk;
            body = subst (λ (x : List ℕ). Reads asked reading.head.value reading.reader x s'.received) (sym none)
                (subst (λ (r : Response). Reads asked r reading.reader reading.part s'.received) (sym is) (found s'.received s'.heads));
          }) s;
      over = λ over. absurd (omega arith);
    }

    pub heading_on : (is : Heading) → ((received : List ℕ) → HeadsSoFar received g → HeadsSoFar received is)
        → (before : List Talk) (given : List ℕ) → StandsAt asked before given (place.Heading h) old.talks → StandsAt asked before given (place.Heading is) now.talks
    heading_on is goes before given s = told_on (IsHeading asked before given h) (IsHeading asked before given is) (came more) old.talks now.talks comes.talks
        (λ talks at.
        let s' = heading_came asked before given more h g talks same grown at in
        record { received = s'.received; talk = s'.talk; heads = goes s'.received s'.heads; none_given = s'.none_given }) s

-- an end that a head can have
pub head_gives : (h : Heading) (old now : DialTells) (last : Last) → IsHeadEnd last → EndGives (place.Heading h) old now last
head_gives h old now End is = absurd is
head_gives h old now (Fault Dial) is = absurd is
head_gives h old now (Fault BadHead) is = tt
head_gives h old now (Fault Interim) is = tt
head_gives h old now (Fault (Plan fault)) is = tt
head_gives h old now (Fault (Body fault)) is = absurd is
head_gives h old now NoMemory is = tt

-- what can come before a head is whole
abbrev pub head_left : Heading → ℕ
head_left h = 16384 * (8 - h.interim) + (16384 - length h.bytes)

pub head_falls : (h g is : Heading) (more : List ℕ) → IsRead IsResponseText h.bytes Open → h.interim ≤ 8 → g.interim ≡ h.interim → g.bytes ≡ h.bytes ++ more → 0 < length more → Goes g is → head_left is < head_left h
head_falls h g is more read few same grown some goes =
    let short = open_short h.bytes read in
    let short' = open_short is.bytes goes.more in
    let longer : length g.bytes ≡ length h.bytes + length more = ap length grown ∙ length-append h.bytes more in
    by_interim short short' longer (cases_lt g.interim is.interim)
  where
    by_interim : length h.bytes < 16384 → length is.bytes < 16384 → length g.bytes ≡ length h.bytes + length more → (g.interim < is.interim) ⊎ (is.interim ≤ g.interim) → head_left is < head_left h
    by_interim short short' longer (inl up) = omega (arith, short, short', up, same, goes.few)
    by_interim short short' longer (inr down) =
        let level : g.interim ≡ is.interim = omega (arith, down, goes.up) in
        let bytes : length is.bytes ≡ length g.bytes = ap length (goes.same level) in
        omega (arith, short, short', longer, bytes, level, same, some)
