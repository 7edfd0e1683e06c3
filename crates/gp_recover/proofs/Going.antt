-- How the moves of a recovery lead on from one another.
use Rattle.std.proofs.Common.{◌≡◌, ℕ, ◌<◌, ◌≤◌, Bool, true, false, List, [], ◌++◌, length, Option, Some, None, refl, sym, ap, ◌∙◌, subst, arith, append-nil}
use Rattle.std.specs.Prelude.{IfSome}
use Rattle.gp_plain.specs.declared.http.Response.{Response}
use Rattle.gp_outside.specs.Dials.{DialTells, DialLater}
use Rattle.gp_outside.specs.Talks.{Talk, Talks, present_of}
use Rattle.gp_exchange.specs.Answers.{FaultRises, IsOverBy, Marked, ReadsBodyOf, Waits, head_of, rank}
use Rattle.gp_exchange.specs.Standing.{StandsAt, HasTalk, part_of}
use Rattle.gp_exchange.specs.Views.{ExchangeView}
use Rattle.gp_exchange.specs.declared.answer.ExchangeFault.{ExchangeFault}
use Rattle.gp_exchange.specs.declared.answer.ExchangeFault.TheVariants as talk_fault
use Rattle.gp_exchange.specs.declared.answer.Last.{Last as ExchangeLast}
use Rattle.gp_exchange.specs.declared.answer.Progress.{Progress}
use Rattle.gp_exchange.specs.declared.answer.Progress.TheVariants as progress
use Rattle.gp_exchange.specs.declared.place.Place.{Place}
use Rattle.gp_exchange.specs.declared.place.Place.TheVariants as place
use Rattle.gp_exchange.proofs.Causes.{rose_from, waits_from}
use Rattle.gp_exchange.proofs.Leading.{later_later, later_same}
use Rattle.gp_exchange.proofs.Talking.{talked}
use Rattle.gp_instruct_json.specs.Kinds.{has_type}
use Rattle.gp_recover.specs.Reading.{most_by}
use Rattle.gp_recover.specs.Standing.{IsAt}
use Rattle.gp_recover.specs.Views.{RecoveryView, SoughtView, IsLive, answer_at, asked_by, place_at}
use Rattle.gp_recover.specs.Moves.{AsksContent, AsksHead, Gives, Goes, IsKept, Leads, On, Polls, StaysOver}
use Rattle.gp_recover.specs.declared.heading.Heading.{Heading as HeadHeading}
use Rattle.gp_recover.specs.declared.page.PageFault.TheVariants as fault
use Rattle.gp_recover.specs.declared.reading.Reading.{Reading as BodyReading}
use Rattle.gp_recover.specs.declared.recovered.Recovered.{Recovered}
use Rattle.gp_recover.specs.declared.recovered.Recovered.TheVariants as recovered
use Rattle.gp_recover.specs.declared.stage.Next.{Next}
use Rattle.gp_recover.specs.declared.stage.Stage.{Stage}
use Rattle.gp_recover.specs.declared.stage.Stage.TheVariants.{Unbegun, Heading, Reading, Over, Lost}
use Rattle.gp_recover.proofs.Ending.{stands_by}

-- ---- places of an exchange

pub over_rank : (e : ExchangeLast) (p : Place) → IsOverBy e p → rank p ≡ 5
over_rank e (place.Unbegun request) over = absurd over
over_rank e (place.Connecting request) over = absurd over
over_rank e (place.Sending sending) over = absurd over
over_rank e (place.Heading heading) over = absurd over
over_rank e (place.Reading reading) over = absurd over
over_rank e (place.Over o) over = refl

pub reads_rank : (head : Response) (p : Place) → ReadsBodyOf head p → rank p ≡ 4
reads_rank head (place.Unbegun request) reads = absurd reads
reads_rank head (place.Connecting request) reads = absurd reads
reads_rank head (place.Sending sending) reads = absurd reads
reads_rank head (place.Heading heading) reads = absurd reads
reads_rank head (place.Reading reading) reads = refl
reads_rank head (place.Over o) reads = absurd reads

pub reads_head : (head : Response) (p : Place) → ReadsBodyOf head p → head_of p ≡ Some head
reads_head head (place.Unbegun request) reads = absurd reads
reads_head head (place.Connecting request) reads = absurd reads
reads_head head (place.Sending sending) reads = absurd reads
reads_head head (place.Heading heading) reads = absurd reads
reads_head head (place.Reading reading) reads = ap (λ (r : Response). Some r) reads
reads_head head (place.Over o) reads = absurd reads

pub no_head : (p : Place) → rank p < 4 → head_of p ≡ None
no_head (place.Unbegun request) low = refl
no_head (place.Connecting request) low = refl
no_head (place.Sending sending) low = refl
no_head (place.Heading heading) low = refl
no_head (place.Reading reading) low = absurd (omega (arith, low))
no_head (place.Over o) low = absurd (omega (arith, low))

waits_low : (p : Place) (old now : DialTells) → head_of p ≡ None → Waits p old now → rank p < 4
waits_low (place.Unbegun request) old now none waits = absurd waits
waits_low (place.Connecting request) old now none waits = omega arith
waits_low (place.Sending sending) old now none waits = omega arith
waits_low (place.Heading heading) old now none waits = omega arith
waits_low (place.Reading reading) old now none waits = absurd cc
waits_low (place.Over o) old now none waits = absurd waits

waits_open : (p : Place) (old now : DialTells) → Waits p old now → rank p < 5
waits_open (place.Unbegun request) old now waits = absurd waits
waits_open (place.Connecting request) old now waits = omega arith
waits_open (place.Sending sending) old now waits = omega arith
waits_open (place.Heading heading) old now waits = omega arith
waits_open (place.Reading reading) old now waits = omega arith
waits_open (place.Over o) old now waits = absurd waits

-- an exchange that isn't over has no mark
unmarked : (was p : Place) (old now : DialTells) → rank p < 5 → Marked was p old now
unmarked was (place.Unbegun request) old now less = λ mark low. absurd cc
unmarked was (place.Connecting request) old now less = λ mark low. absurd cc
unmarked was (place.Sending sending) old now less = λ mark low. absurd cc
unmarked was (place.Heading heading) old now less = λ mark low. absurd cc
unmarked was (place.Reading reading) old now less = λ mark low. absurd cc
unmarked was (place.Over o) old now less = absurd (omega (arith, less))

pub marked_same : (p : Place) (d : DialTells) → Marked p p d d
marked_same (place.Unbegun request) d = λ mark low. absurd cc
marked_same (place.Connecting request) d = λ mark low. absurd cc
marked_same (place.Sending sending) d = λ mark low. absurd cc
marked_same (place.Heading heading) d = λ mark low. absurd cc
marked_same (place.Reading reading) d = λ mark low. absurd cc
marked_same (place.Over o) d = λ mark low. absurd (omega (arith, low))

-- ---- a wait

pub heading_waits : (s : SoughtView) (h : HeadHeading) (y : ExchangeView) (old now : DialTells) → AsksHead s h → Polls h.exchange y old now progress.NotReady
    → Leads s h.exchange.place [] old now (record { stage = Heading (record h { exchange = y }); recovered = recovered.NotReady })
heading_waits s h y old now k polls =
    let low : rank y.place < 4 = waits_low y.place old now (polls.heads ∙ no_head h.exchange.place k.early) polls.gives.1 in
    record {
      kept = record { asked = polls.asked ∙ k.asked; channel = k.channel; from = k.from; early = low };
      later = polls.later;
      answers = refl;
      gives = polls.gives;
      marked = polls.marked;
      stands = λ before stands. stands_by s h.exchange y old now progress.NotReady k.asked polls before [] stands;
    }

pub reading_waits : (s : SoughtView) (r : BodyReading) (y : ExchangeView) (old now : DialTells) → AsksContent s r → Polls r.exchange y old now progress.NotReady
    → Leads s r.exchange.place r.reader.content old now (record { stage = Reading (record r { exchange = y }); recovered = recovered.NotReady })
reading_waits s r y old now k polls =
    let four : rank y.place ≡ 4 = let low = waits_open y.place old now polls.gives.1 in let high = polls.gives.0 in let begun = k.begun in omega (arith, low, high, begun) in
    record {
      kept = record { asked = polls.asked ∙ k.asked; channel = k.channel; from = k.from; begun = four; head = polls.heads ∙ k.head; unrefused = k.unrefused };
      later = polls.later;
      answers = refl;
      gives = polls.gives;
      marked = polls.marked;
      stands = λ before stands. subst (λ (g : List ℕ). StandsAt (asked_by s) before g y.place now.talks) (append-nil r.reader.content)
          (stands_by s r.exchange y old now progress.NotReady k.asked polls before r.reader.content stands);
    }

-- ---- a move behind others

pub on_same : (s : SoughtView) (p : Place) (given : List ℕ) (d : DialTells) → rank p < 5 → On s p given d p given d
on_same s p given d less = record { later = later_same d; onward = omega arith; goes_on = less; stands = λ before stands. stands }

pub on_on : (s : SoughtView) (a b c : Place) (f g h : List ℕ) (old at now : DialTells) → On s a f old b g at → On s b g at c h now → On s a f old c h now
on_on s a b c f g h old at now one two = record {
  later = later_later old at now one.later two.later;
  onward = let le = one.onward in let more = two.onward in omega (arith, le, more);
  goes_on = two.goes_on;
  stands = λ before stands. two.stands before (one.stands before stands);
}

module _ (s : SoughtView) (was mid : Place) (given content : List ℕ) (old at now : DialTells) (on : On s was given old mid content at) where
  fault_behind : (f : ExchangeFault) → FaultRises f mid at now → FaultRises f was old now
  fault_behind talk_fault.Dial rises = λ low. rose_from _ _ _ on.later.faults (rises on.goes_on)
  fault_behind talk_fault.Head rises = tt
  fault_behind talk_fault.Interim rises = tt
  fault_behind (talk_fault.Plan f) rises = tt
  fault_behind (talk_fault.Body f) rises = tt

  gives_behind : (is : Place) (r : Recovered) → Gives mid is at now r → Gives was is old now r
  gives_behind is (recovered.Got page) g = g
  gives_behind is recovered.NotReady g = (let le = on.onward in let more = g.0 in omega (arith, le, more), waits_from old at now on.later is g.1)
  gives_behind is (recovered.Failed (fault.Exchange f)) g = (g.0, fault_behind f g.1)
  gives_behind is (recovered.Failed (fault.Code code)) g = tt
  gives_behind is (recovered.Failed fault.Instruct) g = tt
  gives_behind is (recovered.Failed fault.Channel) g = tt
  gives_behind is (recovered.Failed fault.TooLong) g = tt
  gives_behind is recovered.NoMemory g = tt

  pub behind : (next : Next) → Leads s mid content at now next → Leads s was given old now next
  behind next leads = record {
    kept = leads.kept;
    later = later_later old at now on.later leads.later;
    answers = leads.answers;
    gives = gives_behind (place_at s next.stage) next.recovered leads.gives;
    marked = λ mark low. rose_from _ _ _ on.later.ends (leads.marked mark on.goes_on);
    stands = λ before stands. leads.stands before (on.stands before stands);
  }

-- a head or a part came
pub on_polled : (s : SoughtView) (x y : ExchangeView) (given content : List ℕ) (old now : DialTells) (p : Progress) → x.asked ≡ asked_by s → Polls x y old now p → given ++ part_of p ≡ content → rank x.place ≤ rank y.place → rank y.place < 5
    → On s x.place given old y.place content now
on_polled s x y given content old now p asked polls is onward less = record {
  later = polls.later;
  onward = onward;
  goes_on = less;
  stands = λ before stands. subst (λ (g : List ℕ). StandsAt (asked_by s) before g y.place now.talks) is (stands_by s x y old now p asked polls before given stands);
}

-- ---- what is left to read

most_read_most : (b : Bool) → most_by b < 524289
most_read_most true = omega arith
most_read_most false = omega arith

pub content_less : (s : SoughtView) (r : BodyReading) → AsksContent s r → length r.reader.content < 524289
content_less s r k = let short = k.unrefused.short in let most = most_read_most (has_type r.reader.head.fields) in omega (arith, short, most)

-- ---- a poll

-- memory was wanting before the talk began
pub lost_leads : (s : SoughtView) (d : DialTells) → Leads s (place.Unbegun s.request) [] d d (record { stage = Lost; recovered = recovered.NoMemory })
lost_leads s d = record {
  kept = tt;
  later = later_same d;
  answers = refl;
  gives = tt;
  marked = marked_same (place.Unbegun s.request) d;
  stands = λ before stands. stands;
}

module _ (s : SoughtView) (old now : DialTells) (next : Next) where
  pub goes_kept : (t : Stage) → IsKept s t → Goes s t old now next → IsKept s next.stage
  goes_kept (Unbegun u) k g = g.kept
  goes_kept (Heading h) k g = g.kept
  goes_kept (Reading r) k g = g.kept
  goes_kept (Over o) k g = subst (IsKept s) (sym g.same) k
  goes_kept Lost k g = subst (IsKept s) (sym g.same) tt

  pub goes_later : (t : Stage) → Goes s t old now next → DialLater old now
  goes_later (Unbegun u) g = g.later
  goes_later (Heading h) g = g.later
  goes_later (Reading r) g = g.later
  goes_later (Over o) g = subst (DialLater old) (sym g.dial) (later_same old)
  goes_later Lost g = subst (DialLater old) (sym g.dial) (later_same old)

  pub goes_answers : (t : Stage) → Goes s t old now next → IsLive t → next.recovered ≡ answer_at next.stage
  goes_answers (Unbegun u) g live = g.answers
  goes_answers (Heading h) g live = g.answers
  goes_answers (Reading r) g live = g.answers
  goes_answers (Over o) g live = absurd live
  goes_answers Lost g live = absurd live

  pub goes_gives : (t : Stage) → Goes s t old now next → IsLive t → Gives (place_at s t) (place_at s next.stage) old now next.recovered
  goes_gives (Unbegun u) g live = g.gives
  goes_gives (Heading h) g live = g.gives
  goes_gives (Reading r) g live = g.gives
  goes_gives (Over o) g live = absurd live
  goes_gives Lost g live = absurd live

  over_marked : (t : Stage) → next.stage ≡ t → now ≡ old → Marked (place_at s t) (place_at s next.stage) old now
  over_marked t same dial =
      subst (λ (n : Stage). Marked (place_at s t) (place_at s n) old now) (sym same) (subst (Marked (place_at s t) (place_at s t) old) (sym dial) (marked_same (place_at s t) old))

  pub goes_marked : (t : Stage) → Goes s t old now next → Marked (place_at s t) (place_at s next.stage) old now
  goes_marked (Unbegun u) g = g.marked
  goes_marked (Heading h) g = g.marked
  goes_marked (Reading r) g = g.marked
  goes_marked (Over o) g = over_marked (Over o) g.same g.dial
  goes_marked Lost g = over_marked Lost g.same g.dial

  view_same : (t : Stage) → next.stage ≡ t → ◌≡◌ {A = RecoveryView} (record { sought = s; stage = next.stage }) (record { sought = s; stage = t })
  view_same t same = ap (λ (n : Stage). record { sought = s; stage = n }) same

  pub goes_over : (t : Stage) → Goes s t old now next → StaysOver (record { sought = s; stage = t }) (record { sought = s; stage = next.stage }) old now next.recovered
  goes_over (Unbegun u) g = tt
  goes_over (Heading h) g = tt
  goes_over (Reading r) g = tt
  goes_over (Over o) g = record { same = view_same (Over o) g.same; dial = g.dial; answers = g.answers }
  goes_over Lost g = record { same = view_same Lost g.same; dial = g.dial; answers = g.answers }

  over_stands : (t : Stage) → next.stage ≡ t → now ≡ old → (before : List Talk) → IfSome old.talks (IsAt s before t) → IfSome now.talks (IsAt s before next.stage)
  over_stands t same dial before stands =
      subst (λ (n : Stage). IfSome now.talks (IsAt s before n)) (sym same) (subst (λ (d : DialTells). IfSome d.talks (IsAt s before t)) (sym dial) stands)

  pub goes_stands : (t : Stage) → Goes s t old now next → (before : List Talk) → IfSome old.talks (IsAt s before t) → IfSome now.talks (IsAt s before next.stage)
  goes_stands (Unbegun u) g before stands = g.stands before stands
  goes_stands (Heading h) g before stands = g.stands before stands
  goes_stands (Reading r) g before stands = g.stands before stands
  goes_stands (Over o) g before stands = over_stands (Over o) g.same g.dial before stands
  goes_stands Lost g before stands = over_stands Lost g.same g.dial before stands

-- the talk of a recovery that has begun
pub has_talked : (s : SoughtView) (before : List Talk) (t : Stage) (talks : Option Talks) → IfSome talks (IsAt s before t) → 0 < rank (place_at s t) → IfSome talks (HasTalk (asked_by s) before)
has_talked s before (Unbegun u) talks stands begun = absurd (omega (arith, begun))
has_talked s before (Heading h) talks stands begun = talked (asked_by s) before [] h.exchange.place talks begun stands
has_talked s before (Reading r) talks stands begun = talked (asked_by s) before r.reader.content r.exchange.place talks begun stands
has_talked s before (Over o) None stands begun = tt
has_talked s before (Over o) (Some talks) stands begun = record {
  talk = stands.talk;
  all = ap (λ (p : Option Talk). talks.over ++ present_of p) stands.present ∙ append-nil talks.over ∙ stands.over;
  is_talk = stands.is_talk;
}
has_talked s before Lost talks stands begun = absurd (omega (arith, begun))
