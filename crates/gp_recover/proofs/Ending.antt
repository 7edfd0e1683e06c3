-- How the talk of a recovery ends.
use Rattle.std.proofs.Common.{◌≡◌, ℕ, inl, inr, List, [], ◌∷◌, ◌++◌, Option, Some, None, option_map, refl, sym, ap, ◌∙◌, subst, arith, append-nil, append_assoc}
use Rattle.std.specs.Prelude.{IfSome}
use Rattle.std.specs.declared.snapshot.Snapshot.{Snapshot}
use Rattle.gp_plain.specs.declared.http.Response.{Response}
use Rattle.gp_outside.specs.Dials.{DialTells, DialLater, after_hang_up}
use Rattle.gp_outside.specs.Talks.{Talk, Talks, all_of, hung_up}
use Rattle.gp_exchange.specs.Answers.{IsOverBy, Marked, head_of, is_marked, rank}
use Rattle.gp_exchange.specs.Ends.{Ends, EndsBy as ExchangeEndsBy, EndsBody, Gave}
use Rattle.gp_exchange.specs.Standing.{StandsAt, part_of}
use Rattle.gp_exchange.specs.Views.{AskedView, ExchangeView}
use Rattle.gp_exchange.specs.declared.answer.ExchangeFault.{ExchangeFault}
use Rattle.gp_exchange.specs.declared.answer.Last.{Last as ExchangeLast}
use Rattle.gp_exchange.specs.declared.answer.Last.TheVariants as ended
use Rattle.gp_exchange.specs.declared.answer.Progress.{Progress}
use Rattle.gp_exchange.specs.declared.answer.Progress.TheVariants as progress
use Rattle.gp_exchange.specs.declared.place.Over.{Over as ExchangeOver}
use Rattle.gp_exchange.specs.declared.place.Place.{Place}
use Rattle.gp_exchange.specs.declared.place.Place.TheVariants as place
use Rattle.gp_exchange.proofs.Leading.{later_hung_up}
use Rattle.gp_recover.specs.Pages.{IsFaultOf, IsPageOf}
use Rattle.gp_recover.specs.Reading.{IsUnread}
use Rattle.gp_recover.specs.Outcomes.{EndsBy, FailsAt, IsUnrefused, RefusesPage}
use Rattle.gp_recover.specs.Standing.{IsAt, IsOver}
use Rattle.gp_recover.specs.Views.{SoughtView, answer_at, asked_by, place_at, told}
use Rattle.gp_recover.specs.Moves.{Gives, IsEnd, IsGiven, IsKept, IsRefusal, Leads, Polls}
use Rattle.gp_recover.specs.declared.page.Page.{Page}
use Rattle.gp_recover.specs.declared.page.PageFault.{PageFault}
use Rattle.gp_recover.specs.declared.page.PageFault.TheVariants as fault
use Rattle.gp_recover.specs.declared.reader.Unread.{Unread}
use Rattle.gp_recover.specs.declared.reader.Unread.TheVariants as unread
use Rattle.gp_recover.specs.declared.recovered.Last.{Last}
use Rattle.gp_recover.specs.declared.recovered.Last.TheVariants as last
use Rattle.gp_recover.specs.declared.recovered.Recovered.{Recovered}
use Rattle.gp_recover.specs.declared.recovered.Recovered.TheVariants as recovered
use Rattle.gp_recover.specs.declared.stage.Next.{Next}
use Rattle.gp_recover.specs.declared.stage.Stage.{Stage}

-- a poll of the exchange, by what is sought
pub stands_by : (s : SoughtView) (x y : ExchangeView) (old now : DialTells) (p : Progress) → x.asked ≡ asked_by s → Polls x y old now p → (before : List Talk) (given : List ℕ)
    → StandsAt (asked_by s) before given x.place old.talks → StandsAt (asked_by s) before (given ++ part_of p) y.place now.talks
stands_by s x y old now p asked polls before given stands =
    subst (λ (a : AskedView). StandsAt a before (given ++ part_of p) y.place now.talks) (polls.asked ∙ asked)
    (polls.stands before given (subst (λ (a : AskedView). StandsAt a before given x.place old.talks) (sym asked) stands))

-- the end of a recovery, of which the last answer and the place are known
module _ (s : SoughtView) (was : Place) (given : List ℕ) (old now : DialTells) (y : ExchangeView) (last : Last) where
  pub record EndsSo : Type 0 where
    pub later : DialLater old now
    pub gives : Gives was y.place old now (told last)
    pub marked : Marked was y.place old now
    pub given_is : IsGiven s last
    pub stands : (before : List Talk) → StandsAt (asked_by s) before given was old.talks → IfSome now.talks (IsOver s before y.place last)

  pub end_leads : EndsSo → (next : Next) → IsEnd y last next → Leads s was given old now next
  end_leads so next e =
      let at : place_at s next.stage ≡ y.place = ap (place_at s) e.stage ∙ ap (λ (x : ExchangeView). x.place) e.exchange in
      record {
        kept = subst (IsKept s) (sym e.stage) (subst (IsGiven s) (sym e.ends) so.given_is);
        later = so.later;
        answers = e.recovered ∙ ap told (sym e.ends) ∙ sym (ap answer_at e.stage);
        gives = subst (λ (p : Place). Gives was p old now next.recovered) (sym at) (subst (λ (r : Recovered). Gives was y.place old now r) (sym e.recovered) so.gives);
        marked = subst (λ (p : Place). Marked was p old now) (sym at) so.marked;
        stands = λ before stands.
            subst (λ (t : Stage). IfSome now.talks (IsAt s before t)) (sym e.stage)
            (subst (λ (x : ExchangeView). IfSome now.talks (IsOver s before x.place e.over.last)) (sym e.exchange)
            (subst (λ (l : Last). IfSome now.talks (IsOver s before y.place l)) (sym e.ends) (so.stands before stands)));
      }

-- where the exchange is over, its end is the cause
over_at : (s : SoughtView) (before : List Talk) (given : List ℕ) (last : Last) (e : ExchangeLast) (p : Place) → IsOverBy e p
    → ((o : ExchangeOver) → p ≡ place.Over o → o.last ≡ e → (received : List ℕ) → Ends (asked_by s) o given received → EndsBy s p last received)
    → (talks : Option Talks) → StandsAt (asked_by s) before given p talks → IfSome talks (IsOver s before p last)
over_at s before given last e (place.Unbegun request) over cause talks stands = absurd over
over_at s before given last e (place.Connecting request) over cause talks stands = absurd over
over_at s before given last e (place.Sending sending) over cause talks stands = absurd over
over_at s before given last e (place.Heading heading) over cause talks stands = absurd over
over_at s before given last e (place.Reading reading) over cause talks stands = absurd over
over_at s before given last e (place.Over o) over cause None stands = tt
over_at s before given last e (place.Over o) over cause (Some talks) stands =
    record { talk = stands.talk; over = stands.over; present = stands.present; is_talk = stands.is_talk; cause = cause o refl over stands.talk.received stands.cause }

-- an exchange that was polled to its end
module _ (s : SoughtView) (x y : ExchangeView) (given : List ℕ) (old now : DialTells) (asked : x.asked ≡ asked_by s) where
  all_given : (p : Progress) → part_of p ≡ [] → Polls x y old now p → (before : List Talk) → StandsAt (asked_by s) before given x.place old.talks → StandsAt (asked_by s) before given y.place now.talks
  all_given p none polls before stands =
      subst (λ (g : List ℕ). StandsAt (asked_by s) before g y.place now.talks) (ap (λ (part : List ℕ). given ++ part) none ∙ append-nil given) (stands_by s x y old now p asked polls before given stands)

  -- by a fault of the talk
  fault_cause : (f : ExchangeFault) → IsUnrefused s (head_of y.place) given → (o : ExchangeOver) → y.place ≡ place.Over o → o.last ≡ ended.Fault f → (received : List ℕ) → Ends (asked_by s) o given received
      → EndsBy s y.place (last.Failed (fault.Exchange f)) received
  fault_cause f unrefused o is ends received cause =
      subst (λ (p : Place). FailsAt s f p received) (sym is)
      (record { content = given; last = ends; ends = cause; unrefused = subst (λ (p : Place). IsUnrefused s (head_of p) given) is unrefused })

  pub fault_so : (f : ExchangeFault) → IsUnrefused s (head_of x.place) given → Polls x y old now (progress.Fault f) → EndsSo s x.place given old now y (last.Failed (fault.Exchange f))
  fault_so f unrefused polls = record {
    later = polls.later;
    gives = polls.gives;
    marked = polls.marked;
    given_is = tt;
    stands = λ before stands. over_at s before given _ (ended.Fault f) y.place polls.gives.0 (fault_cause f (subst (λ (h : Option Response). IsUnrefused s h given) (sym polls.heads) unrefused)) now.talks
        (all_given (progress.Fault f) refl polls before stands);
  }

  -- for want of memory
  pub lost_so : Polls x y old now progress.NoMemory → EndsSo s x.place given old now y last.NoMemory
  lost_so polls = record {
    later = polls.later;
    gives = tt;
    marked = polls.marked;
    given_is = tt;
    stands = λ before stands. over_at s before given _ ended.NoMemory y.place polls.gives (λ o is ends received cause. tt) now.talks (all_given progress.NoMemory refl polls before stands);
  }

-- the whole body of an answer with a head
body_of : (a : AskedView) (head : Response) (o : ExchangeOver) (l : ExchangeLast) (given received : List ℕ) → o.last ≡ l → l ≡ ended.End → head_of (place.Over o) ≡ Some head → Ends a o given received → EndsBody a head o.ended given received
body_of a head o l given received is ends has cause = by_head o.head has (subst (λ (e : ExchangeLast). ExchangeEndsBy a e o.ended o.head given received) (is ∙ ends) cause)
  where
    by_head : (h : Option (Snapshot Response)) → option_map (λ (x : Snapshot Response). x.value) h ≡ Some head → ExchangeEndsBy a ended.End o.ended h given received → EndsBody a head o.ended given received
    by_head None has ends = absurd ends
    by_head (Some h) has ends = let same : h.value ≡ head = cc in subst (λ (r : Response). EndsBody a r o.ended given received) same ends

-- a fault of a page isn't one of the talk
refuses : (s : SoughtView) (p : Place) (f : PageFault) (received : List ℕ) → RefusesPage s (is_marked p) f received → EndsBy s p (last.Failed f) received
refuses s p (fault.Exchange f) received r = absurd r.refused
refuses s p (fault.Code code) received r = r
refuses s p fault.Instruct received r = r
refuses s p fault.Channel received r = r
refuses s p fault.TooLong received r = r

refused_gives : (head : Response) (content channel from : List ℕ) (was is : Place) (old now : DialTells) (f : PageFault) → IsFaultOf head content channel from f → Gives was is old now (recovered.Failed f)
refused_gives head content channel from was is old now (fault.Exchange f) by = absurd by
refused_gives head content channel from was is old now (fault.Code code) by = tt
refused_gives head content channel from was is old now fault.Instruct by = tt
refused_gives head content channel from was is old now fault.Channel by = tt
refused_gives head content channel from was is old now fault.TooLong by = tt

-- an answer that is whole
module _ (s : SoughtView) (x y : ExchangeView) (head : Response) (given : List ℕ) (old now : DialTells) (asked : x.asked ≡ asked_by s) (has : head_of x.place ≡ Some head) (polls : Polls x y old now progress.End) where
  abbrev IsWhole : Place → List ℕ → Type 0
  IsWhole p received = EndsBody (asked_by s) head (is_marked p) given received

  whole_at : (last : Last) → ((received : List ℕ) → IsWhole y.place received → EndsBy s y.place last received) → (before : List Talk) → StandsAt (asked_by s) before given x.place old.talks → IfSome now.talks (IsOver s before y.place last)
  whole_at last cause before stands =
      over_at s before given last ended.End y.place polls.gives.1
      (λ o is ends received by. cause received (subst (λ (p : Place). EndsBody (asked_by s) head (is_marked p) given received) (sym is)
      (body_of (asked_by s) head o o.last given received refl ends (ap head_of (sym is) ∙ polls.heads ∙ has) by)))
      now.talks (all_given s x y given old now asked progress.End refl polls before stands)

  pub page_so : (page : Snapshot Page) → IsPageOf head given s.channel s.from page.value → EndsSo s x.place given old now y (last.Got page)
  page_so page is = record {
    later = polls.later;
    gives = polls.gives.1;
    marked = polls.marked;
    given_is = record { head = head; content = given; is = is };
    stands = whole_at (last.Got page) (λ received ends. record { head = head; content = given; ends = ends; page_is = is });
  }

  pub none_so : (f : PageFault) → IsFaultOf head given s.channel s.from f → EndsSo s x.place given old now y (last.Failed f)
  none_so f is = record {
    later = polls.later;
    gives = refused_gives head given s.channel s.from x.place y.place old now f is;
    marked = polls.marked;
    given_is = tt;
    stands = whole_at (last.Failed f) (λ received ends. refuses s y.place f received (record { head = head; content = given; gave = ends.gave; refused = is; decided = inl ends }));
  }

  pub whole_lost : EndsSo s x.place given old now y last.NoMemory
  whole_lost = record { later = polls.later; gives = tt; marked = polls.marked; given_is = tt; stands = whole_at last.NoMemory (λ received ends. tt) }

-- the talk is hung up while the body is read
unmarked : (was p : Place) (old now : DialTells) → rank p ≡ 4 → Marked was p old now
unmarked was (place.Unbegun request) old now four = λ mark low. absurd (omega (arith, four))
unmarked was (place.Connecting request) old now four = λ mark low. absurd (omega (arith, four))
unmarked was (place.Sending sending) old now four = λ mark low. absurd (omega (arith, four))
unmarked was (place.Heading heading) old now four = λ mark low. absurd (omega (arith, four))
unmarked was (place.Reading reading) old now four = λ mark low. absurd cc
unmarked was (place.Over over) old now four = λ mark low. absurd (omega (arith, four))

hung_at : (s : SoughtView) (before : List Talk) (head : Response) (given : List ℕ) (last : Last) (p : Place) → rank p ≡ 4 → head_of p ≡ Some head
    → ((more received : List ℕ) → Gave (asked_by s) head (given ++ more) received → EndsBy s p last received)
    → (talks : Option Talks) → StandsAt (asked_by s) before given p talks → IfSome (option_map hung_up talks) (IsOver s before p last)
hung_at s before head given last (place.Unbegun request) four has cause talks stands = absurd (omega (arith, four))
hung_at s before head given last (place.Connecting request) four has cause talks stands = absurd (omega (arith, four))
hung_at s before head given last (place.Sending sending) four has cause talks stands = absurd (omega (arith, four))
hung_at s before head given last (place.Heading heading) four has cause talks stands = absurd (omega (arith, four))
hung_at s before head given last (place.Over over) four has cause talks stands = absurd (omega (arith, four))
hung_at s before head given last (place.Reading r) four has cause None stands = tt
hung_at s before head given last (place.Reading r) four has cause (Some talks) stands =
    let same : r.head.value ≡ head = cc in
    record {
      talk = record { to = s.to; sent = s.request; received = stands.received };
      over = ap (λ (o : Option Talk). all_of (record { over = talks.over; present = o })) stands.talk.present ∙ ap (λ (ts : List Talk). ts ++ record { to = s.to; sent = s.request; received = stands.received } ∷ []) stands.talk.over;
      present = refl;
      is_talk = record { to = refl; begun = ([], append-nil s.request); whole = λ some. refl };
      cause = cause r.part stands.received (subst (λ (h : Response). Gave (asked_by s) h (given ++ r.part) stands.received) same stands.body.gave);
    }

module _ (s : SoughtView) (x y : ExchangeView) (head : Response) (given : List ℕ) (old at : DialTells) (four : rank y.place ≡ 4) (has : head_of y.place ≡ Some head) (later : DialLater old at) where
  pub refused_so : (was : Place) (first : List ℕ) → ((before : List Talk) → StandsAt (asked_by s) before first was old.talks → StandsAt (asked_by s) before given y.place at.talks)
      → (f : PageFault) → ((rest : List ℕ) → IsFaultOf head (given ++ rest) s.channel s.from f) → EndsSo s was first old (after_hang_up at) y (last.Failed f)
  refused_so was first comes f unread = record {
    later = later_hung_up old at later;
    gives = refused_gives head (given ++ []) s.channel s.from was y.place old (after_hang_up at) f (unread []);
    marked = unmarked was y.place old (after_hang_up at) four;
    given_is = tt;
    stands = λ before stands. hung_at s before head given (last.Failed f) y.place four has
        (λ more received gave. refuses s y.place f received (record {
          head = head;
          content = given ++ more;
          gave = gave;
          refused = unread more;
          decided = inr (λ rest. subst (λ (c : List ℕ). IsFaultOf head c s.channel s.from f) (sym (append_assoc given more rest)) (unread (more ++ rest)));
        }))
        at.talks (comes before stands);
  }

  pub hung_lost : (was : Place) (first : List ℕ) → ((before : List Talk) → StandsAt (asked_by s) before first was old.talks → StandsAt (asked_by s) before given y.place at.talks)
      → EndsSo s was first old (after_hang_up at) y last.NoMemory
  hung_lost was first comes = record {
    later = later_hung_up old at later;
    gives = tt;
    marked = unmarked was y.place old (after_hang_up at) four;
    given_is = tt;
    stands = λ before stands. hung_at s before head given last.NoMemory y.place four has (λ more received gave. tt) at.talks (comes before stands);
  }

  pub refusal_leads : (was : Place) (first : List ℕ) → ((before : List Talk) → StandsAt (asked_by s) before first was old.talks → StandsAt (asked_by s) before given y.place at.talks)
      → (u : Unread) → IsUnread head given s.channel s.from u → (next : Next) → IsRefusal y u next → Leads s was first old (after_hang_up at) next
  refusal_leads was first comes (unread.Refused f) cause next e = end_leads s was first old (after_hang_up at) y (last.Failed f) (refused_so was first comes f cause) next e
  refusal_leads was first comes unread.NoMemory cause next e = end_leads s was first old (after_hang_up at) y last.NoMemory (hung_lost was first comes) next e
