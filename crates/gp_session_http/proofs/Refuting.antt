-- What refuses a request, an answer or a page is never so of one that is accepted.
use Rattle.std.proofs.Common.{◌≡◌, ◌≢◌, ℕ, ◌≤◌, ◌<◌, ◌⊎◌, ◌+◌, Bool, true, false, List, [], ◌∷◌, ◌++◌, length, Option, Some, None, IfSome, option_map, refl, sym, ap, ◌∙◌, subst, arith, append-nil, append_assoc, length-append, inl, inr}
use Rattle.std.specs.Prelude.{⊤}
use Rattle.std.specs.declared.snapshot.Snapshot.{Snapshot}
use Rattle.gp_plain.specs.declared.http.Address.{Address}
use Rattle.gp_plain.specs.declared.http.Request.{Request}
use Rattle.gp_plain.specs.declared.http.Response.{Response}
use Rattle.gp_outside.specs.Counts.{Rose}
use Rattle.gp_outside.specs.Talks.{Talk, Talks, all_of, hung_up, present_of}
use Rattle.gp_routes.specs.declared.route.Route.{Route}
use Rattle.gp_routes.specs.declared.route.Rule.{Rule}
use Rattle.gp_routes.specs.Picks.{picked}
use Rattle.gp_ws.specs.Handshakes.{is_upgrade}
use Rattle.gp_hub.specs.declared.outcome.Why.{Why}
use Rattle.gp_hub.specs.declared.outcome.Why.TheVariants as why
use Rattle.gp_instruct.specs.declared.instruct.Instruct.{Instruct}
use Rattle.gp_instruct.specs.declared.instruct.Mode.{Mode}
use Rattle.gp_instruct.specs.declared.instruct.Mode.TheVariants as mode
use Rattle.gp_instruct.specs.Heads.{IsInstruct}
use Rattle.gp_instruct_json.specs.Kinds.{has_type}
use Rattle.gp_instruct_json.specs.Answers.{IsAnswer, IsAnswerBy}
use Rattle.gp_instruct_json.specs.declared.answer.Answer.{Answer}
use Rattle.gp_exchange.specs.Answers.{rank, head_of, IsOverBy}
use Rattle.gp_exchange.specs.Ends.{EndsBody, EndsBy, Ends, Gave, Reads}
use Rattle.gp_exchange.specs.Standing.{IsAt, IsTalk}
use Rattle.gp_exchange.specs.Views.{AskedView, ExchangeView}
use Rattle.gp_exchange.specs.declared.answer.ExchangeFault.{ExchangeFault}
use Rattle.gp_exchange.specs.declared.answer.ExchangeFault.TheVariants as fault
use Rattle.gp_exchange.specs.declared.answer.Last.{Last as ExchangeLast}
use Rattle.gp_exchange.specs.declared.answer.Last.TheVariants as last
use Rattle.gp_exchange.specs.declared.place.Place.{Place}
use Rattle.gp_exchange.specs.declared.place.Place.TheVariants as place
use Rattle.gp_intake.specs.declared.fault.RequestFault.{RequestFault}
use Rattle.gp_intake.specs.declared.fault.RequestFault.TheVariants.{HeadTooLarge, Head, Target, Host, Plan, Chunk, TooLong}
use Rattle.gp_intake.specs.declared.body.Whole.{Whole}
use Rattle.gp_intake.specs.Requests.{IsHeadRefusedBy}
use Rattle.gp_one_request.specs.OneRequest.{RequestLaw}
use Rattle.gp_one_answer.specs.Answers.{AnswerLaw}
use Rattle.gp_session.specs.Lines.{Aim, LineRow, LineStands, LineView, Said, hung}
use Rattle.gp_session_http.specs.declared.cause.Cause.{Cause}
use Rattle.gp_session_http.specs.declared.cause.Cause.TheVariants as cause
use Rattle.gp_session_http.specs.declared.grant.Wish.TheVariants.{Stream, LongStream, Poll, LongPoll, Whole as WholeAnswer}
use Rattle.gp_session_http.specs.Asking.{AsksToGather, FailsBy, FailsByBytes, FailsByContent, FailsByHead, FailsByLength, FailsByOpening, IsOriginFault, is_head}
use Rattle.gp_session_http.specs.Completeness.{HasSuch, IsAccepted, IsGoodFor, IsNeverForwarded, IsReadWithin}
use Rattle.gp_session_http.specs.Routing.{HasRefusedBody, HasUnroutedHead, IsRefusedFor, IsRouted, IsServed, IsUpgrade, host_of}
use Rattle.gp_session_http.specs.Wishes.{AsksNone, AsksPoll, AsksStream, IsWish, most_gathered}

-- requests

unpicked : (o : Option Route) (route : Route) → o ≡ None → o ≡ Some route → ⊥
unpicked o route none some = cc

both_ways : (b : Bool) → b ≡ true → b ≡ false → ⊥
both_ways b yes_is no_is = cc

module _ (law : RequestLaw) (rules : List Rule) where
  head_refutes : (fault : RequestFault) (method received : List ℕ) → IsHeadRefusedBy received fault method → IsNeverForwarded rules received
  head_refutes fault method received refused more w address served = law.head w (received ++ more) fault method served.whole (law.head_stays received more fault method refused)

  body_refutes : (fault : RequestFault) (method received : List ℕ) → HasRefusedBody rules fault method received → IsNeverForwarded rules received
  body_refutes fault method received r more w address served =
      law.body w r.head r.path (received ++ more) fault method served.whole (law.body_stays r.head r.path received more fault method r.refused)

  route_refutes : (method received : List ℕ) → HasUnroutedHead rules cause.Route method received → IsNeverForwarded rules received
  route_refutes method received h more w address served =
      let same = law.early w h.v received more served.whole h.headed in
      unpicked (picked (host_of w.head) w.path rules) served.routed.route
      (subst (λ (path : List ℕ). picked (host_of w.head) path rules ≡ None) same.1 (subst (λ (head : Request). picked (host_of head) h.v.path rules ≡ None) same.0 h.unrouted))
      served.routed.is.picked_is

  upgrade_refutes : (method received : List ℕ) → HasUnroutedHead rules cause.Upgrade method received → IsNeverForwarded rules received
  upgrade_refutes method received h more w address served =
      let same = law.early w h.v received more served.whole h.headed in
      both_ways (is_upgrade w.head) (subst (λ (head : Request). is_upgrade head ≡ true) same.0 h.unrouted.asks) served.routed.is.plain

  pub refused_unforwarded : (c : Cause) (method received : List ℕ) → IsRefusedFor rules c method received → IsNeverForwarded rules received
  refused_unforwarded (cause.Request HeadTooLarge) method received h = head_refutes HeadTooLarge method received h
  refused_unforwarded (cause.Request Head) method received h = head_refutes Head method received h
  refused_unforwarded (cause.Request Target) method received h = head_refutes Target method received h
  refused_unforwarded (cause.Request Host) method received h = head_refutes Host method received h
  refused_unforwarded (cause.Request (Plan f)) method received h = head_refutes (Plan f) method received h
  refused_unforwarded (cause.Request (Chunk at)) method received h = body_refutes (Chunk at) method received h
  refused_unforwarded (cause.Request TooLong) method received h = body_refutes TooLong method received h
  refused_unforwarded cause.Route method received h = route_refutes method received h
  refused_unforwarded cause.Upgrade method received h = upgrade_refutes method received h

-- the talk that was hung up last, and what its bytes say

abbrev pub Read : AskedView → Place → List ℕ → List ℕ → Type 0
Read asked (place.Unbegun request) given received = ⊤
Read asked (place.Connecting request) given received = ⊤
Read asked (place.Sending sending) given received = ⊤
Read asked (place.Heading heading) given received = ⊤
Read asked (place.Reading reading) given received = Reads asked reading.head.value reading.reader (given ++ reading.part) received
Read asked (place.Over over) given received = Ends asked over given received

module _ (asked : AskedView) (before mine : List Talk) (given : List ℕ) (was now : Talks) (now_is : now ≡ hung_up was) (Is : Talk → Type 0) where
  all_hung : (talk : Talk) → all_of was ≡ (before ++ mine) ++ talk ∷ [] → all_of now ≡ before ++ (mine ++ talk ∷ [])
  all_hung talk all = ap all_of now_is ∙ append-nil (all_of was) ∙ all ∙ append_assoc before mine (talk ∷ [])

  such_at : (p : Place) → 4 ≤ rank p → IsAt asked (before ++ mine) given p was → ((talk : Talk) → IsTalk asked talk → Read asked p given talk.received → Is talk) → HasSuch before now Is
  such_at (place.Unbegun request) late at f = absurd (omega (arith, late))
  such_at (place.Connecting request) late at f = absurd (omega (arith, late))
  such_at (place.Sending sending) late at f = absurd (omega (arith, late))
  such_at (place.Heading heading) late at f = absurd (omega (arith, late))
  such_at (place.Reading reading) late at f =
      let talk : Talk = record { to = asked.to; sent = asked.request; received = at.received } in
      record {
        earlier = mine;
        talk = talk;
        later = [];
        all = all_hung talk (ap (λ (ts : List Talk). ts ++ present_of was.present) at.talk.over ∙ ap (λ (o : Option Talk). (before ++ mine) ++ present_of o) at.talk.present);
        is = f talk (record { to = refl; begun = ([], append-nil asked.request); whole = λ some. refl }) at.body;
      }
  such_at (place.Over over) late at f = record {
    earlier = mine;
    talk = at.talk;
    later = [];
    all = all_hung at.talk (ap (λ (o : Option Talk). was.over ++ present_of o) at.present ∙ append-nil was.over ∙ at.over);
    is = f at.talk at.is_talk at.cause;
  }

pub hung_such : (l : LineView) (aims : List Aim) (s : Said) → 4 ≤ rank s.exchange.place → LineRow l aims (hung s) → (Is : Talk → Type 0)
    → ((talk : Talk) → IsTalk s.exchange.asked talk → Read s.exchange.asked s.exchange.place s.given talk.received → Is talk)
    → IfSome l.start.talks (λ (was : Talks). IfSome l.dial.talks (λ (now : Talks). HasSuch was.over now Is))
hung_such l aims s late row Is f = both l.start.talks l.dial.talks row
  where
    such : (before : List Talk) (now : Talks) → LineStands before aims (hung s) now → HasSuch before now Is
    such before now st = such_at s.exchange.asked before st.mine s.given st.stands.was now st.stands.now_is Is s.exchange.place late st.stands.stood f

    both : (o p : Option Talks) → IfSome o (λ (was : Talks). IfSome p (λ (now : Talks). LineStands was.over aims (hung s) now)) → IfSome o (λ (was : Talks). IfSome p (λ (now : Talks). HasSuch was.over now Is))
    both None p r = tt
    both (Some was) None r = tt
    both (Some was) (Some now) r = such was.over now r

-- answers

over_late : (p : Place) (e : ExchangeLast) → IsOverBy e p → 4 ≤ rank p
over_late (place.Unbegun request) e is = absurd is
over_late (place.Connecting request) e is = absurd is
over_late (place.Sending sending) e is = absurd is
over_late (place.Heading heading) e is = absurd is
over_late (place.Reading reading) e is = absurd is
over_late (place.Over over) e is = omega arith

not_dial : (f : ExchangeFault) → IsOriginFault f → f ≢ fault.Dial
not_dial fault.Dial is = absurd is
not_dial fault.Head is = λ e. cc
not_dial fault.Interim is = λ e. cc
not_dial (fault.Plan f) is = λ e. cc
not_dial (fault.Body f) is = λ e. cc

-- no answer both opens with little and with much, or asks for a hold and for none
no_stream : (o : Option Instruct) → AsksStream o → AsksNone o → ⊥
no_stream None s n = s
no_stream (Some i) s n = cc

no_poll : (o : Option Instruct) → AsksPoll o → AsksNone o → ⊥
no_poll None s n = s
no_poll (Some i) s n = cc

one_mode : (o : Option Instruct) → AsksStream o → AsksPoll o → ⊥
one_mode None s p = s
one_mode (Some i) s p = cc

long_within : (a : Answer) → IsWish a LongStream ⊎ IsWish a LongPoll → IsWish a WholeAnswer ⊎ (IsWish a Stream ⊎ IsWish a Poll) → ⊥
long_within a (inl long) (inl is) = no_stream a.instruct long.0 is
long_within a (inl long) (inr (inl is)) = let more = long.1 in let less = is.1 in omega (arith, more, less)
long_within a (inl long) (inr (inr is)) = one_mode a.instruct long.0 is.0
long_within a (inr long) (inl is) = no_poll a.instruct long.0 is
long_within a (inr long) (inr (inl is)) = one_mode a.instruct is.0 long.0
long_within a (inr long) (inr (inr is)) = let more = long.1 in let less = is.1 in omega (arith, more, less)

good_read : (b : Bool) (head : Response) (content : List ℕ) → b ≡ false → IsGoodFor b head content → IsReadWithin head content
good_read true head content no_is g = absurd (both_ways true refl no_is)
good_read false head content no_is g = g

given_head : (snap : Snapshot Response) (head : Response) → Some snap.value ≡ Some head → snap.value ≡ head
given_head snap head e = cc

-- what was given of a body that was being read
gave_of : (a : AskedView) (p : Place) (head : Response) (given received : List ℕ) → rank p ≡ 4 → head_of p ≡ Some head → Read a p given received → (more : List ℕ) × Gave a head (given ++ more) received
gave_of a (place.Unbegun request) head given received four is r = absurd (omega (arith, four))
gave_of a (place.Connecting request) head given received four is r = absurd (omega (arith, four))
gave_of a (place.Sending sending) head given received four is r = absurd (omega (arith, four))
gave_of a (place.Heading heading) head given received four is r = absurd (omega (arith, four))
gave_of a (place.Reading reading) head given received four is r = (reading.part, subst (λ (h : Response). Gave a h (given ++ reading.part) received) (given_head reading.head head is) r.gave)
gave_of a (place.Over over) head given received four is r = absurd (omega (arith, four))

-- and of one that has ended
ends_by : (a : AskedView) (o : Option (Snapshot Response)) (ended : Bool) (head : Response) (given received : List ℕ) → option_map (λ (s : Snapshot Response). s.value) o ≡ Some head → EndsBy a last.End ended o given received → EndsBody a head ended given received
ends_by a None ended head given received is e = absurd e
ends_by a (Some snap) ended head given received is e = subst (λ (h : Response). EndsBody a h ended given received) (given_head snap head is) e

ends_of : (a : AskedView) (p : Place) (head : Response) (given received : List ℕ) → IsOverBy last.End p → head_of p ≡ Some head → Read a p given received → (ended : Bool) × EndsBody a head ended given received
ends_of a (place.Unbegun request) head given received over is r = absurd over
ends_of a (place.Connecting request) head given received over is r = absurd over
ends_of a (place.Sending sending) head given received over is r = absurd over
ends_of a (place.Heading heading) head given received over is r = absurd over
ends_of a (place.Reading reading) head given received over is r = absurd over
ends_of a (place.Over o) head given received over is r = (o.ended, ends_by a o.head o.ended head given received is (subst (λ (e : ExchangeLast). EndsBy a e o.ended o.head given received) over r))

module _ (law : AnswerLaw) (a : AskedView) (given received : List ℕ) where
  pub bytes_refute : (p : Place) (f : ExchangeFault) → IsOverBy (last.Fault f) p → f ≢ fault.Dial → Read a p given received → IsAccepted a received → ⊥
  bytes_refute (place.Unbegun request) f over other r acc = over
  bytes_refute (place.Connecting request) f over other r acc = over
  bytes_refute (place.Sending sending) f over other r acc = over
  bytes_refute (place.Heading heading) f over other r acc = over
  bytes_refute (place.Reading reading) f over other r acc = over
  bytes_refute (place.Over o) f over other r acc =
      law.refused a acc.head acc.ended o.ended acc.content given received o.head f acc.whole other (subst (λ (e : ExchangeLast). EndsBy a e o.ended o.head given received) over r)

  -- of an answer that isn't to HEAD
  module _ (x : ExchangeView) (method : List ℕ) (method_is : a.method ≡ method) (acc : IsAccepted a received) where
    reads : is_head method ≡ false → IsReadWithin acc.head acc.content
    reads get = good_read (is_head a.method) acc.head acc.content (ap is_head method_is ∙ get) acc.good

    length_refutes : FailsByLength method x given → Read a x.place given received → ⊥
    length_refutes f r =
        let g = gave_of a x.place f.head given received f.reading f.has.given r in
        let one = law.one_body a acc.head f.head acc.ended acc.content (given ++ g.0) received acc.whole g.1 in
        let w = reads f.has.gathered.0 in
        let short : length acc.content ≤ most_gathered acc.head = w.short (subst AsksToGather one.0 f.has.gathered.1) in
        let long : most_gathered acc.head < length given = subst (λ (h : Response). most_gathered h < length given) one.0 f.long in
        let count : length given + length g.0 ≡ length acc.content = sym (length-append given g.0) ∙ ap (λ (xs : List ℕ). length xs) one.1 in
        omega (arith, short, long, count)

    ended_same : (head : Response) → IsOverBy last.End x.place → head_of x.place ≡ Some head → Read a x.place given received → (head ≡ acc.head) × (given ≡ acc.content)
    ended_same head over is r = let e = ends_of a x.place head given received over is r in law.one_body a acc.head head acc.ended acc.content given received acc.whole e.1.gave

    opening_refutes : FailsByOpening method x given → Read a x.place given received → ⊥
    opening_refutes f r =
        let one = ended_same f.head f.over f.has.given r in
        let w = reads f.has.gathered.0 in
        let same : f.answer ≡ w.answer = law.one_answer acc.head acc.content f.answer w.answer (subst (λ (xs : List ℕ). IsAnswer acc.head xs f.answer) one.1 (subst (λ (h : Response). IsAnswer h given f.answer) one.0 f.read)) w.read in
        long_within w.answer (subst (λ (b : Answer). IsWish b LongStream ⊎ IsWish b LongPoll) same f.wish) w.within

    content_refutes : FailsByContent method x given → Read a x.place given received → ⊥
    content_refutes f r =
        let one = ended_same f.head f.over f.has.given r in
        let w = reads f.has.gathered.0 in
        law.answer f.head given w.answer (subst (λ (xs : List ℕ). IsAnswer f.head xs w.answer) (sym one.1) (subst (λ (h : Response). IsAnswer h acc.content w.answer) (sym one.0) w.read)) f.refused

    typed_read : (b : Bool) (head : Response) (content : List ℕ) (answer : Answer) → b ≡ false → IsAnswerBy b head content answer → IsInstruct head.fields answer.instruct
    typed_read true head content answer no_is r = absurd (both_ways true refl no_is)
    typed_read false head content answer no_is r = r.instruct

    head_refuted : FailsByHead method x → Read a x.place given received → ⊥
    head_refuted f r =
        let g = gave_of a x.place f.head given received f.reading f.given r in
        let one = law.one_body a acc.head f.head acc.ended acc.content (given ++ g.0) received acc.whole g.1 in
        let w = reads f.get in
        let read : IsAnswer f.head acc.content w.answer = subst (λ (h : Response). IsAnswer h acc.content w.answer) (sym one.0) w.read in
        law.instruct f.head.fields w.answer.instruct f.refused.1.0 (typed_read (has_type f.head.fields) f.head acc.content w.answer f.refused.0 read) f.refused.1.1 f.refused.1.2

-- why there is no answer: the dialer failed, or the bytes that came are none that is accepted
pub data Refutes (l : LineView) (x : ExchangeView) (given : List ℕ) : Type 0 where
  by_dial : Rose l.start.faults l.dial.faults → Refutes l x given
  by_bytes : 4 ≤ rank x.place → ((received : List ℕ) → Read x.asked x.place given received → IsAccepted x.asked received → ⊥) → Refutes l x given

pub failing_refutes : AnswerLaw → (l : LineView) (method : List ℕ) (x : ExchangeView) (given : List ℕ) (y : Why) → x.asked.method ≡ method → FailsBy l method x given y → Refutes l x given
failing_refutes law l method x given why.Nothing same f = absurd f
failing_refutes law l method x given why.Head same f = absurd f
failing_refutes law l method x given why.Body same f = absurd f
failing_refutes law l method x given why.Route same f = absurd f
failing_refutes law l method x given why.Dial same f = by_dial f.faults
failing_refutes law l method x given why.Origin same (inl f) = by_bytes (over_late x.place (last.Fault f.fault) f.over) (λ received r acc. bytes_refute law x.asked given received x.place f.fault f.over (not_dial f.fault f.bytes) r acc)
failing_refutes law l method x given why.Origin same (inr (inl f)) = let four = f.reading in by_bytes (omega (arith, four)) (λ received r acc. length_refutes law x.asked given received x method same acc f r)
failing_refutes law l method x given why.Origin same (inr (inr f)) = by_bytes (over_late x.place last.End f.over) (λ received r acc. opening_refutes law x.asked given received x method same acc f r)
failing_refutes law l method x given why.Instruct same (inl f) = let four = f.reading in by_bytes (omega (arith, four)) (λ received r acc. head_refuted law x.asked given received x method same acc f r)
failing_refutes law l method x given why.Instruct same (inr f) = by_bytes (over_late x.place last.End f.over) (λ received r acc. content_refutes law x.asked given received x method same acc f r)
failing_refutes law l method x given (why.Items at) same f = absurd f
failing_refutes law l method x given why.Full same f = absurd f
