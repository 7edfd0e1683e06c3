-- That a session ends well, or something kept it from that.
use Rattle.std.proofs.Common.{◌≡◌, ◌≢◌, ℕ, zero, suc, ◌≤◌, ◌⊎◌, ◌+◌, ◌==◌, Bool, true, false, cond, List, [], ◌∷◌, ◌++◌, map, Option, Some, None, IfSome, option_map, refl, sym, ap, ◌∙◌, subst, arith, append-nil, append_assoc, inl, inr}
use Rattle.std.specs.Prelude.{⊤, is_some}
use Rattle.std.specs.List.{Contains}
use Rattle.std.specs.Option.{option_map_or, option_to_list}
use Rattle.std.proofs.lemmas.Bool.{eqb-true}
use Rattle.std.proofs.lemmas.List.Elements.{Contains-append_cases, Contains-append_left, Contains-append_right, Contains-push, Contains-push_cases}
use Rattle.gp_plain.specs.Holds.{Held}
use Rattle.gp_plain.specs.History.{held}
use Rattle.gp_plain.specs.Kinds.{may_end}
use Rattle.gp_plain.specs.Others.{Share, share_at, share_of, shares_from}
use Rattle.gp_plain.specs.declared.event.Entry.{Entry}
use Rattle.gp_plain.specs.declared.event.Event.{Event}
use Rattle.gp_plain.specs.declared.event.Event.TheVariants.{Attach, Publish, Take, Page, PageFailed, Push, Join, Leave, Detach}
use Rattle.gp_plain.specs.declared.event.HoldSpec.{HoldSpec}
use Rattle.gp_plain.specs.declared.event.HoldSpec.TheVariants.{Stream as StreamSpec, Plain, Response, Socket}
use Rattle.gp_plain.specs.declared.reply.EndCause.{EndCause}
use Rattle.gp_plain.specs.declared.reply.EndCause.TheVariants as end_cause
use Rattle.gp_plain.specs.declared.http.Response.{Response as HttpResponse}
use Rattle.gp_outside.specs.Counts.{Rose}
use Rattle.gp_outside.specs.Dials.{IsIdle}
use Rattle.gp_outside.specs.Talks.{Talk, Talks, all_of, present_of}
use Rattle.gp_hub.specs.Own.{mine}
use Rattle.gp_hub.specs.Passes.{entry_of}
use Rattle.gp_hub.specs.declared.outcome.SessionEnd.{SessionEnd}
use Rattle.gp_hub.specs.declared.outcome.SessionEnd.TheVariants as end
use Rattle.gp_hub.specs.declared.outcome.Why.{Why}
use Rattle.gp_hub.specs.declared.outcome.Why.TheVariants as why
use Rattle.gp_instruct.specs.Spec.{held_by, only_prev, stream_spec}
use Rattle.gp_instruct.specs.declared.instruct.Instruct.{Instruct}
use Rattle.gp_instruct.specs.declared.instruct.Mode.{Mode}
use Rattle.gp_instruct.specs.declared.instruct.Mode.TheVariants.{Response as PollMode, Stream as StreamMode}
use Rattle.gp_instruct.specs.declared.instruct.Sub.{Sub}
use Rattle.gp_exchange.specs.Answers.{rank, IsOverBy}
use Rattle.gp_exchange.specs.Standing.{IsTalk}
use Rattle.gp_exchange.specs.Views.{ExchangeView}
use Rattle.gp_exchange.specs.declared.answer.ExchangeFault.{ExchangeFault}
use Rattle.gp_exchange.specs.declared.answer.ExchangeFault.TheVariants as fault
use Rattle.gp_exchange.specs.declared.answer.Last.TheVariants as last
use Rattle.gp_exchange.specs.declared.place.Place.{Place}
use Rattle.gp_exchange.specs.declared.place.Place.TheVariants as place
use Rattle.gp_recover.specs.Outcomes.{EndsBy, FailsAt, GivesPage}
use Rattle.gp_recover.specs.Views.{SoughtView, asked_by}
use Rattle.gp_recover.specs.declared.page.Page.{Page as RecoveredPage}
use Rattle.gp_recover.specs.declared.page.PageFault.{PageFault}
use Rattle.gp_recover.specs.declared.page.PageFault.TheVariants as page_fault
use Rattle.gp_recover.specs.declared.recovered.Last.{Last as RecoveryEnd}
use Rattle.gp_recover.specs.declared.recovered.Last.TheVariants.{Got, Failed, NoMemory as Wanting}
use Rattle.gp_one_request.specs.OneRequest.{RequestLaw}
use Rattle.gp_one_answer.specs.Answers.{AnswerLaw}
use Rattle.gp_one_answer.specs.Pages.{PageLaw}
use Rattle.gp_asking.specs.Failing.{FailingLaw}
use Rattle.gp_session.specs.Causes.{HasFailed, HasEnded}
use Rattle.gp_session.specs.Lines.{Aim, AreAimed, IsAimed, Last, LineRow, LineStands, LineView, Said, Sought, aim_sought, hung, idle}
use Rattle.gp_session.specs.Seats.{SeatView}
use Rattle.gp_session.specs.Wires.{RequestRow}
use Rattle.gp_session_hold.specs.Leaves.{stream_end}
use Rattle.gp_session_hold.specs.Rows.{AttachRow, DetachedRow, KeptView, PagesRow, holds_of, page_in, pages_in, share_of_hold, specs_of, told_at}
use Rattle.gp_session_recover.specs.Quests.{FailedByDial, Quest, aims_of as aims_quested, event_by, event_of, events_of}
use Rattle.gp_session_http.specs.declared.asked.Asked.{Asked}
use Rattle.gp_session_http.specs.declared.grant.Grant.{Grant}
use Rattle.gp_session_http.specs.declared.leaving.Parting.{Parting}
use Rattle.gp_session_http.specs.declared.leaving.Parting.TheVariants.{Gone, Wanting as PartsWanting}
use Rattle.gp_session_http.specs.declared.poll.Poll.{Poll}
use Rattle.gp_session_http.specs.declared.stage.Ended.{Ended}
use Rattle.gp_session_http.specs.declared.stage.Stage.{Stage}
use Rattle.gp_session_http.specs.declared.stage.Stage.TheVariants.{ReadingHead, ReadingBody, Refusing, Asking, Gathering, Giving, Failing, Passing, Finishing}
use Rattle.gp_session_http.specs.Asking.{IsAskedFor}
use Rattle.gp_session_http.specs.Completeness.{Completes, Disturbed, EndsWell, HasNoPage, HasRefused, HasSuch, HasTalk, IsAccepted, IsNoPage, IsNeverForwarded, IsUnaccepted, IsUnforwarded, request, short, link, left, dial, answer, page, full, worn, sent, cut, wanting}
use Rattle.gp_session_http.specs.Grants.{AsksFor, hold_by}
use Rattle.gp_session_http.specs.Heard.{HasAttached, IsLastHold, end_of}
use Rattle.gp_session_http.specs.Holding.{Granting, HasRecalled, HeldEnds, HeldFinishes, IsClosed, LeftAs, PollFinishes, Recalled, StreamFinishes, aims_for, alone, recalled, full_sent, full_gone, full_wanting, unattached_wanting, unattached_worn, told_sent, told_gone, told_wanting, kept_worn, leaving_worn, let_go}
use Rattle.gp_session_http.specs.LongPolls.{PartsBy, PollEnds, denied_sent, denied_gone, denied_wanting, unbegun_wanting, unbegun_worn, answered_sent, answered_gone, unput, overflowed, unrepeated, waiting_worn, departed}
use Rattle.gp_session_http.specs.Moves.{EndSays, Finishes, IsReading, IsUnread, ToldAtEnd, why_at}
use Rattle.gp_session_http.specs.Passing.{asked_of}
use Rattle.gp_session_http.specs.Polls.{PhaseFinishes}
use Rattle.gp_session_http.specs.Trace.{Asks, HasEndedBy, IsCutOff, Serves}
use Rattle.gp_session_http.specs.Turns.{Past, Turn, aims_of, specs_before}
use Rattle.gp_session_http.specs.Views.{LiveView}
use Rattle.gp_session_http.specs.Wishes.{AsksStream}
use Rattle.gp_session_http.proofs.Refuting.{Read, Refutes, by_bytes, by_dial, bytes_refute, failing_refutes, hung_such, refused_unforwarded}

-- the laws of what was read, and of a stream whose page can't be had
pub record Laws : Type 0 where
  pub request : RequestLaw
  pub answer : AnswerLaw
  pub page : PageLaw
  pub failing : FailingLaw

request_as : (l : LiveView) (P Q : List ℕ → Type 0) → RequestRow l.wire P → ((received : List ℕ) → P received → Q received) → RequestRow l.wire Q
request_as l P Q r on = record { received = r.received; since = r.since; asks = on r.received r.asks }

-- a session that keeps no hold

module _ (laws : Laws) (l : LiveView) (ended : Ended) where
  -- the answer to what was asked isn't accepted
  refused_by : (asked : Asked) (x : ExchangeView) (given : List ℕ) → RequestRow l.wire (Serves l.charter asked) → IsAskedFor l.charter.signer asked x.asked
      → Past l.line l.charter l.seat l.reports.items asked (hung (record { exchange = x; given = given })) → Refutes l.line x given → Completes l ended
  refused_by asked x given served aim past (by_dial rose) = inr (dial rose)
  refused_by asked x given served aim past (by_bytes late refutes) = inr (answer (record {
    asked = asked;
    request = served;
    view = x.asked;
    asks = aim;
    talk = λ idle_is. hung_such l.line (aims_of past.turns) (record { exchange = x; given = given }) late (past.talks idle_is) (IsUnaccepted x.asked) (λ talk is read. record { talks = is; refused = λ acc. refutes talk.received read acc });
  }))

  cut_off : (x : ExchangeView) (given : List ℕ) → IsCutOff l.line x → Refutes l.line x given
  cut_off x given c = by_fault c.fault refl
    where
      late : (p : Place) (f : ExchangeFault) → p ≡ x.place → 4 ≤ rank p → 4 ≤ rank x.place
      late p f same le = subst (λ (q : Place). 4 ≤ rank q) same le

      over_place : 4 ≤ rank x.place
      over_place = by_place x.place c.over
        where
          by_place : (p : Place) → IsOverBy (last.Fault c.fault) p → 4 ≤ rank p
          by_place (place.Unbegun r) over = absurd over
          by_place (place.Connecting r) over = absurd over
          by_place (place.Sending r) over = absurd over
          by_place (place.Heading r) over = absurd over
          by_place (place.Reading r) over = absurd over
          by_place (place.Over r) over = omega arith

      bytes_of : c.fault ≢ fault.Dial → Refutes l.line x given
      bytes_of other = by_bytes over_place (λ received r acc. bytes_refute laws.answer x.asked given received x.place c.fault c.over other r acc)

      by_fault : (f : ExchangeFault) → c.fault ≡ f → Refutes l.line x given
      by_fault fault.Dial is = by_dial (c.rises is)
      by_fault fault.Head is = bytes_of (λ e. let no : fault.Head ≡ fault.Dial = sym is ∙ e in cc)
      by_fault fault.Interim is = bytes_of (λ e. let no : fault.Interim ≡ fault.Dial = sym is ∙ e in cc)
      by_fault (fault.Plan p) is = bytes_of (λ e. let no : fault.Plan p ≡ fault.Dial = sym is ∙ e in cc)
      by_fault (fault.Body b) is = bytes_of (λ e. let no : fault.Body b ≡ fault.Dial = sym is ∙ e in cc)

  sent_free : (code : ℕ) (stage : Stage) → ended.end ≡ end.Sent code → ended.why ≡ why_at stage → ToldAtEnd (end.Sent code) l stage → EndSays (end.Sent code) l stage → Completes l ended
  sent_free code (ReadingHead s) is y told says = absurd says.1
  sent_free code (ReadingBody s) is y told says = absurd says.1
  sent_free code (Refusing s) is y told says =
      inr (request (request_as l _ (IsNeverForwarded l.charter.rules) told.request (λ received h. refused_unforwarded laws.request l.charter.rules s.cause s.method.value received h)))
  sent_free code (Asking s) is y told says = absurd says.1
  sent_free code (Gathering s) is y told says = absurd says.1
  sent_free code (Giving s) is y told says = inl (sent code is y)
  sent_free code (Failing s) is y told says = refused_by s.asked.value s.exchange.value told.given told.request told.aim told.talks (failing_refutes laws.answer l.line s.asked.value.request.head.method s.exchange.value told.given s.why told.aim.method told.at)
  sent_free code (Passing s) is y told says = absurd says.1
  sent_free code (Finishing s) is y told says = inl (sent code is y)

  cut_free : (c : EndCause) (stage : Stage) → ToldAtEnd (end.Cut c) l stage → EndSays (end.Cut c) l stage → Completes l ended
  cut_free c (ReadingHead s) told says = absurd says.1
  cut_free c (ReadingBody s) told says = absurd says.1
  cut_free c (Refusing s) told says = absurd says.1
  cut_free c (Asking s) told says = absurd says.1
  cut_free c (Gathering s) told says = absurd says.1
  cut_free c (Giving s) told says = absurd says.1
  cut_free c (Failing s) told says = absurd says.1
  cut_free c (Passing s) told says = absurd says.1
  cut_free c (Finishing s) told says =
      refused_by (asked_of s.passed) s.exchange.value told.given told.request told.aim told.talks
      (cut_off s.exchange.value told.given (subst (λ (d : EndCause). HasEndedBy d l.line s.passed s.exchange.value) says.1.1 told.at.ended))

  -- the input ended before the request was whole
  unread_refutes : (stage : Stage) (received : List ℕ) → IsReading stage → IsUnread stage → Asks l.charter stage received → IsUnforwarded l.charter.rules received
  unread_refutes (ReadingHead s) received reads unread asks w address served = laws.request.begun w received served.whole asks.1
  unread_refutes (ReadingBody s) received reads unread asks w address served = laws.request.underway w s.intake received served.whole (record { headed = asks.0; more = unread })
  unread_refutes (Refusing s) received reads unread asks w address served = reads
  unread_refutes (Asking s) received reads unread asks w address served = reads
  unread_refutes (Gathering s) received reads unread asks w address served = reads
  unread_refutes (Giving s) received reads unread asks w address served = reads
  unread_refutes (Failing s) received reads unread asks w address served = reads
  unread_refutes (Passing s) received reads unread asks w address served = reads
  unread_refutes (Finishing s) received reads unread asks w address served = reads

  gone_free : (stage : Stage) → ToldAtEnd end.ClientGone l stage → EndSays end.ClientGone l stage → Completes l ended
  gone_free stage told (inl failed) = inr (link failed)
  gone_free stage told (inr early) = inr (short early.0 (request_as l (Asks l.charter stage) (IsUnforwarded l.charter.rules) told.request (λ received asks. unread_refutes stage received early.1 early.2 asks)))

  free_by : (e : SessionEnd) (stage : Stage) → ended.end ≡ e → ended.why ≡ why_at stage → ToldAtEnd e l stage → EndSays e l stage → Completes l ended
  free_by (end.Sent code) stage is y told says = sent_free code stage is y told says
  free_by (end.Cut c) stage is y told says = cut_free c stage told says
  free_by end.ClientGone stage is y told says = gone_free stage told says
  free_by end.Worn stage is y told says = absurd says
  free_by end.NoMemory stage is y told says = inl (wanting is)

  pub completes_free : Finishes l ended → Completes l ended
  completes_free f = free_by ended.end f.stage refl f.why_is f.told f.says

-- the holds of a session

none_in : {X : Type 0} (x : X) → Contains [] x → ⊥
none_in x (k, lt, at) = absurd (omega (arith, lt))

cons_cases : {X : Type 0} (x y : X) (xs : List X) → Contains (x ∷ xs) y → (x ≡ y) ⊎ Contains xs y
cons_cases x y xs c = by_place (Contains-append_cases (x ∷ []) xs y c)
  where
    by_one : Contains [] y ⊎ (x ≡ y) → (x ≡ y) ⊎ Contains xs y
    by_one (inl never) = absurd (none_in y never)
    by_one (inr same) = inl same

    by_place : Contains (x ∷ []) y ⊎ Contains xs y → (x ≡ y) ⊎ Contains xs y
    by_place (inl one) = by_one (Contains-push_cases [] x y one)
    by_place (inr more) = inr more

pair_first : (p q : ℕ × Share) → p ≡ q → p.0 ≡ q.0
pair_first p q e = ap (λ (r : ℕ × Share). r.0) e

pair_second : (p q : ℕ × Share) → p ≡ q → p.1 ≡ q.1
pair_second p q e = ap (λ (r : ℕ × Share). r.1) e

-- what stands in the list of an owner's holds is the owner's, at its number
record StandsIn (owner k : ℕ) (holds : List Held) (n : ℕ) (x : Share) : Type 0 where
  at : ℕ
  number_is : n ≡ k + at
  there : share_at holds at ≡ Some x
  own : x.owner ≡ owner

further : (owner k : ℕ) (h : Held) (hs : List Held) (n : ℕ) (x : Share) → StandsIn owner (k + 1) hs n x → StandsIn owner k (h ∷ hs) n x
further owner k h hs n x s = record { at = suc s.at; number_is = let e = s.number_is in omega (arith, e); there = s.there; own = s.own }

stands_first : (owner k : ℕ) (h : Held) (hs : List Held) (n : ℕ) (x : Share) → h.owner == owner ≡ true → (e : ◌≡◌ {A = ℕ × Share} (k, share_of h) (n, x)) → StandsIn owner k (h ∷ hs) n x
stands_first owner k h hs n x is e =
    let number : k ≡ n = pair_first (k, share_of h) (n, x) e in
    let share : share_of h ≡ x = pair_second (k, share_of h) (n, x) e in
    record {
      at = 0;
      number_is = omega (arith, number);
      there = ap (λ (y : Share). Some y) share;
      own = subst (λ (y : Share). y.owner ≡ owner) share (eqb-true h.owner owner is);
    }

stands_by : (owner k : ℕ) (h : Held) (hs : List Held) (n : ℕ) (x : Share) (b : Bool) → h.owner == owner ≡ b → (Contains (shares_from owner (k + 1) hs) (n, x) → StandsIn owner k (h ∷ hs) n x)
    → Contains (cond b ((k, share_of h) ∷ shares_from owner (k + 1) hs) (shares_from owner (k + 1) hs)) (n, x) → StandsIn owner k (h ∷ hs) n x
stands_by owner k h hs n x false is later d = later d
stands_by owner k h hs n x true is later d = elim (cons_cases (k, share_of h) (n, x) (shares_from owner (k + 1) hs) d) [
  | inl same ↦ stands_first owner k h hs n x is same
  | inr more ↦ later more
]

stands_in : (owner k : ℕ) (holds : List Held) (n : ℕ) (x : Share) → Contains (shares_from owner k holds) (n, x) → StandsIn owner k holds n x
stands_in owner k [] n x c = absurd (none_in (n, x) c)
stands_in owner k (h ∷ hs) n x c = stands_by owner k h hs n x (h.owner == owner) refl (λ d. further owner k h hs n x (stands_in owner (k + 1) hs n x d)) c

module _ (l : LiveView) (hold : KeptView) (own : IsLastHold l hold) where
  last_stands : StandsIn l.seat.pass.number 0 (held l.seat.pass.seen) hold.number own.share
  last_stands = stands_in l.seat.pass.number 0 (held l.seat.pass.seen) hold.number own.share
      (subst (λ (hs : List (ℕ × Share)). Contains hs (hold.number, own.share)) (sym own.all) (Contains-push own.before (hold.number, own.share)))

  last_there : share_of_hold l.seat hold.number ≡ Some own.share
  last_there = subst (λ (n : ℕ). share_at (held l.seat.pass.seen) n ≡ Some own.share) (let e = last_stands.number_is in omega (arith, e)) last_stands.there

  last_is : (share : Share) → share_of_hold l.seat hold.number ≡ Some share → own.share ≡ share
  last_is share there = let both : Some own.share ≡ Some share = sym last_there ∙ there in cc

  last_spec : (turns : List Turn) (spec : HoldSpec) → specs_of (holds_of l.seat) ≡ specs_before turns ++ spec ∷ [] → own.share.spec ≡ spec
  last_spec turns spec row = last_same (specs_of own.before) (specs_before turns) own.share.spec spec (sym (specs_push own.before) ∙ ap specs_of (sym own.all) ∙ row)
    where
      specs_push : (before : List (ℕ × Share)) → specs_of (before ++ (hold.number, own.share) ∷ []) ≡ specs_of before ++ own.share.spec ∷ []
      specs_push [] = refl
      specs_push (b ∷ bs) = ap (λ (ss : List HoldSpec). b.1.spec ∷ ss) (specs_push bs)

      last_same : (xs ys : List HoldSpec) (x y : HoldSpec) → xs ++ x ∷ [] ≡ ys ++ y ∷ [] → x ≡ y
      last_same [] [] x y e = cc
      last_same [] (z ∷ []) x y e = absurd (let no : [] ≡ y ∷ [] = cc in (cc))
      last_same [] (z ∷ (w ∷ ys)) x y e = absurd (let no : [] ≡ w ∷ (ys ++ y ∷ []) = cc in (cc))
      last_same (z ∷ []) [] x y e = absurd (let no : x ∷ [] ≡ [] = cc in (cc))
      last_same (z ∷ (w ∷ xs)) [] x y e = absurd (let no : w ∷ (xs ++ x ∷ []) ≡ [] = cc in (cc))
      last_same (z ∷ xs) (w ∷ ys) x y e = last_same xs ys x y (let rest : xs ++ x ∷ [] ≡ ys ++ y ∷ [] = cc in rest)

-- what a stream's hold may end by

abbrev IsNoPoll : HoldSpec → Type 0
IsNoPoll (StreamSpec opening channel prev linked) = ⊤
IsNoPoll (Plain opening channels) = ⊤
IsNoPoll (Response channels prev deadline again) = ⊥
IsNoPoll Socket = ⊤

not_detached : (held : HoldSpec) → may_end held end_cause.Detached ≡ true → ⊥
not_detached (StreamSpec opening channel prev linked) may = cc
not_detached (Plain opening channels) may = cc
not_detached (Response channels prev deadline again) may = cc
not_detached Socket may = cc

not_answered : (held : HoldSpec) → IsNoPoll held → may_end held end_cause.Answered ≡ true → ⊥
not_answered (StreamSpec opening channel prev linked) is may = cc
not_answered (Plain opening channels) is may = cc
not_answered (Response channels prev deadline again) is may = is
not_answered Socket is may = cc

not_retried : (held : HoldSpec) → IsNoPoll held → may_end held end_cause.Retry ≡ true → ⊥
not_retried (StreamSpec opening channel prev linked) is may = cc
not_retried (Plain opening channels) is may = cc
not_retried (Response channels prev deadline again) is may = is
not_retried Socket is may = cc

not_timed : (held : HoldSpec) → IsNoPoll held → may_end held end_cause.TimedOut ≡ true → ⊥
not_timed (StreamSpec opening channel prev linked) is may = cc
not_timed (Plain opening channels) is may = cc
not_timed (Response channels prev deadline again) is may = is
not_timed Socket is may = cc

stream_no_poll : (body : List ℕ) (subs : List Sub) (prev : Option (List ℕ)) (linked : Bool) → IsNoPoll (stream_spec body subs prev linked)
stream_no_poll body subs None linked = tt
stream_no_poll body [] (Some prev) linked = tt
stream_no_poll body (sub ∷ more) (Some prev) linked = tt

held_no_poll : (m : Option Mode) (i : Instruct) (body : List ℕ) (now : ℕ) (held : HoldSpec) → m ≡ Some StreamMode → held_by m i body now false ≡ Some held → IsNoPoll held
held_no_poll None i body now held is e = absurd (let no : None ≡ Some StreamMode = is in (cc))
held_no_poll (Some PollMode) i body now held is e = absurd (let no : Some PollMode ≡ Some StreamMode = is in (cc))
held_no_poll (Some StreamMode) i body now held is e =
    let same : stream_spec body i.subs (only_prev i.subs) (is_some i.link) ≡ held = cc in
    subst IsNoPoll same (stream_no_poll body i.subs (only_prev i.subs) (is_some i.link))

by_instruct : (o : Option Instruct) (body : List ℕ) (now : ℕ) (held : HoldSpec) → AsksStream o → hold_by o body now ≡ Some held → IsNoPoll held
by_instruct None body now held asks e = absurd asks
by_instruct (Some i) body now held asks e = held_no_poll i.mode i body now held asks e

-- a page that failed stands among those that the hub was told of

entry_event : (n : ℕ) (e : Entry) (told : Event) → e ≡ entry_of n told → e.event ≡ told
entry_event n e told is = ap (λ (x : Entry). x.event) is

failed_in : (n number : ℕ) (entries : List Entry) → Contains entries (entry_of n (PageFailed number)) → Contains (pages_in entries) (PageFailed number)
failed_in n number [] c = absurd (none_in (entry_of n (PageFailed number)) c)
failed_in n number (e ∷ es) c = elim (cons_cases e (entry_of n (PageFailed number)) es c) [
  | inl same ↦ subst (λ (x : Event). Contains (page_in x ++ pages_in es) (PageFailed number)) (sym (entry_event n e (PageFailed number) same))
      (Contains-append_left (PageFailed number ∷ []) (pages_in es) (PageFailed number) (Contains-push [] (PageFailed number)))
  | inr more ↦ Contains-append_right (page_in e.event) (pages_in es) (PageFailed number) (failed_in n number es more)
]

-- and was told of since a quest failed
record HasFailedQuest (qs : List Quest) : Type 0 where
  quest : Quest
  there : Contains qs quest
  fault : PageFault
  failed : quest.sought.end ≡ Failed fault

one_in : {X : Type 0} (x y : X) → Contains (x ∷ []) y → x ≡ y
one_in x y c = by_place (cons_cases x y [] c)
  where
    by_place : (x ≡ y) ⊎ Contains [] y → x ≡ y
    by_place (inl same) = same
    by_place (inr never) = absurd (none_in y never)

failed_end : (number hold : ℕ) (from : List ℕ) (e : RecoveryEnd) → Contains (event_by hold from e) (PageFailed number) → (f : PageFault) × (e ≡ Failed f)
failed_end number hold from (Got p) c = absurd (let no : Page hold from p.value.to p.value.bytes p.value.then ≡ PageFailed number = one_in _ _ c in (cc))
failed_end number hold from (Failed f) c = (f, refl)
failed_end number hold from Wanting c = absurd (none_in (PageFailed number) c)

quest_failed : (number hold : ℕ) (qs : List Quest) → Contains (events_of hold qs) (PageFailed number) → HasFailedQuest qs
quest_failed number hold [] c = absurd (none_in (PageFailed number) c)
quest_failed number hold (q ∷ qs) c = elim (Contains-append_cases (event_of hold q) (events_of hold qs) (PageFailed number) c) [
  | inl here ↦ (
      let f = failed_end number hold q.sought.sought.from q.sought.end here in
      record { quest = q; there = Contains-append_left (q ∷ []) qs q (Contains-push [] q); fault = f.0; failed = f.1 })
  | inr more ↦ (
      let h = quest_failed number hold qs more in
      record { quest = h.quest; there = Contains-append_right (q ∷ []) qs h.quest h.there; fault = h.fault; failed = h.failed })
]

-- the talk of an aim
record HasAimed (aim : Aim) (talks : List Talk) : Type 0 where
  earlier : List Talk
  talk : Talk
  after : List Talk
  all : talks ≡ earlier ++ talk ∷ after
  is : IsAimed aim talk

aimed_in : (aims : List Aim) (talks : List Talk) (aim : Aim) → AreAimed aims talks → Contains aims aim → HasAimed aim talks
aimed_in [] talks aim are c = absurd (none_in aim c)
aimed_in (a ∷ rest) [] aim are c = absurd are
aimed_in (a ∷ rest) (t ∷ ts) aim are c = elim (cons_cases a aim rest c) [
  | inl same ↦ record { earlier = []; talk = t; after = ts; all = refl; is = subst (λ (x : Aim). IsAimed x t) same are.0 }
  | inr more ↦ (
      let h = aimed_in rest ts aim are.1 more in
      record { earlier = t ∷ h.earlier; talk = h.talk; after = h.after; all = ap (λ (xs : List Talk). t ∷ xs) h.all; is = h.is })
]

quest_aim : (qs : List Quest) (q : Quest) → Contains qs q → Contains (aims_quested qs) (aim_sought q.sought)
quest_aim [] q c = absurd (none_in q c)
quest_aim (r ∷ rs) q c = elim (cons_cases r q rs c) [
  | inl same ↦ subst (λ (x : Quest). Contains (aims_quested (r ∷ rs)) (aim_sought x.sought)) same
      (Contains-append_left (aim_sought r.sought ∷ []) (aims_quested rs) (aim_sought r.sought) (Contains-push [] (aim_sought r.sought)))
  | inr more ↦ Contains-append_right (aim_sought r.sought ∷ []) (aims_quested rs) (aim_sought q.sought) (quest_aim rs q more)
]

such_aimed : (l : LineView) (aims : List Aim) (aim : Aim) → LineRow l aims idle → Contains aims aim → (Is : Talk → Type 0) → ((talk : Talk) → IsAimed aim talk → Is talk)
    → IfSome l.start.talks (λ (was : Talks). IfSome l.dial.talks (λ (now : Talks). HasSuch was.over now Is))
such_aimed l aims aim row c Is f = both l.start.talks l.dial.talks row
  where
    such : (before : List Talk) (now : Talks) → LineStands before aims idle now → HasSuch before now Is
    such before now st =
        let h = aimed_in aims st.mine aim st.aimed c in
        record {
          earlier = h.earlier;
          talk = h.talk;
          later = h.after;
          all = ap (λ (o : Option Talk). now.over ++ present_of o) st.stands.1 ∙ append-nil now.over ∙ st.stands.0 ∙ ap (λ (xs : List Talk). before ++ xs) h.all;
          is = f h.talk h.is;
        }

    both : (o p : Option Talks) → IfSome o (λ (was : Talks). IfSome p (λ (now : Talks). LineStands was.over aims idle now)) → IfSome o (λ (was : Talks). IfSome p (λ (now : Talks). HasSuch was.over now Is))
    both None p r = tt
    both (Some was) None r = tt
    both (Some was) (Some now) r = such was.over now r

-- the bytes of a talk that failed are no page
module _ (law : PageLaw) (s : SoughtView) (at : Place) (received : List ℕ) where
  at_place : (p : Place) (f : ExchangeFault) → f ≢ fault.Dial → FailsAt s f p received → (ended : Bool) (got : RecoveredPage) → GivesPage s ended got received → ⊥
  at_place (place.Unbegun r) f other fails ended got gives = fails
  at_place (place.Connecting r) f other fails ended got gives = fails
  at_place (place.Sending r) f other fails ended got gives = fails
  at_place (place.Heading r) f other fails ended got gives = fails
  at_place (place.Reading r) f other fails ended got gives = fails
  at_place (place.Over over) f other fails ended got gives = law.failed s ended got f over received gives other fails

  no_page : (f : PageFault) → f ≢ page_fault.Exchange fault.Dial → EndsBy s at (Failed f) received → (ended : Bool) (got : RecoveredPage) → GivesPage s ended got received → ⊥
  no_page (page_fault.Exchange f) other e ended got gives = at_place at f (λ is. other (ap page_fault.Exchange is)) e ended got gives
  no_page (page_fault.Code code) other e ended got gives = law.page s ended _ got (page_fault.Code code) received gives e
  no_page page_fault.Instruct other e ended got gives = law.page s ended _ got page_fault.Instruct received gives e
  no_page page_fault.Channel other e ended got gives = law.page s ended _ got page_fault.Channel received gives e
  no_page page_fault.TooLong other e ended got gives = law.page s ended _ got page_fault.TooLong received gives e

data DialFault (f : PageFault) : Type 0 where
  by_dialer : f ≡ page_fault.Exchange fault.Dial → DialFault f
  otherwise : f ≢ page_fault.Exchange fault.Dial → DialFault f

dial_fault : (f : PageFault) → DialFault f
dial_fault (page_fault.Exchange fault.Dial) = by_dialer refl
dial_fault (page_fault.Exchange fault.Head) = otherwise (λ e. cc)
dial_fault (page_fault.Exchange fault.Interim) = otherwise (λ e. cc)
dial_fault (page_fault.Exchange (fault.Plan p)) = otherwise (λ e. cc)
dial_fault (page_fault.Exchange (fault.Body b)) = otherwise (λ e. cc)
dial_fault (page_fault.Code code) = otherwise (λ e. cc)
dial_fault page_fault.Instruct = otherwise (λ e. cc)
dial_fault page_fault.Channel = otherwise (λ e. cc)
dial_fault page_fault.TooLong = otherwise (λ e. cc)

module _ (laws : Laws) (l : LiveView) (ended : Ended) where
  -- a stream ended since its page can't be had
  module _ (g : Grant) (rows : Granting l g) (hold : KeptView) (own : IsLastHold l hold) (told : own.share.told ≡ Some end_cause.Unrecovered) where
    failed_made : Contains (mine l.seat.pass) (entry_of l.seat.pass.number (PageFailed hold.number))
    failed_made = laws.failing.told l.seat.pass hold.number own.share (last_there l hold own) (last_stands l hold own).own told

    failed_paged : (pages : List Event) → PagesRow l.seat pages → Contains pages (PageFailed hold.number)
    failed_paged pages row = subst (λ (es : List Event). Contains es (PageFailed hold.number)) row (failed_in l.seat.pass.number hold.number (mine l.seat.pass) failed_made)

    module _ (number : ℕ) (r : Recalled l g rows number) where
      failing_quest : HasFailedQuest r.qs
      failing_quest = quest_failed hold.number number r.qs
          (subst (λ (es : List Event). Contains es (PageFailed hold.number)) (sym r.row.events) (Contains-append_left r.row.told (option_to_list r.row.untold) (PageFailed hold.number) (failed_paged r.row.told r.row.pages)))

      abbrev quest : Quest
      quest = failing_quest.quest

      no_talk : failing_quest.fault ≢ page_fault.Exchange fault.Dial → HasTalk l.line (IsNoPage quest.sought.sought)
      no_talk other idle_is = such_aimed l.line ((aims_for l g rows ++ aims_quested r.qs) ++ option_to_list r.row.cut) (aim_sought quest.sought) (r.row.talks idle_is)
          (Contains-append_left (aims_for l g rows ++ aims_quested r.qs) (option_to_list r.row.cut) (aim_sought quest.sought)
          (Contains-append_right (aims_for l g rows) (aims_quested r.qs) (aim_sought quest.sought) (quest_aim r.qs quest failing_quest.there)))
          (IsNoPage quest.sought.sought)
          (λ talk is. record {
            talks = record { to = is.to; begun = is.begun; whole = is.whole };
            none = no_page laws.page quest.sought.sought quest.sought.at talk.received failing_quest.fault other (subst (λ (e : RecoveryEnd). EndsBy quest.sought.sought quest.sought.at e talk.received) failing_quest.failed is.came);
          })

      pageless_by : DialFault failing_quest.fault → Completes l ended
      pageless_by (by_dialer is) = inr (dial (r.row.dialed.rises quest failing_quest.there (failing_quest.failed ∙ ap Failed is)))
      pageless_by (otherwise other) = inr (page (record { grant = g; rows = rows; hold = number; recalled = r; quest = quest; there = failing_quest.there; talk = no_talk other }))

    unrecovered : HasRecalled l g rows → Completes l ended
    unrecovered (alone before none) = absurd (none_in (PageFailed hold.number) (failed_paged [] none))
    unrecovered (recalled last own_last r) = pageless_by last.number r (dial_fault (failing_quest last.number r).fault)

  told_here : (hold : KeptView) (own : IsLastHold l hold) (cause : EndCause) → own.share.told ≡ Some cause → told_at l.seat hold.number ≡ Some cause
  told_here hold own cause told = ap (λ (o : Option Share). option_map_or (λ (x : Share). x.told) o None) (last_there l hold own) ∙ told

  stream_ended : (g : Grant) (rows : Granting l g) (turns : List Turn) (hold : KeptView) (cause : EndCause) → HasRecalled l g rows → IsClosed l turns g hold cause → ended.end ≡ stream_end g.code cause → ended.why ≡ why.Nothing → Completes l ended
  stream_ended g rows turns hold cause talks is e y = by_cause cause may e told
    where
      same : is.own.share ≡ is.finished.share
      same = last_is l hold is.own is.finished.share is.finished.is.there

      told : is.own.share.told ≡ Some cause
      told = ap (λ (x : Share). x.told) same ∙ is.finished.is.told_is

      may : may_end is.attached.spec cause ≡ true
      may = ap (λ (x : HoldSpec). may_end x cause) (sym (last_spec l hold is.own turns is.attached.spec is.attached.attaches.holds) ∙ ap (λ (x : Share). x.spec) same) ∙ is.finished.cause_is

      streams : IsNoPoll is.attached.spec
      streams = by_instruct g.answer.value.instruct g.answer.value.body g.asked.value.moment is.attached.spec rows.is.wish.0 is.attached.spec_is

      by_cause : (c : EndCause) → may_end is.attached.spec c ≡ true → ended.end ≡ stream_end g.code c → is.own.share.told ≡ Some c → Completes l ended
      by_cause end_cause.Closed m ends t = inl (sent g.code ends y)
      by_cause end_cause.Detached m ends t = absurd (not_detached is.attached.spec m)
      by_cause end_cause.Gap m ends t = inl (cut hold.number end_cause.Gap (told_here hold is.own end_cause.Gap t) tt ends y)
      by_cause end_cause.Unrecovered m ends t = unrecovered g rows hold is.own t talks
      by_cause end_cause.Overflow m ends t = inl (cut hold.number end_cause.Overflow (told_here hold is.own end_cause.Overflow t) tt ends y)
      by_cause end_cause.Answered m ends t = absurd (not_answered is.attached.spec streams m)
      by_cause end_cause.Retry m ends t = absurd (not_retried is.attached.spec streams m)
      by_cause end_cause.TimedOut m ends t = absurd (not_timed is.attached.spec streams m)

  stream_left : (g : Grant) (hold : KeptView) (parting : Parting) → LeftAs parting l g hold → DetachedRow true l.seat hold.number → ended.end ≡ end_of parting → Completes l ended
  stream_left g hold Gone s detached is = by_cause s.gone
    where
      by_cause : HasFailed l.wire ⊎ HasEnded l.wire → Completes l ended
      by_cause (inl failed) = inr (link failed)
      by_cause (inr over) = inr (left true hold.number detached over)
  stream_left g hold PartsWanting s detached is = inl (wanting is)

  held_stream : (g : Grant) (rows : Granting l g) (turns : List Turn) → HasRecalled l g rows → (e : SessionEnd) (y : Why) → ended.end ≡ e → ended.why ≡ y → HeldEnds l turns g e y → Completes l ended
  held_stream g rows turns talks e y is because (full_sent h bytes rest) = inr (full _ h.spec h.attaches)
  held_stream g rows turns talks e y is because (full_gone h bytes failed) = inr (link failed)
  held_stream g rows turns talks e y is because (full_wanting h bytes) = inl (wanting is)
  held_stream g rows turns talks e y is because (unattached_wanting h) = inl (wanting is)
  held_stream g rows turns talks e y is because (unattached_worn h bad) = inr (worn bad)
  held_stream g rows turns talks e y is because (told_sent hold cause h rest) = stream_ended g rows turns hold cause talks h is because
  held_stream g rows turns talks e y is because (told_gone hold cause h failed) = inr (link failed)
  held_stream g rows turns talks e y is because (told_wanting hold cause h) = inl (wanting is)
  held_stream g rows turns talks e y is because (kept_worn hold attached own s bad) = inr (worn bad)
  held_stream g rows turns talks e y is because (leaving_worn hold parting attached own s bad) = inr (worn bad)
  held_stream g rows turns talks e y is because (let_go hold parting attached own detached s) = stream_left g hold parting s detached is

  -- a long poll

  poll_left : (hold : KeptView) (parting : Parting) → PartsBy parting l → DetachedRow false l.seat hold.number → ended.end ≡ end_of parting → Completes l ended
  poll_left hold Gone (inl failed) detached is = inr (link failed)
  poll_left hold Gone (inr over) detached is = inr (left false hold.number detached over)
  poll_left hold PartsWanting by detached is = inl (wanting is)

  held_poll : (p : Poll) (turns : List Turn) (e : SessionEnd) (y : Why) → ended.end ≡ e → ended.why ≡ y → PollEnds l turns p e y → Completes l ended
  held_poll p turns e y is because (denied_sent h bytes rest) = inr (full _ h.spec h.attaches)
  held_poll p turns e y is because (denied_gone h bytes failed) = inr (link failed)
  held_poll p turns e y is because (denied_wanting h bytes) = inl (wanting is)
  held_poll p turns e y is because (unbegun_wanting h) = inl (wanting is)
  held_poll p turns e y is because (unbegun_worn h bad) = inr (worn bad)
  held_poll p turns e y is because (answered_sent hold cause code h rest) = inl (sent code is because)
  held_poll p turns e y is because (answered_gone hold cause code h failed) = inr (link failed)
  held_poll p turns e y is because (unput hold cause h) = inl (wanting is)
  held_poll p turns e y is because (overflowed hold h rest) =
      inl (cut hold.number end_cause.Overflow (ap (λ (o : Option Share). option_map_or (λ (x : Share). x.told) o None) h.is.ended.is.there ∙ h.is.ended.is.told_is) tt is because)
  held_poll p turns e y is because (unrepeated r h) = inl (wanting is)
  held_poll p turns e y is because (waiting_worn now hold attached own s bad) = inr (worn bad)
  held_poll p turns e y is because (departed now hold parting share attached own detached over asked_for bytes by) = poll_left hold parting by detached is

  completes_held : HeldFinishes l ended → Completes l ended
  completes_held h = by_kind h.by
    where
      by_kind : StreamFinishes l ended ⊎ PollFinishes l ended → Completes l ended
      by_kind (inl s) = held_stream s.grant s.rows s.rows.heard.turns s.talks ended.end ended.why refl refl s.says
      by_kind (inr p) = held_poll p.poll p.rows.heard.turns ended.end ended.why refl refl p.says

  pub completes : PhaseFinishes l ended → Completes l ended
  completes (inl f) = completes_free laws l ended f
  completes (inr h) = completes_held h
