-- What asking an origin does to the rows of a session.
use Rattle.std.proofs.Common.{◌≡◌, ℕ, ◌<◌, ◌≤◌, List, [], ◌++◌, Some, None, refl, sym, ap, ◌∙◌, subst, arith, append-nil, ◌⊎◌, inl, inr}
use Rattle.gp_plain.specs.declared.http.Address.{Address}
use Rattle.gp_plain.specs.declared.http.Response.{Response}
use Rattle.gp_outside.specs.Counts.{Rose}
use Rattle.gp_outside.specs.Dials.{DialTells}
use Rattle.gp_outside.specs.Links.{LinkTells}
use Rattle.gp_hub.specs.declared.outcome.SessionEnd.TheVariants as end
use Rattle.gp_hub.specs.declared.outcome.Why.{Why}
use Rattle.gp_hub.specs.declared.outcome.Why.TheVariants as why
use Rattle.gp_head.specs.Writable.{IsFieldValue}
use Rattle.gp_forward.specs.Conditions.{ForwardLaw}
use Rattle.gp_intake.specs.declared.body.Whole.{Whole}
use Rattle.gp_intake.proofs.Asking.{none_begun}
use Rattle.gp_exchange.specs.Views.{ExchangeView}
use Rattle.gp_exchange.specs.Answers.{rank, head_of, IsOverBy, ReadsBodyOf, Gives, Waits}
use Rattle.gp_exchange.specs.declared.answer.Progress.TheVariants.{Fault, NotReady}
use Rattle.gp_exchange.proofs.Causes.{rose_from}
use Rattle.gp_exchange.specs.declared.answer.ExchangeFault.{ExchangeFault}
use Rattle.gp_exchange.specs.declared.answer.ExchangeFault.TheVariants as fault
use Rattle.gp_exchange.specs.declared.answer.Last.{Last as ExchangeLast}
use Rattle.gp_exchange.specs.declared.place.Place.{Place}
use Rattle.gp_exchange.specs.declared.place.Place.TheVariants as place
use Rattle.gp_outbox.specs.declared.outbox.Flushed.{Flushed}
use Rattle.gp_session.specs.Wires.{WireView, Flushes}
use Rattle.gp_session.specs.Lines.{Aim, LineView, MovedLine, LineRow, Last, idle, speaking, hung}
use Rattle.gp_session.specs.Watches.{WatchView, WatchRow, Uses, Asks as AsksClock}
use Rattle.gp_session.proofs.Lining.{begins_talk, is_hung}
use Rattle.gp_session.proofs.Moving.{request_same, sent_same, sent_put, sent_flushed, later_put}
use Rattle.gp_session_http.specs.declared.asked.Asked.{Asked}
use Rattle.gp_session_http.specs.declared.asking.Asking.{Asking as AskingStage}
use Rattle.gp_session_http.specs.declared.failing.Failing.{Failing as FailingStage}
use Rattle.gp_session_http.specs.declared.reading_head.ReadingHead.{ReadingHead as HeadStage}
use Rattle.gp_session_http.specs.declared.stage.Stage.TheVariants.{ReadingHead, Asking, Failing}
use Rattle.gp_session_http.specs.declared.stage.Ended.{Ended}
use Rattle.gp_session_http.specs.declared.stage.Next.TheVariants.{Go, Wait, End}
use Rattle.gp_answer.specs.declared.refusal.Refusal.TheVariants.{BadGateway}
use Rattle.gp_session_http.specs.Routing.{Charter, IsServed, refusal_text}
use Rattle.gp_session_http.specs.Asking.{IsAskedFor, BeginsFor, IsAskable, ExpectsHead, IsUnpassed, FailsBy, why_failed}
use Rattle.gp_session_http.specs.Views.{LiveView, Moved}
use Rattle.gp_plain.specs.declared.reply.HoldReport.{HoldReport}
use Rattle.gp_routes.specs.declared.route.Rule.{Rule}
use Rattle.gp_session.specs.Seats.{SeatView}
use Rattle.gp_session_hold.specs.Rows.{HoldsRow, none as none_left}
use Rattle.gp_session_hold.proofs.Rowing.{holds_none, entries_none, attaches_none}
use Rattle.gp_session_http.specs.Turns.{Fresh, Past, first}
use Rattle.gp_session_http.specs.Trace.{HeardAs, Serves, IsUnasked, WasAsked, Told}
use Rattle.gp_session_http.specs.Moves.{waits, Used, Leads, IsServedAt, HasAsked, said, IsSpeakingAt, HasHeadOf, IsFailedAt}
use Rattle.gp_session_http.proofs.Rows.{with_wire, with_line, with_watch, moved_watch, moved_by_put, moved_unput, past_on, stays_wire, stays_line, stays_watch, no_parts}
use Rattle.gp_session_http.proofs.Hearing.{none_waits}

-- what can be asked of a request that is served
pub askable : ForwardLaw → (rules : List Rule) (received : List ℕ) (asked : Asked) → IsServed rules asked.request asked.address received → IsAskable asked
askable law rules received asked served =
    let target = served.whole.served.target in
    record {
      request = law.read received asked.request.head served.whole.length asked.request.path target.authority served.whole.read target.split;
      host = subst IsFieldValue (sym (ap (λ (a : Address). a.host) served.routed.address_is)) (law.host served.routed.route.address.host served.routed.is.good.host);
    }

-- the clock was asked once
was_asked : (v w : WatchView) (now : ℕ) → IsUnasked v → WatchRow v → (WatchRow v → WatchRow w) → Uses v w now → WasAsked w now
was_asked v w now un row on uses = record { last = on row now uses.moment; calls = by_move uses.moved.moved; row = on row }
  where
    by_move : (w ≡ v) ⊎ AsksClock v w → Rose w.start.calls w.clock.calls
    by_move (inl same) = let none : None ≡ Some now = sym un.moment ∙ sym (ap (λ (x : WatchView). x.moment) same) ∙ uses.moment in let no : ⊥ = cc in absurd no
    by_move (inr asks) = subst (λ (n : ℕ). Rose n w.clock.calls) (ap (λ t. t.calls) un.clock ∙ ap (λ t. t.calls) (sym uses.moved.start)) asks.calls

unasked_row : (v : WatchView) → IsUnasked v → WatchRow v
unasked_row v un = λ now some. let none : None ≡ Some now = sym un.moment ∙ some in let no : ⊥ = cc in absurd no

-- what is asked for the first time

first_serves : (c : Charter) (asked : Asked) (received : List ℕ) → asked.repeats ≡ 0 → IsServed c.rules asked.request asked.address received → Serves c asked received
first_serves c asked received none h = subst (λ (n : ℕ). HeardAs n (IsServed c.rules asked.request asked.address) received) (sym none) h

first_past : (l : LineView) (c : Charter) (s : SeatView) (reports : List HoldReport) (asked : Asked) (last : Last) → asked.repeats ≡ 0 → asked.last ≡ None → Fresh l s reports → (LineRow l [] idle → LineRow l [] last) → Past l c s reports asked last
first_past l c s reports asked last none item h row = record {
  turns = [];
  behind = first asked none item;
  held = tt;
  talks = λ alone. row (h.talks alone);
  entries = entries_none s h.entries;
  attaches = attaches_none s h.entries h.holds;
  holds = subst (λ (items : List HoldReport). HoldsRow s items none_left) (sym h.reports_are) (holds_none s h.holds);
  told = h.reports_are;
}

module _ (v : LiveView) (u : WatchView) (w : Whole) (address : Address) (at : IsServedAt v w address) (now : ℕ) (uses : Uses v.watch u now) where
  pub watched : Moved v (with_watch v u)
  watched = moved_watch v u uses.moved

  -- the origin is asked
  pub begins : (WatchRow v.watch → WatchRow u) → (s : AskingStage) → s.asked.request ≡ w → s.asked.address ≡ address → s.asked.moment ≡ now → s.asked.repeats ≡ 0 → s.asked.last ≡ None → BeginsFor v.charter.signer s.asked s.exchange → Leads v (with_watch v u) 4 (Go (Asking s))
  begins on s same to moment none item begun =
      let x = s.exchange in
      let here : x ≡ record { asked = x.asked; place = place.Unbegun x.asked.request } = ap (λ (p : Place). record { asked = x.asked; place = p }) begun.unbegun in
      record {
        moved = watched;
        to = (
          record {
            given = [];
            parts = [];
            cut = no_parts;
            request = request_same v.wire v.wire (IsServed v.charter.rules w address) (Serves v.charter s.asked) at.request refl refl
                (λ received h. first_serves v.charter s.asked received none (subst (λ (a : Address). IsServed v.charter.rules s.asked.request a received) (sym to) (subst (λ (y : Whole). IsServed v.charter.rules y address received) (sym same) h)));
            talks = first_past v.line v.charter v.seat v.reports.items s.asked (speaking (said x [])) none item at.talks
                (λ row. subst (λ (y : ExchangeView). LineRow v.line [] (speaking (said y []))) (sym here) (begins_talk v.line [] x.asked x.asked.request row));
            aim = begun.asks;
            at = record { early = subst (λ (p : Place). rank p < 4) (sym begun.unbegun) (omega arith); none = ap head_of begun.unbegun };
            bytes = at.bytes;
            times = subst (WasAsked u) (sym moment) (was_asked v.watch u now at.times (unasked_row v.watch at.times) on uses);
            stays = stays_watch v u at.stays;
          },
          omega arith,
        );
      }

  pub unasked_end : (ended : Ended) → ended ≡ record { end = end.NoMemory; why = why.Nothing } → Leads v (with_watch v u) 4 (End ended)
  unasked_end ended is =
      let t : HeadStage = record { intake = [] } in
      subst (λ (x : Ended). Leads v (with_watch v u) 4 (End x)) (sym is) (record {
        moved = watched;
        to = record {
          stage = ReadingHead t;
          told = record {
            given = [];
            parts = [];
            cut = no_parts;
            request = request_same v.wire v.wire (IsServed v.charter.rules w address) (Used v.charter (ReadingHead t)) at.request refl refl (λ received h. record { used = []; unused = received; split = refl; asks = (refl, none_begun) });
            talks = at.talks;
            aim = tt;
            at = tt;
            bytes = ([], ([], refl), at.bytes);
            times = tt;
            stays = stays_watch v u at.stays;
          };
          says = tt;
          why_is = refl;
        };
      })

-- the rows once the origin was asked, over each kind of move

pub asking_rows : (l : LiveView) (s : AskingStage) → Told l (Asking s) → IsSpeakingAt l s
asking_rows l s t = record { request = t.request; talks = t.talks; aim = t.aim; bytes = t.bytes; times = t.times; stays = t.stays }

pub asking_told : (l : LiveView) (s : AskingStage) → IsSpeakingAt l s → ExpectsHead s.exchange → Told l (Asking s)
asking_told l s h at = record { given = []; parts = []; cut = no_parts; request = h.request; talks = h.talks; aim = h.aim; at = at; bytes = h.bytes; times = h.times; stays = h.stays }

-- a poll of the talk
pub polled : (v : LiveView) (l : LineView) (asked : Asked) (x y : ExchangeView) (a b : Last) (text : List ℕ) → MovedLine v.line l → y.asked ≡ x.asked → ((aims : List Aim) → LineRow v.line aims a → LineRow l aims b) → HasAsked v asked x a text → HasAsked (with_line v l) asked y b text
polled v l asked x y a b text m same row h = record {
  request = h.request;
  talks = past_on v.line l v.charter v.seat v.reports.items asked a b m.start row h.talks;
  aim = subst (IsAskedFor v.charter.signer asked) (sym same) h.aim;
  bytes = h.bytes;
  times = h.times;
  stays = stays_line v l m h.stays;
}

-- bytes were put
module _ (v : LiveView) (w : WireView) (start : w.start ≡ v.wire.start) (link : w.link ≡ v.wire.link) (asked : Asked) (x : ExchangeView) (a : Last) (text : List ℕ) (h : HasAsked v asked x a text) where
  pub put_on : (more : List ℕ) → w.rest ≡ v.wire.rest ++ more → HasAsked (with_wire v w) asked x a (text ++ more)
  put_on more rest = record {
    request = request_same v.wire w (Serves v.charter asked) (Serves v.charter asked) h.request start (ap (λ (t : LinkTells). t.received) link) (λ received s. s);
    talks = h.talks;
    aim = h.aim;
    bytes = sent_put v.wire w text more h.bytes start link rest;
    times = h.times;
    stays = stays_wire v w start (later_put v.wire w link) h.stays;
  }

  pub put_none : w.rest ≡ v.wire.rest → HasAsked (with_wire v w) asked x a text
  put_none rest = record {
    request = request_same v.wire w (Serves v.charter asked) (Serves v.charter asked) h.request start (ap (λ (t : LinkTells). t.received) link) (λ received s. s);
    talks = h.talks;
    aim = h.aim;
    bytes = sent_same v.wire w text h.bytes start (ap (λ (t : LinkTells). t.sent) link) rest;
    times = h.times;
    stays = stays_wire v w start (later_put v.wire w link) h.stays;
  }

-- an exchange that is over has hung up
pub over_hung : (v : LiveView) (asked : Asked) (x : ExchangeView) (given text : List ℕ) → rank x.place ≡ 5 → HasAsked v asked x (speaking (said x given)) text → HasAsked v asked x (hung (said x given)) text
over_hung v asked x given text five h = record {
  request = h.request;
  talks = past_on v.line v.line v.charter v.seat v.reports.items asked (speaking (said x given)) (hung (said x given)) refl (λ aims. is_hung v.line aims (said x given) five) h.talks;
  aim = h.aim;
  bytes = h.bytes;
  times = h.times;
  stays = h.stays;
}

pub over_rank : (e : ExchangeLast) (p : Place) → IsOverBy e p → rank p ≡ 5
over_rank e (place.Unbegun request) is = absurd is
over_rank e (place.Connecting request) is = absurd is
over_rank e (place.Sending sending) is = absurd is
over_rank e (place.Heading heading) is = absurd is
over_rank e (place.Reading reading) is = absurd is
over_rank e (place.Over over) is = refl

pub reads_head : (head : Response) (x : ExchangeView) → ReadsBodyOf head x.place → HasHeadOf x head
reads_head head x is = let h = by_place x.place is in record { reading = h.0; head_is = h.1 }
  where
    by_place : (p : Place) → ReadsBodyOf head p → (rank p ≡ 4) × (head_of p ≡ Some head)
    by_place (place.Unbegun request) r = absurd r
    by_place (place.Connecting request) r = absurd r
    by_place (place.Sending sending) r = absurd r
    by_place (place.Heading heading) r = absurd r
    by_place (place.Reading reading) r = (refl, ap Some r)
    by_place (place.Over over) r = absurd r

-- an end for want of memory behind what was asked
pub asking_lost : (l : LiveView) (s : AskingStage) (n : ℕ) (u : LiveView) → Moved u l → HasAsked l s.asked s.exchange (hung (said s.exchange [])) [] → (ended : Ended) → ended ≡ record { end = end.NoMemory; why = why.Nothing } → Leads u l n (End ended)
asking_lost l s n u moved h ended is = subst (λ (x : Ended). Leads u l n (End x)) (sym is) (record {
  moved = moved;
  to = record {
    stage = Asking s;
    told = record {
      given = [];
      parts = [];
      cut = no_parts;
      request = record { received = h.request.received; since = h.request.since; asks = record { used = h.request.received; unused = []; split = sym (append-nil h.request.received); asks = h.request.asks } };
      talks = h.talks;
      aim = h.aim;
      at = tt;
      bytes = ([], ([], refl), h.bytes);
      times = tt;
      stays = h.stays;
    };
    says = tt;
    why_is = refl;
  };
})

-- the refusal of what the origin gave

module _ (v : LiveView) (w : WireView) (s : AskingStage) (y : Why) (start : w.start ≡ v.wire.start) (link : w.link ≡ v.wire.link) (failed : IsFailedAt v s y) (t : FailingStage) (asked : t.asked.value ≡ s.asked) (exchange : t.exchange.value ≡ s.exchange) (is : t.why ≡ y) where
  abbrev method_of : Asked → List ℕ
  method_of a = a.request.head.method

  rows_of : (text : Asked → List ℕ) → HasAsked (with_wire v w) s.asked s.exchange (hung (said s.exchange failed.given)) (text s.asked) → HasAsked (with_wire v w) t.asked.value t.exchange.value (hung (said t.exchange.value failed.given)) (text t.asked.value)
  rows_of text r = subst (λ (x : ExchangeView). HasAsked (with_wire v w) t.asked.value x (hung (said x failed.given)) (text t.asked.value)) (sym exchange)
      (subst (λ (a : Asked). HasAsked (with_wire v w) a s.exchange (hung (said s.exchange failed.given)) (text a)) (sym asked) r)

  fails_of : FailsBy v.line (method_of t.asked.value) t.exchange.value failed.given t.why
  fails_of = subst (λ (z : Why). FailsBy v.line (method_of t.asked.value) t.exchange.value failed.given z) (sym is)
      (subst (λ (x : ExchangeView). FailsBy v.line (method_of t.asked.value) x failed.given y) (sym exchange) (subst (λ (a : Asked). FailsBy v.line (method_of a) s.exchange failed.given y) (sym asked) failed.fails))

  pub failed_go : w.rest ≡ v.wire.rest ++ refusal_text BadGateway (method_of s.asked) → Leads v (with_wire v w) 2 (Go (Failing t))
  failed_go rest =
      let text = refusal_text BadGateway (method_of s.asked) in
      let r = rows_of (λ (a : Asked). refusal_text BadGateway (method_of a)) (put_on v w start link s.asked s.exchange (hung (said s.exchange failed.given)) [] failed.rows text rest) in
      record {
        moved = moved_by_put v w text start link rest;
        to = (
          record { given = failed.given; parts = failed.parts; cut = failed.cut; request = r.request; talks = r.talks; aim = r.aim; at = fails_of; bytes = r.bytes; times = r.times; stays = r.stays },
          omega arith,
        );
      }

  pub failed_end : w.rest ≡ v.wire.rest → (ended : Ended) → ended ≡ record { end = end.NoMemory; why = y } → Leads v (with_wire v w) 2 (End ended)
  failed_end rest ended same =
      let r = rows_of (λ (a : Asked). []) (put_none v w start link s.asked s.exchange (hung (said s.exchange failed.given)) [] failed.rows rest) in
      subst (λ (x : Ended). Leads v (with_wire v w) 2 (End x)) (sym same) (record {
        moved = moved_unput v w start link rest;
        to = record {
          stage = Failing t;
          told = record {
            given = failed.given;
            parts = failed.parts;
            cut = failed.cut;
            request = record { received = r.request.received; since = r.request.since; asks = record { used = r.request.received; unused = []; split = sym (append-nil r.request.received); asks = r.request.asks } };
            talks = r.talks;
            aim = r.aim;
            at = tt;
            bytes = ([], (refusal_text BadGateway (method_of t.asked.value), refl), r.bytes);
            times = tt;
            stays = r.stays;
          };
          says = tt;
          why_is = sym is;
        };
      })

-- why there is no response
pub faulted : (l m : LineView) (method : List ℕ) (x y : ExchangeView) (f : ExchangeFault) (given : List ℕ) → rank x.place < 5 → IsUnpassed method y → MovedLine l m → l.start.faults ≤ l.dial.faults → Gives x.place y.place l.dial m.dial (Fault f) → FailsBy m method y given (why_failed f)
faulted l m method x y fault.Dial given early un moved le g =
    record { over = g.0; unpassed = un; faults = subst (λ (t : DialTells). Rose t.faults m.dial.faults) (sym moved.start) (rose_from l.start.faults l.dial.faults m.dial.faults le (g.1 early)) }
faulted l m method x y fault.Head given early un moved le g = inl (record { fault = fault.Head; over = g.0; unpassed = un; bytes = tt })
faulted l m method x y fault.Interim given early un moved le g = inl (record { fault = fault.Interim; over = g.0; unpassed = un; bytes = tt })
faulted l m method x y (fault.Plan p) given early un moved le g = inl (record { fault = fault.Plan p; over = g.0; unpassed = un; bytes = tt })
faulted l m method x y (fault.Body b) given early un moved le g = inl (record { fault = fault.Body b; over = g.0; unpassed = un; bytes = tt })

-- a head that isn't there yet is still expected
pub still_expects : (x y : ExchangeView) (old now : DialTells) → Gives x.place y.place old now NotReady → head_of y.place ≡ head_of x.place → ExpectsHead x → ExpectsHead y
still_expects x y old now g same at = record { early = by_place y.place g.1 (same ∙ at.none); none = same ∙ at.none }
  where
    by_place : (p : Place) → Waits p old now → head_of p ≡ None → rank p < 4
    by_place (place.Unbegun request) w n = absurd w
    by_place (place.Connecting request) w n = omega arith
    by_place (place.Sending sending) w n = omega arith
    by_place (place.Heading heading) w n = omega arith
    by_place (place.Reading reading) w n = let no : ⊥ = cc in absurd no
    by_place (place.Over over) w n = absurd w

-- the talk goes on
pub asking_waits : (v : LiveView) (l : LineView) (s : AskingStage) → Moved v (with_line v l) → IsSpeakingAt (with_line v l) s → ExpectsHead s.exchange → Waits s.exchange.place v.line.dial l.dial → Leads v (with_line v l) 3 (Wait (Asking s))
asking_waits v l s moved h at w = record {
  moved = moved;
  to = (
    asking_told (with_line v l) s h at,
    waits (record { request = λ no. absurd no; talk = λ _. w; writes = λ some. absurd (some (none_waits v.wire h.bytes)); some = inr (inl tt) }),
  );
}

-- the client's head is put
pub put_head : (bytes text body head : List ℕ) → bytes ≡ text → text ≡ head → body ≡ [] → bytes ++ (body ++ []) ≡ head
put_head bytes text body head same is none = ap (λ (x : List ℕ). bytes ++ (x ++ [])) none ∙ append-nil bytes ∙ same ∙ is

-- what waited was sent, as far as the link took it
pub flushed_on : (v : LiveView) (w : WireView) (f : Flushed) → Flushes v.wire w f → (asked : Asked) (x : ExchangeView) (a : Last) (text : List ℕ) → HasAsked v asked x a text → HasAsked (with_wire v w) asked x a text
flushed_on v w f h asked x a text r = record {
  request = request_same v.wire w (Serves v.charter asked) (Serves v.charter asked) r.request h.start h.passed.received (λ received s. s);
  talks = r.talks;
  aim = r.aim;
  bytes = sent_flushed v.wire w text f r.bytes h;
  times = r.times;
  stays = stays_wire v w h.start h.passed.later r.stays;
}

pub put_last : (body tail last : List ℕ) → body ≡ [] → tail ≡ last → [] ++ (body ++ tail) ≡ last
put_last body tail last none is = ap (λ (x : List ℕ). x ++ tail) none ∙ is
