-- How a session begins, and the moves of a poll.
use Rattle.std.specs.declared.snapshot.Snapshot.{Snapshot}
use Rattle.std.specs.List.{All}
use Rattle.gp_plain.specs.Others.{Share}
use Rattle.gp_session_recover.specs.Rows.{Recovers, moment_open, sides}
use Rattle.gp_session_recover.specs.declared.talk.Talk.{Talk}
use Rattle.gp_session_http.specs.declared.streaming.Streaming.{Streaming as StreamingStage}
use Rattle.gp_session_http.specs.declared.waiting.Waiting.{Waiting as WaitingStage}
use Rattle.std.proofs.Common.{◌≡◌, ◌≢◌, ℕ, ◌+◌, ◌-◌, ◌*◌, ◌<◌, ◌≤◌, arith, List, [], ◌∷◌, length, Option, Some, None, refl, sym, ap, ◌∙◌, subst, ◌⊎◌, inl, inr, ◌++◌}
use Rattle.std.specs.Prelude.{Result, Ok, Err, MatchResult, ⊤}
use Rattle.gp_outside.specs.Clocks.{ClockTells}
use Rattle.gp_outside.specs.Dials.{DialTells}
use Rattle.gp_outside.specs.Links.{LinkTells}
use Rattle.gp_hub.specs.Passes.{HubView}
use Rattle.gp_hub.specs.declared.outcome.Outcome.{Outcome}
use Rattle.gp_intake.specs.Heads.{IsBegun}
use Rattle.gp_exchange.proofs.Leading.{later_same as dial_same}
use Rattle.gp_session.specs.Seats.{IsFresh}
use Rattle.gp_session.specs.Watches.{WatchView, WatchRow, MovedWatch, Asks as AsksClock}
use Rattle.gp_session.proofs.Lining.{begins}
use Rattle.gp_session.proofs.Moving.{later_same, request_none, sent_none, mine_none, holds_none, row_none}
use Rattle.gp_session_http.specs.declared.stage.Stage.{Stage}
use Rattle.gp_session_http.specs.declared.asking.Asking.{Asking as AskingStage}
use Rattle.gp_session_http.specs.declared.stage.Stage.TheVariants.{ReadingHead, Asking}
use Rattle.gp_session_http.specs.declared.stage.Ended.{Ended}
use Rattle.gp_session_http.specs.declared.stage.Next.TheVariants.{Go, Wait, Hold, End}
use Rattle.gp_session_http.specs.declared.reading_head.ReadingHead.{ReadingHead as HeadStage}
use Rattle.gp_session_http.specs.Routing.{Charter}
use Rattle.gp_session_http.specs.Views.{LiveView, Moved, Goes}
use Rattle.gp_session_http.specs.Trace.{Asks, moment_of, TimesRow, Told, new_live}
use Rattle.gp_session_http.specs.Moves.{rank, Leads, IsUnbegun}
use Rattle.gp_session_http.specs.declared.asked.Asked.{Asked}
use Rattle.gp_session_http.specs.declared.poll.Poll.{Poll}
use Rattle.gp_instruct_json.specs.declared.answer.Answer.{Answer}
use Rattle.gp_exchange.specs.Views.{ExchangeView}
use Rattle.gp_plain.specs.declared.event.HoldSpec.{HoldSpec}
use Rattle.gp_plain.specs.declared.reply.HoldReport.{HoldReport}
use Rattle.gp_session_http.specs.Grants.{AsksFor}
use Rattle.gp_session_http.specs.Turns.{Turn}
use Rattle.gp_session_http.specs.declared.grant.Grant.{Grant}
use Rattle.gp_session_http.specs.declared.held.Held.{Held}
use Rattle.gp_session_http.specs.declared.held.Held.TheVariants.{Attaching, Declining, Streaming, Closing, Leaving, Beginning, Denying, Waiting, Answering, Departing}
use Rattle.gp_session_http.specs.declared.held.HeldNext.TheVariants as held_next
use Rattle.gp_session_http.specs.declared.leaving.Parting.{Parting}
use Rattle.gp_session_http.specs.declared.leaving.Parting.TheVariants.{Gone, Wanting}
use Rattle.gp_session_http.specs.declared.session.Phase.{Phase}
use Rattle.gp_session_http.specs.declared.session.Phase.TheVariants.{Free}
use Rattle.gp_session_http.specs.declared.session.Phase.TheVariants as phase
use Rattle.gp_session_http.specs.Heard.{Heard, IsUnattached, IsDeclined, HasAttached, IsLastHold}
use Rattle.gp_session_http.specs.LongPolls.{Polling, PollsFor, MayPoll, KeepsPoll, PartsBy}
use Rattle.gp_session_http.specs.Holding.{Granting, Keeps, LeavesAs, stream_of, HeldTold, held_rank, GoesTo, HeldLeads, HeldTimes, IsFreshStream, PollWaitsOn, StreamTimed, StreamWaits}
use Rattle.gp_session_hold.specs.Rows.{KeptView, share_of_hold}
use Rattle.gp_session_hold.specs.Streams.{StreamView}
use Rattle.gp_outside.specs.Counts.{Rose}
use Rattle.gp_session_http.proofs.Headlining.{headline_free, headline_held, headline_end}
use Rattle.gp_session_http.proofs.Granting.{goes_of, goes_same, goes_again, held_pends_from}
use Rattle.gp_session_http.specs.Polls.{DevicesView, OpenView, PhaseTold, SessionView, IsNew, start_of, MayLeave, Leaves, Ends, Waits, WaitsIn, PollWaits, HasToken, HeldTimed, IsContinued, IsStarted, at_poll, polled}
use Rattle.gp_session_http.proofs.Rows.{with_watch, moved_same, moved_again, no_parts, stays_watch}

new_told : (link : LinkTells) (dial : DialTells) (clock : ClockTells) (pass : HubView) (charter : Charter) (s : HeadStage) → IsFresh pass → 1 ≤ pass.spare → s.intake ≡ [] → IsBegun s.intake → Told (new_live link dial clock pass charter) (ReadingHead s)
new_told link dial clock pass charter s fresh some none begun = record {
  given = [];
  parts = [];
  cut = no_parts;
  request = request_none link (Asks charter (ReadingHead s)) (sym none, subst IsBegun none begun);
  talks = record { talks = λ alone. begins dial alone; entries = mine_none pass fresh some; holds = holds_none pass fresh some; reports_are = refl };
  aim = tt;
  at = tt;
  bytes = sent_none link;
  times = record { clock = refl; moment = refl };
  stays = record { seat = row_none pass; served = inl refl; links = later_same link; dials = dial_same dial };
}

pub told_new : (l : LiveView) (s : HeadStage) → IsNew l → s.intake ≡ [] → IsBegun s.intake → Told l (ReadingHead s)
told_new l s new none begun = subst (λ (x : LiveView). Told x (ReadingHead s)) (sym new.is) (new_told l.wire.link l.line.dial l.watch.clock l.seat.pass l.charter s new.fresh new.some none begun)

no_moment : (o : Option ℕ) (n : ℕ) → o ≡ None → o ≡ Some n → ⊥
no_moment o n a b = cc

-- a poll begins with no moment
module _ (v : LiveView) (w : WatchView) (is : w ≡ record v.watch { moment = None }) where
  times_on : (o : Option ℕ) → TimesRow v.watch o → TimesRow w o
  times_on None t = subst (λ (x : WatchView). TimesRow x None) (sym is) (record { clock = t.clock; moment = refl })
  times_on (Some now) t = subst (λ (x : WatchView). TimesRow x (Some now)) (sym is) (record { last = t.last; calls = t.calls; row = λ n some. let no : ⊥ = no_moment None n refl some in absurd no })

  pub told_begun : (stage : Stage) → Told v stage → Told (with_watch v w) stage
  told_begun stage t = record {
    given = t.given;
    parts = t.parts;
    cut = t.cut;
    request = t.request;
    talks = t.talks;
    aim = t.aim;
    at = t.at;
    bytes = t.bytes;
    times = times_on (moment_of stage) t.times;
    stays = stays_watch v w t.stays;
  }

  pub polls_begun : at_poll v ≡ with_watch v w
  polls_begun = ap (with_watch v) (sym is)

-- the rows of a session that keeps a hold, or is about to
module _ (v : LiveView) (w : WatchView) (is : w ≡ record v.watch { moment = None }) where
  abbrev heard_begun : (asked : Asked) (x : ExchangeView) (answer : Answer) → Heard v asked x answer → Heard (with_watch v w) asked x answer
  heard_begun asked x answer h = record {
    content = h.content;
    turns = h.turns;
    request = h.request;
    aim = h.aim;
    behind = h.behind;
    held = h.held;
    told = h.told;
    answers = h.answers;
    calls = subst (λ (x : WatchView). Rose x.start.calls x.clock.calls) (sym is) h.calls;
    times = subst WatchRow (sym is) (λ n some. let no : ⊥ = no_moment None n refl some in absurd no);
    seat = h.seat;
    links = h.links;
    dials = h.dials;
  }

  abbrev granting_begun : (g : Grant) → Granting v g → Granting (with_watch v w) g
  granting_begun g h = record { heard = heard_begun g.asked.value g.exchange.value g.answer.value h.heard; is = h.is }

  abbrev polling_begun : (p : Poll) → Polling v p → Polling (with_watch v w) p
  polling_begun p h = record { heard = heard_begun p.asked.value p.exchange.value p.answer.value h.heard; talks = h.talks; wish = h.wish }

  attached_begun : (turns : List Turn) (Asks : HoldSpec → Type 0) → HasAttached v turns Asks → HasAttached (with_watch v w) turns Asks
  attached_begun turns Asks h = record { spec = h.spec; spec_is = h.spec_is; attaches = h.attaches }

  declined_begun : (turns : List Turn) (Asks : HoldSpec → Type 0) → IsDeclined v turns Asks → IsDeclined (with_watch v w) turns Asks
  declined_begun turns Asks h = record { spec = h.spec; spec_is = h.spec_is; entries = h.entries; attaches = h.attaches; holds = h.holds }

  unattached_begun : (turns : List Turn) → IsUnattached v turns → IsUnattached (with_watch v w) turns
  unattached_begun turns h = record { entries = h.entries; attaches = h.attaches; holds = h.holds; bytes = h.bytes }

  leaves_begun : (p : Parting) (s : StreamView) → LeavesAs p v s → LeavesAs p (with_watch v w) s
  leaves_begun Gone s h = h
  leaves_begun Wanting s h = h

  abbrev keeps_begun : (g : Grant) (hold : KeptView) → Keeps v g hold → Keeps (with_watch v w) g hold
  keeps_begun g hold h = record { rows = granting_begun g h.rows; attached = attached_begun h.rows.heard.turns (AsksFor g) h.attached; entries = h.entries; holds = h.holds; room = h.room }

  abbrev keeps_poll_begun : (p : Poll) (now : ℕ) (hold : KeptView) → KeepsPoll v p now hold → KeepsPoll (with_watch v w) p now hold
  keeps_poll_begun p now hold h = record { rows = polling_begun p h.rows; attached = attached_begun h.rows.heard.turns (PollsFor p now) h.attached; entries = h.entries; holds = h.holds; room = h.room }

  last_begun : (hold : KeptView) → IsLastHold v hold → IsLastHold (with_watch v w) hold
  last_begun hold h = record { before = h.before; share = h.share; all = h.all }

  parts_begun : (p : Parting) → PartsBy p v → PartsBy p (with_watch v w)
  parts_begun Gone h = h
  parts_begun Wanting h = tt

  pub held_begun : (stage : Held) → HeldTold v stage → HeldTold (with_watch v w) stage
  held_begun (Attaching s) t = record { rows = granting_begun s.grant t.rows; alone = t.alone; is = unattached_begun t.rows.heard.turns t.is; served = t.served; spec_is = t.spec_is; fit = t.fit; head = t.head; again = t.again }
  held_begun (Declining s) t = record { rows = granting_begun s.grant t.rows; alone = t.alone; is = declined_begun t.rows.heard.turns (AsksFor s.grant) t.is; served = t.served; bytes = t.bytes }
  held_begun (Streaming s) t = record {
    keeps = keeps_begun s.grant s.recovering.stream.hold t.keeps;
    served = t.served;
    framed = t.framed;
    streams = t.streams;
    recalls = record { spec = t.recalls.spec; spec_is = t.recalls.spec_is; qs = t.recalls.qs; row = t.recalls.row };
  }
  held_begun (Closing s) t = record {
    rows = granting_begun s.grant t.rows;
    served = t.served;
    is = record { attached = attached_begun t.rows.heard.turns (AsksFor s.grant) t.is.attached; own = last_begun s.hold.value t.is.own; entries = t.is.entries; holds = t.is.holds; finished = t.is.finished };
    recalled = record { spec = t.recalled.spec; spec_is = t.recalled.spec_is; qs = t.recalled.qs; row = t.recalled.row };
  }
  held_begun (Leaving s) t = record {
    keeps = keeps_begun s.grant s.hold t.keeps;
    served = t.served;
    leaves = leaves_begun s.parting (stream_of s.grant s.hold) t.leaves;
    recalled = record { spec = t.recalled.spec; spec_is = t.recalled.spec_is; qs = t.recalled.qs; row = t.recalled.row };
  }
  held_begun (Beginning s) t = record { rows = polling_begun s.poll t.rows; is = unattached_begun t.rows.heard.turns t.is; served = t.served; opens = t.opens; again = t.again }
  held_begun (Denying s) t = record { rows = polling_begun s.poll t.rows; is = declined_begun t.rows.heard.turns (MayPoll s.poll) t.is; served = t.served; bytes = t.bytes }
  held_begun (Waiting s) t = record { keeps = keeps_poll_begun s.poll s.since.value s.wait.hold t.keeps; served = t.served; poll_is = t.poll_is; waits = t.waits; again_is = t.again_is }
  held_begun (Answering s) t = record {
    rows = polling_begun s.poll t.rows;
    served = t.served;
    is = record {
      moment = t.is.moment;
      attached = attached_begun t.rows.heard.turns (PollsFor s.poll t.is.moment) t.is.attached;
      own = last_begun s.hold.value t.is.own;
      entries = t.is.entries;
      holds = t.is.holds;
      wait = t.is.wait;
      poll_is = t.is.poll_is;
      is = t.is.is;
    };
  }
  held_begun (Departing s) t = record {
    moment = t.moment;
    keeps = keeps_poll_begun s.poll t.moment s.hold t.keeps;
    served = t.served;
    still = record { share = t.still.share; is = t.still.is; asked_for = t.still.asked_for; bytes = t.still.bytes };
    by = parts_begun s.parting t.by;
  }

-- the moves of a poll so far: where no hold was reported yet, all were those of a session without one

abbrev pub PlainIn : LiveView → LiveView → Phase → Type 0
PlainIn u v (Free stage) = v.reports.items ≡ [] → Moved u v
PlainIn u v (phase.Held stage) = ⊤

-- a stream that is as the poll found it, or that began in it
pub data HasStreamed (u : OpenView) (v : LiveView) (s : StreamingStage) : Type 0 where
  found : u.phase ≡ phase.Held (Streaming s) → u.live ≡ v → HasStreamed u v s
  fresh : IsFreshStream v s → HasStreamed u v s

-- the moments that were used so far
abbrev pub TimedHeld : OpenView → LiveView → Held → Type 0
TimedHeld u v (Attaching s) = ⊤
TimedHeld u v (Declining s) = ⊤
TimedHeld u v (Streaming s) = HasStreamed u v s
TimedHeld u v (Closing s) = ⊤
TimedHeld u v (Leaving s) = ⊤
TimedHeld u v (Beginning s) = ⊤
TimedHeld u v (Denying s) = ⊤
TimedHeld u v (Waiting s) = share_of_hold u.live.seat s.wait.hold.number ≡ None → v.watch.moment ≡ Some s.since.value
TimedHeld u v (Answering s) = ⊤
TimedHeld u v (Departing s) = ⊤

abbrev pub TimedIn : OpenView → LiveView → Phase → Type 0
TimedIn u v (Free stage) = Moved u.live v ⊎ HasToken v stage
TimedIn u v (phase.Held stage) = TimedHeld u v stage

pub record SoFar (u : OpenView) (v : LiveView) (p : Phase) : Type 0 where
  pub moved : Goes u.live v
  pub told : PhaseTold v p
  pub plain : PlainIn u.live v p
  pub timed : TimedIn u v p

-- once the clock was asked, the moment stays
moment_on : (v w : WatchView) (now : ℕ) → MovedWatch v w → v.moment ≡ Some now → w.moment ≡ Some now
moment_on v w now m is = by_move m.moved
  where
    by_move : (w ≡ v) ⊎ AsksClock v w → w.moment ≡ Some now
    by_move (inl same) = ap (λ (x : WatchView). x.moment) same ∙ is
    by_move (inr asks) = absurd (no_moment v.moment now asks.none is)

-- and it is that of the token
token_now : (w : WatchView) (o : Option ℕ) (now : ℕ) → TimesRow w o → w.moment ≡ Some now → o ≡ Some now
token_now w None now t is = absurd (no_moment w.moment now t.moment is)
token_now w (Some token) now t is = ap (λ (n : ℕ). Some n) (sym t.last ∙ t.row now is)

token_on : (v w : LiveView) (stage next : Stage) → TimesRow w.watch (moment_of next) → Moved v w → HasToken v stage → HasToken w next
token_on v w stage next times m t =
    let is = moment_on v.watch w.watch t.now m.watch t.moment in
    record { now = t.now; moment = is; token = token_now w.watch (moment_of next) t.now times is }

timed_free : (u : OpenView) (v w : LiveView) (stage next : Stage) → TimesRow w.watch (moment_of next) → Moved v w → TimedIn u v (Free stage) → TimedIn u w (Free next)
timed_free u v w stage next times m (inl moved) = inl (moved_again u.live v w moved m)
timed_free u v w stage next times m (inr t) = inr (token_on v w stage next times m t)

-- a hold that an answer asks for isn't attached yet
timed_hold : (u : OpenView) (w : LiveView) (next : Held) → IsUnbegun next → TimedHeld u w next
timed_hold u w (Attaching s) is = tt
timed_hold u w (Declining s) is = tt
timed_hold u w (Streaming s) is = absurd is
timed_hold u w (Closing s) is = tt
timed_hold u w (Leaving s) is = tt
timed_hold u w (Beginning s) is = tt
timed_hold u w (Denying s) is = tt
timed_hold u w (Waiting s) is = absurd is
timed_hold u w (Answering s) is = tt
timed_hold u w (Departing s) is = tt

timed_go : (u : OpenView) (v w : LiveView) (next : Held) → GoesTo v w next → TimedHeld u w next
timed_go u v w (Attaching s) g = tt
timed_go u v w (Declining s) g = tt
timed_go u v w (Streaming s) g = fresh g
timed_go u v w (Closing s) g = tt
timed_go u v w (Leaving s) g = tt
timed_go u v w (Beginning s) g = absurd g
timed_go u v w (Denying s) g = tt
timed_go u v w (Waiting s) g = λ none. g.1
timed_go u v w (Answering s) g = tt
timed_go u v w (Departing s) g = tt

-- how many moves that go on may follow, at the most
abbrev pub reports_left : LiveView → ℕ
reports_left l = 16 * (8 - length l.reports.items)

abbrev pub phase_rank : LiveView → Phase → ℕ
phase_rank l (Free stage) = reports_left l + 8 + rank stage
phase_rank l (phase.Held (Attaching s)) = 3
phase_rank l (phase.Held (Declining s)) = 1
phase_rank l (phase.Held (Streaming s)) = 2
phase_rank l (phase.Held (Closing s)) = 1
phase_rank l (phase.Held (Leaving s)) = 1
phase_rank l (phase.Held (Beginning s)) = reports_left l + 5
phase_rank l (phase.Held (Denying s)) = 1
phase_rank l (phase.Held (Waiting s)) = reports_left l + 4
phase_rank l (phase.Held (Answering s)) = 1
phase_rank l (phase.Held (Departing s)) = 1

same_left : (v w : LiveView) → w.reports.items ≡ v.reports.items → reports_left w ≡ reports_left v
same_left v w same = ap (λ (rs : List HoldReport). 16 * (8 - length rs)) same

pub goes_free : (u : OpenView) (v w : LiveView) (stage next : Stage) → SoFar u v (Free stage) → Leads v w (rank stage) (Go next) → SoFar u w (Free next)
goes_free u v w stage next so l = record {
  moved = goes_again u.live v w so.moved (goes_of v w l.moved);
  told = l.to.0;
  plain = λ none. moved_again u.live v w (so.plain (sym l.moved.reports ∙ none)) l.moved;
  timed = timed_free u v w stage next l.to.0.times l.moved so.timed;
}

pub free_less : (v w : LiveView) (stage next : Stage) → Leads v w (rank stage) (Go next) → phase_rank w (Free next) < phase_rank v (Free stage)
free_less v w stage next l = let less = l.to.1 in let same = same_left v w l.moved.reports in omega (arith, less, same)

pub goes_hold : (u : OpenView) (v w : LiveView) (stage : Stage) (next : Held) → SoFar u v (Free stage) → Leads v w (rank stage) (Hold next) → SoFar u w (phase.Held next)
goes_hold u v w stage next so l = record { moved = goes_again u.live v w so.moved (goes_of v w l.moved); told = l.to.0; plain = tt; timed = timed_hold u w next l.to.1 }

held_most : (l : LiveView) (next : Held) → phase_rank l (phase.Held next) ≤ reports_left l + 5
held_most l (Attaching s) = omega arith
held_most l (Declining s) = omega arith
held_most l (Streaming s) = omega arith
held_most l (Closing s) = omega arith
held_most l (Leaving s) = omega arith
held_most l (Beginning s) = omega arith
held_most l (Denying s) = omega arith
held_most l (Waiting s) = omega arith
held_most l (Answering s) = omega arith
held_most l (Departing s) = omega arith

pub hold_less : (v w : LiveView) (stage : Stage) (next : Held) → Leads v w (rank stage) (Hold next) → phase_rank w (phase.Held next) < phase_rank v (Free stage)
hold_less v w stage next l = let most = held_most w next in let same = same_left v w l.moved.reports in omega (arith, most, same)

pub goes_held : (u : OpenView) (v w : LiveView) (stage next : Held) → SoFar u v (phase.Held stage) → HeldLeads v w (held_rank stage) (held_next.Go next) → SoFar u w (phase.Held next)
goes_held u v w stage next so l = record { moved = goes_again u.live v w so.moved l.moved; told = l.to.0; plain = tt; timed = timed_go u v w next l.to.2 }

held_least : (l : LiveView) (stage : Held) → held_rank stage ≤ phase_rank l (phase.Held stage)
held_least l (Attaching s) = omega arith
held_least l (Declining s) = omega arith
held_least l (Streaming s) = omega arith
held_least l (Closing s) = omega arith
held_least l (Leaving s) = omega arith
held_least l (Beginning s) = omega arith
held_least l (Denying s) = omega arith
held_least l (Waiting s) = omega arith
held_least l (Answering s) = omega arith
held_least l (Departing s) = omega arith

-- only a long poll that isn't attached yet goes on to wait, and only one that waits has the origin asked again
waits_next : (l : LiveView) (stage : Held) → 4 < held_rank stage → reports_left l + 5 ≤ phase_rank l (phase.Held stage)
waits_next l (Attaching s) lt = omega (arith, lt)
waits_next l (Declining s) lt = omega (arith, lt)
waits_next l (Streaming s) lt = omega (arith, lt)
waits_next l (Closing s) lt = omega (arith, lt)
waits_next l (Leaving s) lt = omega (arith, lt)
waits_next l (Beginning s) lt = omega arith
waits_next l (Denying s) lt = omega (arith, lt)
waits_next l (Waiting s) lt = omega (arith, lt)
waits_next l (Answering s) lt = omega (arith, lt)
waits_next l (Departing s) lt = omega (arith, lt)

asks_next : (l : LiveView) (stage : Held) → 3 < held_rank stage → reports_left l + 4 ≤ phase_rank l (phase.Held stage)
asks_next l (Attaching s) lt = omega (arith, lt)
asks_next l (Declining s) lt = omega (arith, lt)
asks_next l (Streaming s) lt = omega (arith, lt)
asks_next l (Closing s) lt = omega (arith, lt)
asks_next l (Leaving s) lt = omega (arith, lt)
asks_next l (Beginning s) lt = omega arith
asks_next l (Denying s) lt = omega (arith, lt)
asks_next l (Waiting s) lt = omega arith
asks_next l (Answering s) lt = omega (arith, lt)
asks_next l (Departing s) lt = omega (arith, lt)

held_less_by : (v w : LiveView) (stage next : Held) → held_rank next < held_rank stage → GoesTo v w next → phase_rank w (phase.Held next) < phase_rank v (phase.Held stage)
held_less_by v w stage (Attaching s) less same = let least = held_least v stage in omega (arith, least, less)
held_less_by v w stage (Declining s) less same = let least = held_least v stage in omega (arith, least, less)
held_less_by v w stage (Streaming s) less same = let least = held_least v stage in omega (arith, least, less)
held_less_by v w stage (Closing s) less same = let least = held_least v stage in omega (arith, least, less)
held_less_by v w stage (Leaving s) less same = let least = held_least v stage in omega (arith, least, less)
held_less_by v w stage (Beginning s) less same = absurd same
held_less_by v w stage (Denying s) less same = let least = held_least v stage in omega (arith, least, less)
held_less_by v w stage (Waiting s) less same = let most = waits_next v stage less in let left = same_left v w same.0 in omega (arith, most, left)
held_less_by v w stage (Answering s) less same = let least = held_least v stage in omega (arith, least, less)
held_less_by v w stage (Departing s) less same = let least = held_least v stage in omega (arith, least, less)

pub held_less : (v w : LiveView) (stage next : Held) → HeldLeads v w (held_rank stage) (held_next.Go next) → phase_rank w (phase.Held next) < phase_rank v (phase.Held stage)
held_less v w stage next l = held_less_by v w stage next l.to.1 l.to.2

some_reports : (rs : List HoldReport) (n : ℕ) → length rs ≡ n + 1 → rs ≡ [] → ⊥
some_reports [] n count none = omega (arith, count)
some_reports (r ∷ rs) n count none = absurd cc

pub goes_again_to : (u : OpenView) (v w : LiveView) (stage : Held) (next : AskingStage) → SoFar u v (phase.Held stage) → HeldLeads v w (held_rank stage) (held_next.Again next) → SoFar u w (Free (Asking next))
goes_again_to u v w stage next so l = record {
  moved = goes_again u.live v w so.moved l.moved;
  told = l.to.0.told;
  plain = λ none. (let no : ⊥ = some_reports w.reports.items (length v.reports.items) l.to.0.count none in absurd no);
  timed = inr (record { now = next.asked.moment; moment = l.to.0.timed; token = refl });
}

left_by : (m n : ℕ) → n ≡ m + 1 → m < 8 → 16 * (8 - n) + 16 ≡ 16 * (8 - m)
left_by m n is few = let same : 16 * (8 - (m + 1)) + 16 ≡ 16 * (8 - m) = omega (arith, few) in subst (λ (k : ℕ). 16 * (8 - k) + 16 ≡ 16 * (8 - m)) (sym is) same

pub again_less : (v w : LiveView) (stage : Held) (next : AskingStage) → HeldLeads v w (held_rank stage) (held_next.Again next) → phase_rank w (Free (Asking next)) < phase_rank v (phase.Held stage)
again_less v w stage next l =
    let most = asks_next v stage l.to.1 in
    let left = left_by (length v.reports.items) (length w.reports.items) l.to.0.count l.to.0.few in
    omega (arith, most, left)

-- the moments of a poll whose last move waits

no_share : (o : Option Share) (share : Share) → o ≡ None → o ≡ Some share → ⊥
no_share o share none some = cc

stream_timed : (u : OpenView) (v w : LiveView) (s next : StreamingStage) → Goes v w → HasStreamed u v s → StreamTimed v w s next → IsStarted w next ⊎ IsContinued u w next
stream_timed u v w s next m (found was same) t = inr (record { s = s; was = was; timed = subst (λ (x : LiveView). StreamTimed x w s next) (sym same) t })
stream_timed u v w s next m (fresh f) t =
    let on = t.recovers f.source f.aims [] f.row in
    inl (record {
      now = t.now;
      moment = t.moment;
      source = f.source;
      aims = f.aims;
      qs = on.more;
      row = subst (λ (c : Charter). Recovers c.signer f.source f.aims on.more (sides next.recovering w.wire w.line w.seat)) (sym m.charter) on.row;
      tokens = subst (All (λ (token : ℕ). token ≡ t.now)) (sym (on.timed.grown_is ∙ ap (λ (talk : Talk). moment_open talk ++ on.timed.more) f.untalked)) on.timed.now_is;
    })

-- a move waits in its own stage where that is a stream or a long poll, and in another there is none of them
timed_in_stream : (u : OpenView) (v w : LiveView) (s : StreamingStage) (next : Held) → Goes v w → HasStreamed u v s → StreamWaits v w s next → held_rank next ≡ 2 → HeldTimed u w next
timed_in_stream u v w s (Attaching t) m h times same = tt
timed_in_stream u v w s (Declining t) m h times same = tt
timed_in_stream u v w s (Streaming t) m h times same = stream_timed u v w s t m h times
timed_in_stream u v w s (Closing t) m h times same = tt
timed_in_stream u v w s (Leaving t) m h times same = tt
timed_in_stream u v w s (Beginning t) m h times same = tt
timed_in_stream u v w s (Denying t) m h times same = tt
timed_in_stream u v w s (Waiting t) m h times same = absurd (omega (arith, same))
timed_in_stream u v w s (Answering t) m h times same = tt
timed_in_stream u v w s (Departing t) m h times same = tt

timed_in_poll : (u : OpenView) (v w : LiveView) (s : WaitingStage) (next : Held) → Goes v w → (share_of_hold u.live.seat s.wait.hold.number ≡ None → v.watch.moment ≡ Some s.since.value) → PollWaitsOn s next → held_rank next ≡ 4 → HeldTimed u w next
timed_in_poll u v w s (Attaching t) m h times same = tt
timed_in_poll u v w s (Declining t) m h times same = tt
timed_in_poll u v w s (Streaming t) m h times same = absurd (omega (arith, same))
timed_in_poll u v w s (Closing t) m h times same = tt
timed_in_poll u v w s (Leaving t) m h times same = tt
timed_in_poll u v w s (Beginning t) m h times same = tt
timed_in_poll u v w s (Denying t) m h times same = tt
timed_in_poll u v w s (Waiting t) m h times same = λ none. moment_on v.watch w.watch t.since.value m.watch (h (subst (λ (n : ℕ). share_of_hold u.live.seat n ≡ None) times.number none) ∙ ap (λ (x : Snapshot ℕ). Some x.value) (sym times.since))
timed_in_poll u v w s (Answering t) m h times same = tt
timed_in_poll u v w s (Departing t) m h times same = tt

timed_apart : (u : OpenView) (w : LiveView) (n : ℕ) (next : Held) → n ≢ 2 → n ≢ 4 → held_rank next ≡ n → HeldTimed u w next
timed_apart u w n (Attaching t) two four same = tt
timed_apart u w n (Declining t) two four same = tt
timed_apart u w n (Streaming t) two four same = absurd (two (sym same))
timed_apart u w n (Closing t) two four same = tt
timed_apart u w n (Leaving t) two four same = tt
timed_apart u w n (Beginning t) two four same = tt
timed_apart u w n (Denying t) two four same = tt
timed_apart u w n (Waiting t) two four same = absurd (four (sym same))
timed_apart u w n (Answering t) two four same = tt
timed_apart u w n (Departing t) two four same = tt

timed_wait : (u : OpenView) (v w : LiveView) (stage next : Held) → HeldLeads v w (held_rank stage) (held_next.Wait next) → TimedHeld u v stage → HeldTimes v w stage (held_next.Wait next) → HeldTimed u w next
timed_wait u v w (Attaching s) next l h times = timed_apart u w 3 next (λ e. absurd (omega (arith, e))) (λ e. absurd (omega (arith, e))) l.to.2
timed_wait u v w (Declining s) next l h times = timed_apart u w 1 next (λ e. absurd (omega (arith, e))) (λ e. absurd (omega (arith, e))) l.to.2
timed_wait u v w (Streaming s) next l h times = timed_in_stream u v w s next l.moved h times l.to.2
timed_wait u v w (Closing s) next l h times = timed_apart u w 1 next (λ e. absurd (omega (arith, e))) (λ e. absurd (omega (arith, e))) l.to.2
timed_wait u v w (Leaving s) next l h times = timed_apart u w 1 next (λ e. absurd (omega (arith, e))) (λ e. absurd (omega (arith, e))) l.to.2
timed_wait u v w (Beginning s) next l h times = timed_apart u w 5 next (λ e. absurd (omega (arith, e))) (λ e. absurd (omega (arith, e))) l.to.2
timed_wait u v w (Denying s) next l h times = timed_apart u w 1 next (λ e. absurd (omega (arith, e))) (λ e. absurd (omega (arith, e))) l.to.2
timed_wait u v w (Waiting s) next l h times = timed_in_poll u v w s next l.moved h times l.to.2
timed_wait u v w (Answering s) next l h times = timed_apart u w 1 next (λ e. absurd (omega (arith, e))) (λ e. absurd (omega (arith, e))) l.to.2
timed_wait u v w (Departing s) next l h times = timed_apart u w 1 next (λ e. absurd (omega (arith, e))) (λ e. absurd (omega (arith, e))) l.to.2

-- a poll whose last move waits, or ends the session
pub waits_at : (u : OpenView) (v w : LiveView) (stage next : Stage) → SoFar u v (Free stage) → Leads v w (rank stage) (Wait next) → Waits u (record { live = w; phase = Free next })
waits_at u v w stage next so l = record {
  first = v;
  moved = so.moved;
  then_moved = l.moved;
  plain = λ none. moved_again u.live v w (so.plain (sym l.moved.reports ∙ none)) l.moved;
  timed = timed_free u v w stage next l.to.0.times l.moved so.timed;
  told = l.to.0;
  pends = l.to.1;
  headline = headline_free w next l.to.0;
}

pub held_waits_at : (u : OpenView) (v w : LiveView) (stage next : Held) → SoFar u v (phase.Held stage) → HeldLeads v w (held_rank stage) (held_next.Wait next) → HeldTimes v w stage (held_next.Wait next)
    → Waits u (record { live = w; phase = phase.Held next })
held_waits_at u v w stage next so l times = record {
  moved = goes_again u.live v w so.moved l.moved;
  told = l.to.0;
  pends = held_pends_from u.live v w next so.moved l.to.1;
  timed = timed_wait u v w stage next l so.timed times;
  headline = headline_held w next l.to.0;
}

pub ends_at : (u : OpenView) (v w : LiveView) (stage : Stage) (ended : Ended) (o : Outcome) (devices : DevicesView) → SoFar u v (Free stage) → Leads v w (rank stage) (End ended) → Leaves w o devices → Ends u.live o devices
ends_at u v w stage ended o devices so l leaves = record { l = w; moved = goes_again u.live v w so.moved (goes_of v w l.moved); leaves = leaves; headline = headline_end w (record { end = o.end; why = o.why }) leaves.finishes }

pub held_ends_at : (u : OpenView) (v w : LiveView) (stage : Held) (ended : Ended) (o : Outcome) (devices : DevicesView) → SoFar u v (phase.Held stage) → HeldLeads v w (held_rank stage) (held_next.End ended) → Leaves w o devices → Ends u.live o devices
held_ends_at u v w stage ended o devices so l leaves = record { l = w; moved = goes_again u.live v w so.moved l.moved; leaves = leaves; headline = headline_end w (record { end = o.end; why = o.why }) leaves.finishes }

-- a hold that is there as the poll begins
found_held : (v : LiveView) (stage : Held) → HeldTold v stage → TimedHeld (record { live = v; phase = phase.Held stage }) v stage
found_held v (Attaching s) told = tt
found_held v (Declining s) told = tt
found_held v (Streaming s) told = found refl refl
found_held v (Closing s) told = tt
found_held v (Leaving s) told = tt
found_held v (Beginning s) told = tt
found_held v (Denying s) told = tt
found_held v (Waiting s) told = λ none. absurd (no_share (share_of_hold v.seat s.wait.hold.number) told.waits.polls.share none told.waits.polls.is.there)
found_held v (Answering s) told = tt
found_held v (Departing s) told = tt

found_phase : (v : LiveView) (p : Phase) → PhaseTold v p → TimedIn (record { live = v; phase = p }) v p
found_phase v (Free stage) told = inl (moved_same v)
found_phase v (phase.Held stage) told = found_held v stage told

-- the first moves of a poll
pub so_far_none : (v : LiveView) (p : Phase) → PhaseTold v p → SoFar (record { live = v; phase = p }) v p
so_far_none v p told = record { moved = goes_same v; told = told; plain = by_phase p; timed = found_phase v p told }
  where
    by_phase : (p : Phase) → PlainIn v v p
    by_phase (Free stage) = λ none. moved_same v
    by_phase (phase.Held stage) = tt

-- a poll of each phase begins with no moment
pub phase_begun : (v : LiveView) (w : WatchView) → w ≡ record v.watch { moment = None } → (p : Phase) → PhaseTold v p → PhaseTold (with_watch v w) p
phase_begun v w is (Free stage) told = told_begun v w is stage told
phase_begun v w is (phase.Held stage) told = held_begun v w is stage told

start_from : (v w : LiveView) → Goes v w → start_of w ≡ start_of v
start_from v w m =
    ap (λ (x : LinkTells). record { link = x; dial = w.line.start; clock = w.watch.start }) m.wire.start
    ∙ ap (λ (x : DialTells). record { link = v.wire.start; dial = x; clock = w.watch.start }) m.line.start
    ∙ ap (λ (x : ClockTells). record { link = v.wire.start; dial = v.line.start; clock = x }) m.watch.start

-- such an end is one that the session might have
pub may_leave : (v : LiveView) (o : Outcome) (devices : DevicesView) → Ends v o devices → MayLeave (start_of v) v.seat.start v.charter o
may_leave v o devices e = record { l = e.l; devices = devices; start_is = start_from v e.l e.moved; pass_is = e.moved.seat.start; charter_is = e.moved.charter; leaves = e.leaves }

goes_in : (u : OpenView) (w : LiveView) (p : Phase) → WaitsIn u w p → Goes u.live w
goes_in u w (Free stage) x = goes_again u.live x.first w x.moved (goes_of x.first w x.then_moved)
goes_in u w (phase.Held stage) x = x.moved

-- and a session that waits might have no other than before
pub may_still : (u q : OpenView) → Waits u q → (o : Outcome) → MayLeave (start_of q.live) q.live.seat.start q.live.charter o → MayLeave (start_of u.live) u.live.seat.start u.live.charter o
may_still u q w o m =
    let moved : Goes u.live q.live = goes_in u q.live q.phase w in
    record {
      l = m.l;
      devices = m.devices;
      start_is = m.start_is ∙ start_from u.live q.live moved;
      pass_is = m.pass_is ∙ moved.seat.start;
      charter_is = m.charter_is ∙ moved.charter;
      leaves = m.leaves;
    }

none_some : (p : OpenView) → None ≡ Some p → ⊥
none_some p e = cc

-- a session that is open has left nothing yet
pub poll_waits : (v : SessionView) (o : Option OpenView) (left : Option DevicesView) (p q : OpenView) → (let was : SessionView = record { open_is = o; left = left } in was) ≡ v → o ≡ Some p → (o ≡ None) ⊎ (left ≡ None)
    → Waits (polled p) q → PollWaits v (record { open_is = Some q; left = left })
poll_waits v o left p q same is (inl none) w = let no_open : ⊥ = none_some p (sym none ∙ is) in absurd no_open
poll_waits v o left p q same is (inr none) w = record { p = p; q = q; was = sym (ap (λ (x : SessionView). x.open_is) same) ∙ is; is = refl; waits = w; left = none }

pub none_left : (o : Option OpenView) (left : Option DevicesView) (p : OpenView) → o ≡ Some p → (o ≡ None) ⊎ (left ≡ None) → left ≡ None
none_left o left p is (inl none) = let no_open : ⊥ = none_some p (sym none ∙ is) in absurd no_open
none_left o left p is (inr none) = none
