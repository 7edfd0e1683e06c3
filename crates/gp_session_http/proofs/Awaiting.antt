-- The moves of a session whose origin's answer asks for a long poll.
use Rattle.std.proofs.Common.{◌≡◌, ◌≢◌, ℕ, zero, suc, ◌+◌, ◌<◌, ◌&&◌, nat_lt, true, List, [], ◌∷◌, ◌++◌, length, Option, Some, None, is_some, option_map, refl, sym, ap, ◌∙◌, subst, arith, append-nil, length-append, inl, inr, false}
use Rattle.std.specs.List.{All}
use Rattle.std.proofs.lemmas.Bool.Decides.{nat_tests}
use Rattle.std.proofs.lemmas.List.{map-append}
use mathlib.Core.List.{IsPrefix}
use Rattle.gp_plain.specs.Others.{Share}
use Rattle.gp_plain.specs.Reports.{report}
use Rattle.gp_plain.specs.Roomy.{Roomy}
use Rattle.gp_plain.specs.declared.event.HoldSpec.{HoldSpec}
use Rattle.gp_plain.specs.declared.reply.EndCause.{EndCause}
use Rattle.gp_plain.specs.declared.reply.EndCause.TheVariants as cause_is
use Rattle.gp_plain.specs.declared.reply.HoldReport.{HoldReport}
use Rattle.gp_outside.specs.Counts.{Rose, grown}
use Rattle.gp_outside.specs.Links.{LinkTells}
use Rattle.gp_outbox.specs.declared.outbox.Flushed.{Flushed}
use Rattle.gp_outbox.specs.declared.outbox.Flushed.TheVariants as flushed
use Rattle.gp_hub.specs.Own.{share_gone}
use Rattle.gp_hub.specs.declared.outcome.SessionEnd.{SessionEnd}
use Rattle.gp_hub.specs.declared.outcome.SessionEnd.TheVariants as end
use Rattle.gp_hub.specs.declared.outcome.Why.{Why}
use Rattle.gp_hub.specs.declared.outcome.Why.TheVariants as why
use Rattle.gp_instruct.specs.declared.instruct.Instruct.{Instruct}
use Rattle.gp_instruct.specs.Spec.{spec}
use Rattle.gp_forward.specs.Conditions.{ForwardLaw}
use Rattle.gp_exchange.specs.Views.{ExchangeView}
use Rattle.gp_exchange.specs.Answers.{rank, head_of}
use Rattle.gp_exchange.specs.declared.place.Place.{Place}
use Rattle.gp_exchange.specs.declared.place.Place.TheVariants as place
use Rattle.gp_session.specs.Lines.{Aim, aim_of, LineRow, idle, speaking}
use Rattle.gp_session.specs.Seats.{SeatView, MovedSeat, SeatRow, IsServed, IsWorn, Busied}
use Rattle.gp_session.specs.Watches.{WatchView, WatchRow, Uses}
use Rattle.gp_session.specs.Wires.{WireView, MovedWire, BytesRow, exactly, Flushes}
use Rattle.gp_session.specs.declared.holding.LetGo.TheVariants as let_go_is
use Rattle.gp_session.proofs.Lining.{begins_talk}
use Rattle.gp_session.proofs.Moving.{rose_since, sent_same, sent_put, sent_flushed, moved_put, moved_none_put, moved_flushed, moved_wire_same, moved_seat_same}
use Rattle.gp_session_hold.specs.Leaves.{LeavesHold}
use Rattle.gp_session_hold.specs.Opens.{OpensTo}
use Rattle.gp_session_hold.specs.Rows.{KeptView, IsKept, IsCounted, IsReleased, none, kept, over, holds_of, reports_of, HoldsRow, EntriesRow, DetachedRow, AttachRow}
use Rattle.gp_session_hold.specs.declared.attaching.Opened.TheVariants as opened
use Rattle.gp_session_wait.specs.Openings.{spec_at, may_repeat, IsBegun}
use Rattle.gp_session_wait.specs.Views.{OpeningView, WaitView}
use Rattle.gp_session_wait.specs.Waits.{PollsWait, IsSameWait, IsStillKept, IsAnswered, is_again, most_repeats}
use Rattle.gp_session_wait.specs.declared.wait.Repeat.{Repeat}
use Rattle.gp_session_wait.specs.declared.wait.Polled.{Polled}
use Rattle.gp_session_wait.specs.declared.wait.Polled.TheVariants as polled
use Rattle.gp_session_http.specs.declared.answering.Answering.{Answering as AnsweringStage}
use Rattle.gp_session_http.specs.declared.asked.Asked.{Asked}
use Rattle.gp_session_http.specs.declared.asking.Asking.{Asking as AskingStage}
use Rattle.gp_session_http.specs.declared.beginning.Beginning.{Beginning as BeginningStage}
use Rattle.gp_session_http.specs.declared.denying.Denying.{Denying as DenyingStage}
use Rattle.gp_session_http.specs.declared.departing.Departing.{Departing as DepartingStage}
use Rattle.gp_session_http.specs.declared.held.Held.TheVariants.{Beginning, Denying, Answering, Departing}
use Rattle.gp_session_http.specs.declared.held.HeldNext.TheVariants.{Go, Wait, Again, End}
use Rattle.gp_session_http.specs.declared.leaving.Parting.{Parting}
use Rattle.gp_session_http.specs.declared.leaving.Parting.TheVariants.{Gone, Wanting}
use Rattle.gp_session_http.specs.declared.poll.Poll.{Poll}
use Rattle.gp_session_http.specs.declared.stage.Ended.{Ended}
use Rattle.gp_session_http.specs.Asking.{IsAskable, asked_after}
use Rattle.gp_session_http.specs.Heard.{aims_with, IsUnattached, IsDeclined, HasAttached, full_text, end_of}
use Rattle.gp_session_http.specs.Holding.{EntriesAtEnd, StreamWaited, HeldLeads}
use Rattle.gp_session_http.specs.LongPolls.{Polling, PollsFor, MayPoll, BeginningTold, DenyingTold, KeepsPoll, IsPollOf, WaitsPoll, PollIs, AnswersPoll, StillPolls, PartsBy, DepartingTold, PollEnds, denied_sent, denied_gone, denied_wanting, unbegun_wanting, unbegun_worn, answered_sent, answered_gone, unput, overflowed, unrepeated, waiting_worn, departed, IsDeniedAt, PollOver, HasAnswered, HasStopped, worn, cut, wanted, IsMissed, HasRepeated, HasDeparted, gone, stays}
use Rattle.gp_session_http.specs.Moves.{IsBegunWith, said}
use Rattle.gp_session_http.specs.Posings.{kept_for}
use Rattle.gp_session_http.specs.Routing.{IsServed as IsRequestServed}
use Rattle.gp_session_http.specs.Trace.{BeginsWith, HeardAs, WasAsked}
use Rattle.gp_session_http.specs.Turns.{Turn, Behind, again, AreHeld, aims_of, specs_before, reports_before}
use Rattle.gp_session_http.specs.Views.{LiveView, Goes}
use Rattle.gp_session_http.proofs.Rows.{no_parts, watch_same}
use Rattle.gp_session_http.proofs.Hearing.{none_waits}
use Rattle.gp_session_http.proofs.Talking.{askable}
use Rattle.gp_session_http.proofs.Granting.{with_held, goes_on, heard_on, heard_none, calls_on, unattached_same, none_more, same_more, none_reported, none_kept}
use Rattle.gp_session_http.proofs.Keeping.{attached_at, over_last, kept_last, last_at, went_client, declined_still, is_gone, reported_now, reported_went, over_more, kept_more, kept_reported, over_reported, over_released, parted}
use Rattle.gp_session_http.proofs.Headlining.{turns_count, front_reports, before_count, same_count}

abbrev polling_on : (v : LiveView) (x : WireView) (u : WatchView) (t : SeatView) (r : Roomy HoldReport) (p : Poll) → Polling v p → MovedWire v.wire x → (heard : List ℕ) → x.link.received ≡ grown v.wire.link.received heard
    → Rose u.start.calls u.clock.calls → WatchRow u → MovedSeat v.seat t → (SeatRow v.seat → SeatRow t) → IsPrefix v.reports.items r.items → Polling (with_held v x u t r) p
polling_on v x u t r p h moved heard received calls times seat row more =
    record { heard = heard_on v x u t r p.asked.value p.exchange.value p.answer.value h.heard moved heard received calls times seat row more; talks = h.talks; wish = h.wish }

-- an end, with the rows of a long poll
poll_end : (u l : LiveView) (n : ℕ) (p : Poll) (e : SessionEnd) (y : Why) → Goes u l → (rows : Polling l p) → EntriesAtEnd false e l.seat → l.reports.items ≡ reports_of (holds_of l.seat) → (e ≢ end.Worn → All IsReleased (holds_of l.seat))
    → PollEnds l rows.heard.turns p e y → (ended : Ended) → ended ≡ record { end = e; why = y } → HeldLeads u l n (End ended)
poll_end u l n p e y moved rows entries reported released says ended is = subst (λ (x : Ended). HeldLeads u l n (End x)) (sym is) (record {
  moved = moved;
  to = record { seat = rows.heard.seat; reported = reported; released = released; by = inr (record { poll = p; rows = rows; entries = entries; says = says }) };
})

-- the hub was asked for the hold

module _ (v : LiveView) (s : BeginningStage) (told : BeginningTold v s) (u : WatchView) (now : ℕ) (uses : Uses v.watch u now) (times : WatchRow v.watch → WatchRow u) (t : SeatView) (r : Roomy HoldReport) (moved : MovedSeat v.seat t) (row : SeatRow v.seat → SeatRow t)
    (items : r.items ≡ v.reports.items) where
  abbrev begun_now : LiveView
  begun_now = with_held v v.wire u t r

  abbrev begun_spec : HoldSpec
  begun_spec = spec_at s.opening now

  pub begun_went : Goes v begun_now
  begun_went = goes_on v v.wire u t r (moved_wire_same v.wire) uses.moved moved

  abbrev begun_rows : Polling begun_now s.poll
  begun_rows = polling_on v v.wire u t r s.poll told.rows (moved_wire_same v.wire) [] (heard_none v.wire.link.received) (calls_on v.watch u now uses told.rows.heard.calls) (times told.rows.heard.times) moved row (same_more v.reports.items r.items items)

  begun_for : PollsFor s.poll now begun_spec
  begun_for = record { instruct = told.opens.instruct; is = told.opens.is; spec_is = told.opens.opens.specs now }

  module _ (entries : EntriesRow v.seat → EntriesRow t) where
    pub begins_wait : (wait : WaitView) → IsBegun s.opening now t wait → OpensTo v.seat t begun_spec r.spare (opened.Kept wait.hold) → HoldsRow t r.items (kept wait.hold) → AttachRow t (specs_before told.rows.heard.turns ++ begun_spec ∷ []) None
        → (since : ℕ) → since ≡ now → WaitsPoll begun_now s.poll wait s.again since
    begins_wait wait b o holds attaches since is = subst (WaitsPoll begun_now s.poll wait s.again) (sym is) (record {
      keeps = record {
        rows = begun_rows;
        attached = record { spec = begun_spec; spec_is = begun_for; attaches = attaches };
        entries = entries told.is.entries;
        holds = holds;
        room = o.room_is;
      };
      served = o.served.free;
      poll_is = record {
        spec_is = subst (PollsFor s.poll now) (sym b.spec_is) begun_for;
        own_is = b.own_is ∙ told.opens.opens.own_is;
        repeats_is = b.repeats_is ∙ told.opens.opens.repeats_is;
      };
      waits = b.waits v.wire told.is.bytes;
      again_is = told.again ∙ ap (λ c. kept_for s.poll.asked.value (may_repeat c s.opening.repeats)) (sym b.channel_is) ∙ ap (λ n. kept_for s.poll.asked.value (may_repeat wait.channel n)) (sym b.repeats_is);
    })

    pub begins_full : OpensTo v.seat t begun_spec r.spare opened.Full → HoldsRow t r.items none → AttachRow t (specs_before told.rows.heard.turns) (Some begun_spec) → IsDeniedAt begun_now s.poll
    begins_full o holds attaches = record {
      rows = begun_rows;
      is = record { spec = begun_spec; spec_is = (now, begun_for); entries = entries told.is.entries; attaches = attaches; holds = holds };
      served = o.free;
      bytes = told.is.bytes;
    }

    module _ (holds : HoldsRow t r.items none) (attaches : AttachRow t (specs_before told.rows.heard.turns) None) where
      unbegun : IsUnattached begun_now told.rows.heard.turns
      unbegun = unattached_same v t r u told.rows.heard.turns (entries told.is.entries) attaches holds told.is

      pub begins_busy : (back : OpeningView) → back ≡ s.opening → OpensTo v.seat t begun_spec r.spare (opened.Busy (spec_at back now)) → HeldLeads v begun_now 5 (Wait (Beginning (record { poll = s.poll; opening = back; again = s.again })))
      begins_busy back is o = record {
        moved = begun_went;
        to = (
          subst (λ (b : OpeningView). BeginningTold begun_now (record { poll = s.poll; opening = b; again = s.again })) (sym is) (record { rows = begun_rows; is = unbegun; served = o.1.free; opens = told.opens; again = told.again }),
          o.1.busy,
          refl,
        );
      }

      pub begins_worn : OpensTo v.seat t begun_spec r.spare opened.Worn → (ended : Ended) → ended ≡ record { end = end.Worn; why = why.Nothing } → HeldLeads v begun_now 5 (End ended)
      begins_worn o ended is = poll_end v begun_now 5 s.poll end.Worn why.Nothing begun_went begun_rows (entries told.is.entries) (none_reported begun_now holds) (λ _. none_kept begun_now holds) (unbegun_worn unbegun o.worn) ended is

      pub begins_wants : (ended : Ended) → ended ≡ record { end = end.NoMemory; why = why.Nothing } → HeldLeads v begun_now 5 (End ended)
      begins_wants ended is = poll_end v begun_now 5 s.poll end.NoMemory why.Nothing begun_went begun_rows (inl (entries told.is.entries)) (none_reported begun_now holds) (λ _. none_kept begun_now holds) (unbegun_wanting unbegun) ended is

-- the client's end alone moved

abbrev polling_wire : (v : LiveView) (x : WireView) (p : Poll) → Polling v p → MovedWire v.wire x → x.link.received ≡ v.wire.link.received → Polling (with_held v x v.watch v.seat v.reports) p
polling_wire v x p h moved same = polling_on v x v.watch v.seat v.reports p h moved [] (same ∙ heard_none v.wire.link.received) h.heard.calls h.heard.times (moved_seat_same v.seat) (λ row. row) (none_more v.reports.items)

-- the refusal is put
module _ (v : LiveView) (p : Poll) (h : IsDeniedAt v p) (x : WireView) (start : x.start ≡ v.wire.start) (link : x.link ≡ v.wire.link) where
  deny_moved : (more : List ℕ) → x.rest ≡ v.wire.rest ++ more → MovedWire v.wire x
  deny_moved more rest = moved_put v.wire x more start link rest

  deny_none : x.rest ≡ v.wire.rest → MovedWire v.wire x
  deny_none rest = moved_none_put v.wire x start link rest

  deny_received : x.link.received ≡ v.wire.link.received
  deny_received = ap (λ (t : LinkTells). t.received) link

  pub denies : x.rest ≡ v.wire.rest ++ full_text → HeldLeads v (with_held v x v.watch v.seat v.reports) 5 (Go (Denying (record { poll = p })))
  denies rest = record {
    moved = went_client v x (deny_moved full_text rest) deny_received;
    to = (
      record {
        rows = polling_wire v x p h.rows (deny_moved full_text rest) deny_received;
        is = declined_still v x (deny_moved full_text rest) deny_received h.rows.heard.turns (MayPoll p) h.is;
        served = h.served;
        bytes = sent_put v.wire x [] full_text h.bytes start link rest;
      },
      omega arith,
      tt,
    );
  }

  pub denies_not : x.rest ≡ v.wire.rest → (ended : Ended) → ended ≡ record { end = end.NoMemory; why = why.Full } → HeldLeads v (with_held v x v.watch v.seat v.reports) 5 (End ended)
  denies_not rest ended is = poll_end v (with_held v x v.watch v.seat v.reports) 5 p end.NoMemory why.Full (went_client v x (deny_none rest) deny_received) (polling_wire v x p h.rows (deny_none rest) deny_received) (inl h.is.entries) (none_reported v h.is.holds) (λ _. none_kept v h.is.holds)
      (denied_wanting (declined_still v x (deny_none rest) deny_received h.rows.heard.turns (MayPoll p) h.is) (sent_same v.wire x [] h.bytes start (ap (λ (t : LinkTells). t.sent) link) rest)) ended is

module _ (v : LiveView) (s : DenyingStage) (h : DenyingTold v s) (x : WireView) (f : Flushed) (fl : Flushes v.wire x f) where
  denied_now : Goes v (with_held v x v.watch v.seat v.reports)
  denied_now = went_client v x (moved_flushed v.wire x f fl) fl.passed.received

  abbrev denied_rows : Polling (with_held v x v.watch v.seat v.reports) s.poll
  denied_rows = polling_wire v x s.poll h.rows (moved_flushed v.wire x f fl) fl.passed.received

  still_denied : IsDeclined (with_held v x v.watch v.seat v.reports) h.rows.heard.turns (MayPoll s.poll)
  still_denied = declined_still v x (moved_flushed v.wire x f fl) fl.passed.received h.rows.heard.turns (MayPoll s.poll) h.is

  denied_bytes : BytesRow x (exactly full_text)
  denied_bytes = sent_flushed v.wire x full_text f h.bytes fl

  denied_end : (e : SessionEnd) → EntriesAtEnd false e v.seat → PollEnds (with_held v x v.watch v.seat v.reports) h.rows.heard.turns s.poll e why.Full → (ended : Ended) → ended ≡ record { end = e; why = why.Full }
      → HeldLeads v (with_held v x v.watch v.seat v.reports) 1 (End ended)
  denied_end e entries says ended is = poll_end v (with_held v x v.watch v.seat v.reports) 1 s.poll e why.Full denied_now denied_rows entries (none_reported v h.is.holds) (λ _. none_kept v h.is.holds) says ended is

pub denying_sent : (v : LiveView) (s : DenyingStage) (h : DenyingTold v s) (x : WireView) → Flushes v.wire x flushed.Empty → (ended : Ended) → ended ≡ record { end = end.Sent 503; why = why.Full } → HeldLeads v (with_held v x v.watch v.seat v.reports) 1 (End ended)
denying_sent v s h x fl ended is =
    denied_end v s h x flushed.Empty fl (end.Sent 503) h.is.entries (denied_sent (still_denied v s h x flushed.Empty fl) (denied_bytes v s h x flushed.Empty fl) fl.cause.0) ended is

pub denying_gone : (v : LiveView) (s : DenyingStage) (h : DenyingTold v s) (x : WireView) → Flushes v.wire x flushed.Failed → (ended : Ended) → ended ≡ record { end = end.ClientGone; why = why.Full } → HeldLeads v (with_held v x v.watch v.seat v.reports) 1 (End ended)
denying_gone v s h x fl ended is =
    denied_end v s h x flushed.Failed fl end.ClientGone (inl h.is.entries)
    (denied_gone (still_denied v s h x flushed.Failed fl) (denied_bytes v s h x flushed.Failed fl) (rose_since v.wire x (λ (t : LinkTells). t.faults) fl.start h.rows.heard.links.faults fl.cause.1)) ended is

pub denying_waits : (v : LiveView) (s : DenyingStage) (h : DenyingTold v s) (x : WireView) → Flushes v.wire x flushed.NotReady → HeldLeads v (with_held v x v.watch v.seat v.reports) 1 (Wait (Denying s))
denying_waits v s h x fl = record {
  moved = denied_now v s h x flushed.NotReady fl;
  to = (
    record { rows = denied_rows v s h x flushed.NotReady fl; is = still_denied v s h x flushed.NotReady fl; served = h.served; bytes = denied_bytes v s h x flushed.NotReady fl },
    record { some = fl.cause.0; waited = fl.cause.1 },
    refl,
  );
}

-- the client was heard, and the hold was looked at

asked_by : (p : Poll) (moment : ℕ) (v : WaitView) (held : HoldSpec) → IsPollOf p moment v → held ≡ v.spec → MayPoll p held
asked_by p moment v held is same = (moment, subst (PollsFor p moment) (sym same) is.spec_is)

still_polls : (l : LiveView) (p : Poll) (moment : ℕ) (v : WaitView) (hold : KeptView) → IsPollOf p moment v → IsStillKept v l.wire l.seat hold → StillPolls l p hold
still_polls l p moment v hold is k = record { share = k.share; is = k.is; asked_for = asked_by p moment v k.share.spec is k.spec_is; bytes = k.bytes }

module _ (v : LiveView) (p : Poll) (wait : WaitView) (kept_again : Option Asked) (since : ℕ) (h : WaitsPoll v p wait kept_again since) (u : WatchView) (now : ℕ) (uses : Uses v.watch u now) (times : WatchRow v.watch → WatchRow u) (x : WireView) (t : SeatView) where
  abbrev heard_now : LiveView
  heard_now = with_held v x u t v.reports

  module _ (answer : Polled) (w : PollsWait wait v.wire x v.seat t now answer) where
    pub wait_went : Goes v heard_now
    wait_went = goes_on v x u t v.reports w.wire uses.moved w.seat

    abbrev wait_rows : Polling heard_now p
    wait_rows = polling_on v x u t v.reports p h.keeps.rows w.wire w.heard w.received (calls_on v.watch u now uses h.keeps.rows.heard.calls) (times h.keeps.rows.heard.times) w.seat w.row (none_more v.reports.items)

    wait_attached : HasAttached heard_now h.keeps.rows.heard.turns (PollsFor p since)
    wait_attached = record { spec = h.keeps.attached.spec; spec_is = h.keeps.attached.spec_is; attaches = w.attaches (specs_before h.keeps.rows.heard.turns ++ h.keeps.attached.spec ∷ []) None h.keeps.attached.attaches }

    wait_keeps : (hold : KeptView) → HoldsRow t v.reports.items (kept hold) → KeepsPoll heard_now p since hold
    wait_keeps hold holds = record { rows = wait_rows; attached = wait_attached; entries = w.entries h.keeps.entries; holds = holds; room = h.keeps.room }

    wait_over : (hold : KeptView) (o : Option EndCause) (Is : WaitView → Type 0) → HoldsRow t v.reports.items (over hold o) → Is wait → PollOver heard_now p hold o Is
    wait_over hold o Is holds is = record { rows = wait_rows; moment = since; attached = wait_attached; entries = w.entries h.keeps.entries; holds = holds; room = h.keeps.room; wait = wait; poll_is = h.poll_is; is = is }

  same_poll : (y : WaitView) → IsSameWait wait y → IsPollOf p since y
  same_poll y same = record { spec_is = subst (PollsFor p since) (sym same.spec) h.poll_is.spec_is; own_is = same.own ∙ h.poll_is.own_is; repeats_is = same.repeats ∙ h.poll_is.repeats_is }

  pub waits_told : (y : WaitView) → PollsWait wait v.wire x v.seat t now (polled.Waits y) → WaitsPoll heard_now p y kept_again since
  waits_told y w = record {
    keeps = wait_keeps (polled.Waits y) w y.hold (w.holds v.reports.items h.keeps.holds);
    served = w.serves h.served;
    poll_is = same_poll y w.says.same;
    waits = w.says.waits;
    again_is = h.again_is ∙ ap (λ c. kept_for p.asked.value (may_repeat c wait.repeats)) (sym w.says.same.channel) ∙ ap (λ n. kept_for p.asked.value (may_repeat y.channel n)) (sym w.says.same.repeats);
  }

  pub waits_on : (y : WaitView) → PollsWait wait v.wire x v.seat t now (polled.Waits y) → StreamWaited v heard_now y.hold.number
  waits_on y w = subst (StreamWaited v heard_now) (sym w.says.same.number) (record {
    wire = v.wire;
    seat = v.seat;
    moved_wire = moved_wire_same v.wire;
    moved_seat = moved_seat_same v.seat;
    now = now;
    moment = uses.moment;
    last = times h.keeps.rows.heard.times now uses.moment;
    heard = w.heard;
    received = w.received;
    pends = w.says.pends;
  })

  pub wait_answered : (hold : KeptView) (cause : EndCause) (code : ℕ) → PollsWait wait v.wire x v.seat t now (polled.Answered hold cause code) → HasAnswered heard_now p hold cause code
  wait_answered hold cause code w = record {
    over = wait_over (polled.Answered hold cause code) w hold (Some cause) (λ (y : WaitView). IsAnswered y x t hold cause code) (w.holds v.reports.items h.keeps.holds) w.says;
    served = w.serves h.served;
  }

  pub wait_repeated : (r : Repeat) → PollsWait wait v.wire x v.seat t now (polled.Retry r) → HasRepeated heard_now p kept_again r
  wait_repeated r w = record {
    over = wait_over (polled.Retry r) w r.hold (Some cause_is.Retry) (IsMissed heard_now p kept_again r) (w.holds v.reports.items h.keeps.holds) (record { retried = w.says; form = h.waits.form; kept_is = h.again_is });
    served = w.serves h.served;
  }

  pub wait_overflowed : (hold : KeptView) → PollsWait wait v.wire x v.seat t now (polled.Overflow hold) → HasStopped heard_now p hold (Some cause_is.Overflow) (end.Cut cause_is.Overflow)
  wait_overflowed hold w = cut (wait_over (polled.Overflow hold) w hold (Some cause_is.Overflow) _ (w.holds v.reports.items h.keeps.holds) w.says)

  pub wait_unput : (hold : KeptView) (cause : EndCause) → PollsWait wait v.wire x v.seat t now (polled.Unput hold cause) → HasStopped heard_now p hold (Some cause) end.NoMemory
  wait_unput hold cause w = wanted cause (wait_over (polled.Unput hold cause) w hold (Some cause) _ (w.holds v.reports.items h.keeps.holds) w.says)

  pub wait_worn : (hold : KeptView) → PollsWait wait v.wire x v.seat t now (polled.Worn hold) → HasStopped heard_now p hold None end.Worn
  wait_worn hold w = worn (record {
    moment = since;
    keeps = wait_keeps (polled.Worn hold) w hold (w.holds v.reports.items h.keeps.holds);
    still = still_polls heard_now p since wait hold h.poll_is w.says;
    worn = w.serves;
  })

  pub wait_gone : (hold : KeptView) → PollsWait wait v.wire x v.seat t now (polled.Gone hold) → HeldLeads v heard_now 4 (Go (Departing (record { poll = p; hold = hold; parting = Gone })))
  wait_gone hold w = record {
    moved = wait_went (polled.Gone hold) w;
    to = (
      record {
        moment = since;
        keeps = wait_keeps (polled.Gone hold) w hold (w.holds v.reports.items h.keeps.holds);
        served = w.serves h.served;
        still = still_polls heard_now p since wait hold h.poll_is w.says.0;
        by = is_gone v x h.keeps.rows.heard.links w.wire w.says.1;
      },
      omega arith,
      tt,
    );
  }

  pub wait_wants : (hold : KeptView) → PollsWait wait v.wire x v.seat t now (polled.NoMemory hold) → HeldLeads v heard_now 4 (Go (Departing (record { poll = p; hold = hold; parting = Wanting })))
  wait_wants hold w = record {
    moved = wait_went (polled.NoMemory hold) w;
    to = (
      record {
        moment = since;
        keeps = wait_keeps (polled.NoMemory hold) w hold (w.holds v.reports.items h.keeps.holds);
        served = w.serves h.served;
        still = still_polls heard_now p since wait hold h.poll_is w.says;
        by = tt;
      },
      omega arith,
      tt,
    );
  }

-- the hold is reported

module _ (v : LiveView) (r : Roomy HoldReport) where
  abbrev reported_poll : (p : Poll) → Polling v p → IsPrefix v.reports.items r.items → Polling (reported_now v r) p
  reported_poll p h more = polling_on v v.wire v.watch v.seat r p h (moved_wire_same v.wire) [] (heard_none v.wire.link.received) h.heard.calls h.heard.times (moved_seat_same v.seat) (λ row. row) more

  poll_is_over : (p : Poll) (hold : KeptView) (o : Option EndCause) (Is : WaitView → Type 0) (k : PollOver v p hold o Is) → HoldsRow v.seat r.items none → PollIs (reported_now v r) k.rows.heard.turns p hold Is
  poll_is_over p hold o Is k row = record {
    moment = k.moment;
    attached = attached_at v (reported_now v r) k.rows.heard.turns (PollsFor p k.moment) refl k.attached;
    own = last_at v (reported_now v r) hold refl (over_last v v.reports.items hold o k.holds);
    entries = k.entries;
    holds = row;
    wait = k.wait;
    poll_is = k.poll_is;
    is = k.is;
  }

  pub answers_told : (p : Poll) (hold : KeptView) (cause : EndCause) (code : ℕ) → HasAnswered v p hold cause code → HoldsRow v.seat r.items none
      → ((share : Share) → IsCounted hold share → Some cause ≡ share.told → r.items ≡ v.reports.items ++ report hold.number share ∷ []) → (k : KeptView) → k ≡ hold → AnswersPoll (reported_now v r) p k cause code
  answers_told p hold cause code h row says k is = subst (λ (y : KeptView). AnswersPoll (reported_now v r) p y cause code) (sym is) (record {
    rows = reported_poll p h.over.rows (over_more v r hold (Some cause) h.over.holds says);
    served = h.served;
    is = poll_is_over p hold (Some cause) (λ (y : WaitView). IsAnswered y v.wire v.seat hold cause code) h.over row;
  })

  pub stops_poll : (p : Poll) (hold : KeptView) (o : Option EndCause) (e : SessionEnd) → HasStopped v p hold o e → ((share : Share) → IsCounted hold share → o ≡ share.told → r.items ≡ v.reports.items ++ report hold.number share ∷ [])
      → (HoldsRow v.seat v.reports.items (over hold o) → HoldsRow v.seat r.items none) → (ended : Ended) → ended ≡ record { end = e; why = why.Nothing } → HeldLeads v (reported_now v r) 4 (End ended)
  stops_poll p hold o e (worn k) says on ended is = poll_end v (reported_now v r) 4 p end.Worn why.Nothing (reported_went v r) (reported_poll p k.keeps.rows (kept_more v r hold k.keeps.holds says)) k.keeps.entries (kept_reported v r hold k.keeps.holds says) (λ no. absurd (no refl))
      (waiting_worn k.moment hold (attached_at v (reported_now v r) k.keeps.rows.heard.turns (PollsFor p k.moment) refl k.keeps.attached) (last_at v (reported_now v r) hold refl (kept_last v v.reports.items hold k.keeps.holds)) (record { share = k.still.share; is = k.still.is; asked_for = k.still.asked_for; bytes = k.still.bytes }) k.worn) ended is
  stops_poll p hold o e (cut k) says on ended is = poll_end v (reported_now v r) 4 p (end.Cut cause_is.Overflow) why.Nothing (reported_went v r) (reported_poll p k.rows (over_more v r hold (Some cause_is.Overflow) k.holds says)) k.entries (over_reported v r (on k.holds)) (λ _. over_released v r (on k.holds))
      (overflowed hold (poll_is_over p hold (Some cause_is.Overflow) _ k (on k.holds)) (none_waits v.wire k.is.bytes)) ended is
  stops_poll p hold o e (wanted cause k) says on ended is = poll_end v (reported_now v r) 4 p end.NoMemory why.Nothing (reported_went v r) (reported_poll p k.rows (over_more v r hold (Some cause) k.holds says)) (inl k.entries) (over_reported v r (on k.holds)) (λ _. over_released v r (on k.holds))
      (unput hold cause (poll_is_over p hold (Some cause) _ k (on k.holds))) ended is

  parts_again : (q : Parting) → PartsBy q v → PartsBy q (reported_now v r)
  parts_again Gone b = b
  parts_again Wanting b = tt

  pub departs_by : (s : DepartingStage) (e : SessionEnd) → HasDeparted v s e → ((share : Share) → IsCounted s.hold share → None ≡ share.told → r.items ≡ v.reports.items ++ report s.hold.number share ∷ [])
      → (HoldsRow v.seat v.reports.items (over s.hold None) → HoldsRow v.seat r.items none) → (ended : Ended) → ended ≡ record { end = e; why = why.Nothing } → HeldLeads v (reported_now v r) 1 (End ended)
  departs_by s e (gone k) says on ended is = poll_end v (reported_now v r) 1 s.poll (end_of s.parting) why.Nothing (reported_went v r) (reported_poll s.poll k.rows (over_more v r s.hold None k.holds says)) (parted v r false s.parting s.hold.number k.detached) (over_reported v r (on k.holds))
      (λ _. over_released v r (on k.holds))
      (departed k.moment s.hold s.parting k.share (attached_at v (reported_now v r) k.rows.heard.turns (PollsFor s.poll k.moment) refl k.attached) (last_at v (reported_now v r) s.hold refl (over_last v v.reports.items s.hold None k.holds)) k.detached k.is k.asked_for k.bytes (parts_again s.parting k.by)) ended is
  departs_by s e (stays k) says on ended is = poll_end v (reported_now v r) 1 s.poll end.Worn why.Nothing (reported_went v r) (reported_poll s.poll k.keeps.rows (kept_more v r s.hold k.keeps.holds says)) k.keeps.entries (kept_reported v r s.hold k.keeps.holds says) (λ no. absurd (no refl))
      (waiting_worn k.moment s.hold (attached_at v (reported_now v r) k.keeps.rows.heard.turns (PollsFor s.poll k.moment) refl k.keeps.attached) (last_at v (reported_now v r) s.hold refl (kept_last v v.reports.items s.hold k.keeps.holds)) (record { share = k.still.share; is = k.still.is; asked_for = k.still.asked_for; bytes = k.still.bytes }) k.worn) ended is

-- the answer is sent

module _ (v : LiveView) (s : AnsweringStage) (h : AnswersPoll v s.poll s.hold.value s.cause s.code) (x : WireView) (f : Flushed) (fl : Flushes v.wire x f) where
  answer_now : Goes v (with_held v x v.watch v.seat v.reports)
  answer_now = went_client v x (moved_flushed v.wire x f fl) fl.passed.received

  abbrev answer_rows : Polling (with_held v x v.watch v.seat v.reports) s.poll
  answer_rows = polling_wire v x s.poll h.rows (moved_flushed v.wire x f fl) fl.passed.received

  still_answers : PollIs (with_held v x v.watch v.seat v.reports) h.rows.heard.turns s.poll s.hold.value (λ (y : WaitView). IsAnswered y x v.seat s.hold.value s.cause s.code)
  still_answers = record {
    moment = h.is.moment;
    attached = attached_at v (with_held v x v.watch v.seat v.reports) h.rows.heard.turns (PollsFor s.poll h.is.moment) refl h.is.attached;
    own = last_at v (with_held v x v.watch v.seat v.reports) s.hold.value refl h.is.own;
    entries = h.is.entries;
    holds = h.is.holds;
    wait = h.is.wait;
    poll_is = h.is.poll_is;
    is = record { share = h.is.is.share; ended = h.is.is.ended; answer = h.is.is.answer; chosen = h.is.is.chosen; code_is = h.is.is.code_is; bytes = sent_flushed v.wire x _ f h.is.is.bytes fl };
  }

  answer_end : (e : SessionEnd) → EntriesAtEnd false e v.seat → PollEnds (with_held v x v.watch v.seat v.reports) h.rows.heard.turns s.poll e why.Nothing → (ended : Ended) → ended ≡ record { end = e; why = why.Nothing }
      → HeldLeads v (with_held v x v.watch v.seat v.reports) 1 (End ended)
  answer_end e entries says ended is = poll_end v (with_held v x v.watch v.seat v.reports) 1 s.poll e why.Nothing answer_now answer_rows entries (none_reported v h.is.holds) (λ _. none_kept v h.is.holds) says ended is

pub answering_sent : (v : LiveView) (s : AnsweringStage) (h : AnswersPoll v s.poll s.hold.value s.cause s.code) (x : WireView) → Flushes v.wire x flushed.Empty → (ended : Ended) → ended ≡ record { end = end.Sent s.code; why = why.Nothing }
    → HeldLeads v (with_held v x v.watch v.seat v.reports) 1 (End ended)
answering_sent v s h x fl ended is = answer_end v s h x flushed.Empty fl (end.Sent s.code) h.is.entries (answered_sent s.hold.value s.cause s.code (still_answers v s h x flushed.Empty fl) fl.cause.0) ended is

pub answering_gone : (v : LiveView) (s : AnsweringStage) (h : AnswersPoll v s.poll s.hold.value s.cause s.code) (x : WireView) → Flushes v.wire x flushed.Failed → (ended : Ended) → ended ≡ record { end = end.ClientGone; why = why.Nothing }
    → HeldLeads v (with_held v x v.watch v.seat v.reports) 1 (End ended)
answering_gone v s h x fl ended is = answer_end v s h x flushed.Failed fl end.ClientGone (inl h.is.entries)
    (answered_gone s.hold.value s.cause s.code (still_answers v s h x flushed.Failed fl) (rose_since v.wire x (λ (t : LinkTells). t.faults) fl.start h.rows.heard.links.faults fl.cause.1)) ended is

pub answering_waits : (v : LiveView) (s : AnsweringStage) (h : AnswersPoll v s.poll s.hold.value s.cause s.code) (x : WireView) → Flushes v.wire x flushed.NotReady → HeldLeads v (with_held v x v.watch v.seat v.reports) 1 (Wait (Answering s))
answering_waits v s h x fl = record {
  moved = answer_now v s h x flushed.NotReady fl;
  to = (
    record { rows = answer_rows v s h x flushed.NotReady fl; served = h.served; is = still_answers v s h x flushed.NotReady fl },
    record { some = fl.cause.0; waited = fl.cause.1 },
    refl,
  );
}

-- the hold is let go

module _ (v : LiveView) (s : DepartingStage) (h : DepartingTold v s) (t : SeatView) (moved : MovedSeat v.seat t) (row : SeatRow v.seat → SeatRow t) (attaches : (specs : List HoldSpec) (refused : Option HoldSpec) → AttachRow v.seat specs refused → AttachRow t specs refused) where
  abbrev gone_poll : LiveView
  gone_poll = with_held v v.wire v.watch t v.reports

  pub depart_went : Goes v gone_poll
  depart_went = goes_on v v.wire v.watch t v.reports (moved_wire_same v.wire) (watch_same v.watch) moved

  abbrev depart_rows : Polling gone_poll s.poll
  depart_rows = polling_on v v.wire v.watch t v.reports s.poll h.keeps.rows (moved_wire_same v.wire) [] (heard_none v.wire.link.received) h.keeps.rows.heard.calls h.keeps.rows.heard.times moved row (none_more v.reports.items)

  depart_attached : HasAttached gone_poll h.keeps.rows.heard.turns (PollsFor s.poll h.moment)
  depart_attached = record { spec = h.keeps.attached.spec; spec_is = h.keeps.attached.spec_is; attaches = attaches (specs_before h.keeps.rows.heard.turns ++ h.keeps.attached.spec ∷ []) None h.keeps.attached.attaches }

  parts_on : (q : Parting) → PartsBy q v → PartsBy q gone_poll
  parts_on Gone b = b
  parts_on Wanting b = tt

  pub depart_gone : DetachedRow false t s.hold.number → HoldsRow t v.reports.items (over s.hold None) → ((share : Share) → IsKept v.seat s.hold share → LeavesHold t s.hold share let_go_is.Gone) → (e : SessionEnd) → e ≡ end_of s.parting → HasDeparted gone_poll s e
  depart_gone detached holds leaves e is = subst (HasDeparted gone_poll s) (sym is) (gone (record {
    rows = depart_rows;
    moment = h.moment;
    attached = depart_attached;
    detached = detached;
    holds = holds;
    room = h.keeps.room;
    share = share_gone h.still.share;
    is = leaves h.still.share h.still.is;
    asked_for = h.still.asked_for;
    bytes = h.still.bytes;
    by = parts_on s.parting h.by;
  }))

  module _ (entries : EntriesRow t) (holds : HoldsRow t v.reports.items (kept s.hold)) (on : (share : Share) → IsKept v.seat s.hold share → IsKept t s.hold share) where
    depart_keeps : KeepsPoll gone_poll s.poll h.moment s.hold
    depart_keeps = record { rows = depart_rows; attached = depart_attached; entries = entries; holds = holds; room = h.keeps.room }

    depart_still : StillPolls gone_poll s.poll s.hold
    depart_still = record { share = h.still.share; is = on h.still.share h.still.is; asked_for = h.still.asked_for; bytes = h.still.bytes }

    pub depart_worn : IsWorn t → HasDeparted gone_poll s end.Worn
    depart_worn is = stays (record { moment = h.moment; keeps = depart_keeps; still = depart_still; worn = is })

    pub depart_busy : IsServed t → Busied v.seat t → HeldLeads v gone_poll 1 (Wait (Departing s))
    depart_busy served busy = record { moved = depart_went; to = (record { moment = h.moment; keeps = depart_keeps; served = served; still = depart_still; by = parts_on s.parting h.by }, busy, refl) }

-- the request is repeated

heard_again : (Is : List ℕ → Type 0) (received : List ℕ) (m n : ℕ) → m ≡ n + 1 → BeginsWith Is received → HeardAs m Is received
heard_again Is received zero n e b = absurd (omega (arith, e))
heard_again Is received (suc m) n e b = b

push_held : (s : SeatView) (turns : List Turn) (turn : Turn) → AreHeld s turns → AreHeld s (turn ∷ []) → AreHeld s (turns ++ turn ∷ [])
push_held s [] turn h one = one
push_held s (t ∷ ts) turn h one = (h.0, push_held s ts turn h.1 one)

some_same : {A : Type 0} {x y : A} → Some x ≡ Some y → x ≡ y
some_same e = cc

same_spec : (p : Poll) (now : ℕ) (a b : HoldSpec) → PollsFor p now a → PollsFor p now b → a ≡ b
same_spec p now a b f g =
    let instruct : f.instruct ≡ g.instruct = some_same (sym f.is ∙ g.is) in
    some_same (sym f.spec_is ∙ ap (λ (i : Instruct). spec i [] now (is_again p.asked.value.repeats)) instruct ∙ g.spec_is)

may_be : (channel : Option (List ℕ)) (item : List ℕ) (repeats : ℕ) → channel ≡ Some item → repeats < most_repeats → may_repeat channel repeats ≡ true
may_be channel item repeats is few = ap (λ (c : Option (List ℕ)). is_some c && nat_lt repeats most_repeats) is ∙ below repeats few
  where
    below : (n : ℕ) → n < most_repeats → nat_lt n most_repeats ≡ true
    below n lt = grind (arith, nat_tests, lt)

module _ (v : LiveView) (p : Poll) (kept_again : Option Asked) (r : Repeat) (h : HasRepeated v p kept_again r) where
  missed : IsMissed v p kept_again r h.over.wait
  missed = h.over.is

  pub request_kept : kept_again ≡ Some p.asked.value
  request_kept = missed.kept_is ∙ ap (kept_for p.asked.value) (may_be h.over.wait.channel r.last.channel h.over.wait.repeats missed.retried.channel missed.retried.few)

  pub asked_again_is : (o : Option Asked) (moment : ℕ) (asked : Asked) → o ≡ option_map (asked_after r.last r.count moment) kept_again → o ≡ Some asked → asked ≡ asked_after r.last r.count moment p.asked.value
  asked_again_is o moment asked by is =
      let all : Some asked ≡ Some (asked_after r.last r.count moment p.asked.value) = sym is ∙ by ∙ ap (λ (k : Option Asked). option_map (asked_after r.last r.count moment) k) request_kept in
      some_same all

  pub never_none : (o : Option Asked) (moment : ℕ) → o ≡ option_map (asked_after r.last r.count moment) kept_again → o ≡ None → ⊥
  never_none o moment by is =
      let all : None ≡ Some (asked_after r.last r.count moment p.asked.value) = sym is ∙ by ∙ ap (λ (k : Option Asked). option_map (asked_after r.last r.count moment) k) request_kept in
      cc

  pub asks_again : ForwardLaw → (moment : ℕ) (asked : Asked) → asked ≡ asked_after r.last r.count moment p.asked.value → IsAskable asked
  asks_again law moment asked is =
      let b = h.over.rows.heard.request.asks in
      subst IsAskable (sym is) (askable law v.charter.rules b.used (asked_after r.last r.count moment p.asked.value) b.is)

  count_is : r.count ≡ p.asked.value.repeats + 1
  count_is = missed.retried.count ∙ ap (λ (n : ℕ). n + 1) h.over.poll_is.repeats_is

  module _ (q : Roomy HoldReport) (says : (share : Share) → IsCounted r.hold share → Some cause_is.Retry ≡ share.told → q.items ≡ v.reports.items ++ report r.hold.number share ∷ []) (row : HoldsRow v.seat q.items none) (u : WatchView) (moment : ℕ) (uses : Uses v.watch u moment)
      (times : WatchRow v.watch → WatchRow u) where
    abbrev pub again_now : LiveView
    again_now = with_held v v.wire u v.seat q

    again_went : Goes v again_now
    again_went = goes_on v v.wire u v.seat q (moved_wire_same v.wire) uses.moved (moved_seat_same v.seat)

    abbrev this_turn : Turn
    this_turn = record {
      asked = p.asked.value;
      exchange = p.exchange.value;
      content = h.over.rows.heard.content;
      answer = p.answer.value;
      moment = h.over.moment;
      number = r.hold.number;
      share = missed.retried.share;
    }

    grown_reports : q.items ≡ v.reports.items ++ report r.hold.number missed.retried.share ∷ []
    grown_reports = says missed.retried.share missed.retried.ended.is.counted (sym missed.retried.ended.is.told_is)

    before_reports : v.reports.items ≡ reports_before h.over.rows.heard.turns
    before_reports = h.over.holds.reported ∙ front_reports h.over.holds.done h.over.rows.heard.turns [] h.over.rows.heard.told.0 (append-nil (reports_of h.over.holds.done) ∙ sym h.over.holds.reported ∙ sym h.over.rows.heard.told.1) count
      where
        count : length h.over.holds.done ≡ length h.over.rows.heard.turns
        count = same_count (holds_of v.seat) h.over.holds.done (r.hold.number, h.over.holds.stands.share) h.over.rows.heard.turns h.over.attached.spec h.over.holds.stands.all h.over.attached.attaches.holds

    behind_again : (asked : Asked) → asked ≡ asked_after r.last r.count moment p.asked.value → Behind v.charter (h.over.rows.heard.turns ++ this_turn ∷ []) asked
    behind_again asked is = subst (Behind v.charter (h.over.rows.heard.turns ++ this_turn ∷ [])) (sym is) (again h.over.rows.heard.turns this_turn (asked_after r.last r.count moment p.asked.value) h.over.rows.heard.behind
        (record {
          aim = h.over.rows.heard.aim;
          answers = h.over.rows.heard.answers;
          wish = h.over.rows.wish;
          spec_is = subst (PollsFor p h.over.moment) (sym missed.retried.ended.spec_is) h.over.poll_is.spec_is;
          released = missed.retried.ended.is.released;
          told = missed.retried.ended.is.told_is;
        })
        (record {
          request = refl;
          address = refl;
          count = count_is;
          few = let few = missed.retried.few in let is_count = missed.retried.count in omega (arith, few, is_count);
          item = r.last;
          last_is = refl;
          channel = (missed.form.channels, missed.form.prev, missed.form.deadline, is_again h.over.wait.repeats, missed.retried.ended.spec_is ∙ missed.form.spec_is, sym missed.form.channel_is ∙ missed.retried.channel);
          id = missed.retried.id_is;
        }))

    pub repeats : (stage : AskingStage) → stage.asked ≡ asked_after r.last r.count moment p.asked.value → IsBegunWith v.charter.signer stage.asked stage → HeldLeads v again_now 4 (Again stage)
    repeats stage is begun =
        let heard = h.over.rows.heard in
        let x = stage.exchange in
        let here : x ≡ record { asked = x.asked; place = place.Unbegun x.asked.request } = ap (λ (q : Place). record { asked = x.asked; place = q }) begun.begins.unbegun in
        let aims : aims_with heard.turns p.exchange.value heard.content ≡ aims_of (heard.turns ++ this_turn ∷ []) =
        sym (map-append (λ (t : Turn). aim_of (said t.exchange t.content)) heard.turns (this_turn ∷ [])) in
        let spec_same : h.over.attached.spec ≡ missed.retried.share.spec =
        same_spec p h.over.moment h.over.attached.spec missed.retried.share.spec h.over.attached.spec_is (subst (PollsFor p h.over.moment) (sym missed.retried.ended.spec_is) h.over.poll_is.spec_is) in
        let specs : specs_before heard.turns ++ h.over.attached.spec ∷ [] ≡ specs_before (heard.turns ++ this_turn ∷ []) =
        ap (λ (s : HoldSpec). specs_before heard.turns ++ s ∷ []) spec_same ∙ sym (map-append (λ (t : Turn). t.share.spec) heard.turns (this_turn ∷ [])) in
        record {
          moved = again_went;
          to = (
            record {
              told = record {
                given = [];
                parts = [];
                cut = no_parts;
                request = record {
                  received = heard.request.received;
                  since = heard.request.since;
                  asks = subst (λ (a : Asked). HeardAs a.repeats (IsRequestServed v.charter.rules a.request a.address) heard.request.received) (sym is)
                      (heard_again (IsRequestServed v.charter.rules p.asked.value.request p.asked.value.address) heard.request.received r.count p.asked.value.repeats count_is heard.request.asks);
                };
                talks = record {
                  turns = heard.turns ++ this_turn ∷ [];
                  behind = behind_again stage.asked is;
                  held = push_held v.seat heard.turns this_turn heard.held (missed.retried.ended.is.there, tt);
                  talks = λ alone. subst (λ (y : ExchangeView). LineRow v.line (aims_of (heard.turns ++ this_turn ∷ [])) (speaking (said y []))) (sym here)
                      (begins_talk v.line (aims_of (heard.turns ++ this_turn ∷ [])) x.asked x.asked.request
                      (subst (λ (a : List Aim). LineRow v.line a idle) aims (h.over.rows.talks alone)));
                  entries = h.over.entries;
                  attaches = subst (λ (ss : List HoldSpec). AttachRow v.seat ss None) specs h.over.attached.attaches;
                  holds = row;
                  told = grown_reports ∙ ap (λ (rs : List HoldReport). rs ++ report r.hold.number missed.retried.share ∷ []) before_reports ∙ sym (map-append (λ (t : Turn). report t.number t.share) heard.turns (this_turn ∷ []));
                };
                aim = begun.begins.asks;
                at = record { early = subst (λ (q : Place). rank q < 4) (sym begun.begins.unbegun) (omega arith); none = ap head_of begun.begins.unbegun };
                bytes = missed.retried.bytes;
                times = subst (λ (a : Asked). WasAsked u a.moment) (sym is) (record { last = times heard.times moment uses.moment; calls = calls_on v.watch u moment uses heard.calls; row = times heard.times });
                stays = record { seat = heard.seat; served = h.served; links = heard.links; dials = heard.dials };
              };
              timed = uses.moment ∙ ap (λ (a : Asked). Some a.moment) (sym is);
              count = ap (λ (rs : List HoldReport). length rs) grown_reports ∙ length-append v.reports.items (report r.hold.number missed.retried.share ∷ []);
              few =
                  let turns = ap (λ (rs : List HoldReport). length rs) before_reports in
                  let counted = before_count heard.turns in
                  let number = turns_count v.charter heard.turns p.asked.value heard.behind in
                  let same = h.over.poll_is.repeats_is in
                  let few = missed.retried.few in
                  omega (arith, turns, counted, number, same, few);
            },
            omega arith,
          );
        }

    pub repeats_not : (ended : Ended) → ended ≡ record { end = end.NoMemory; why = why.Nothing } → HeldLeads v again_now 4 (End ended)
    repeats_not ended is =
        poll_end v again_now 4 p end.NoMemory why.Nothing again_went
        (polling_on v v.wire u v.seat q p h.over.rows (moved_wire_same v.wire) [] (heard_none v.wire.link.received) (calls_on v.watch u moment uses h.over.rows.heard.calls) (times h.over.rows.heard.times) (moved_seat_same v.seat) (λ row. row)
        (over_more v q r.hold (Some cause_is.Retry) h.over.holds says))
        (inl h.over.entries) (over_reported v q row) (λ _. over_released v q row)
        (unrepeated r (record {
          moment = h.over.moment;
          attached = attached_at v again_now h.over.rows.heard.turns (PollsFor p h.over.moment) refl h.over.attached;
          own = last_at v again_now r.hold refl (over_last v v.reports.items r.hold (Some cause_is.Retry) h.over.holds);
          entries = h.over.entries;
          holds = row;
          wait = h.over.wait;
          poll_is = h.over.poll_is;
          is = missed.retried;
        })) ended is
