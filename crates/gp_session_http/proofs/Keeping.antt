-- The moves of a session whose origin's answer asks for a stream.
use Rattle.std.proofs.Common.{◌≡◌, ◌≢◌, ℕ, Bool, true, List, [], ◌∷◌, ◌++◌, Option, Some, None, refl, sym, ap, ◌∙◌, subst, arith, append-nil, ◌⊎◌, inl, inr}
use Rattle.std.specs.List.{All}
use mathlib.Core.List.{IsPrefix}
use Rattle.std.proofs.lemmas.List.{map-append}
use Rattle.gp_plain.specs.Fit.{fits}
use Rattle.gp_plain.specs.Others.{Share}
use Rattle.gp_plain.specs.Reports.{report}
use Rattle.gp_plain.specs.Roomy.{Roomy}
use Rattle.gp_plain.specs.declared.event.Event.{Event}
use Rattle.gp_plain.specs.declared.event.Event.TheVariants.{Attach}
use Rattle.gp_plain.specs.declared.event.HoldSpec.{HoldSpec}
use Rattle.gp_plain.specs.declared.reply.EndCause.{EndCause}
use Rattle.gp_plain.specs.declared.reply.EndCause.TheVariants as cause_is
use Rattle.gp_plain.specs.declared.reply.HoldReport.{HoldReport}
use Rattle.gp_outside.specs.Links.{LinkTells, LinkLater}
use Rattle.gp_outbox.specs.declared.outbox.Flushed.{Flushed}
use Rattle.gp_outbox.specs.declared.outbox.Flushed.TheVariants as flushed
use Rattle.gp_hub.specs.Own.{fresh_share, share_gone}
use Rattle.gp_hub.specs.declared.outcome.SessionEnd.{SessionEnd}
use Rattle.gp_hub.specs.declared.outcome.SessionEnd.TheVariants as end
use Rattle.gp_hub.specs.declared.outcome.Why.TheVariants as why
use Rattle.gp_intake.specs.Polls.{IsGone}
use Rattle.gp_session.specs.Causes.{HasFailed, HasEnded}
use Rattle.gp_again.specs.Views.{AgainView}
use Rattle.gp_session.specs.Lines.{Aim, LineView}
use Rattle.gp_session.specs.Seats.{SeatView, MovedSeat, SeatRow, IsServed, IsWorn, Busied}
use Rattle.gp_session.specs.Watches.{WatchView, WatchRow, Uses}
use Rattle.gp_session.specs.Wires.{WireView, MovedWire, BytesRow, exactly, Flushes}
use Rattle.gp_session.specs.declared.holding.LetGo.TheVariants as let_go_is
use Rattle.gp_session.proofs.Moving.{rose_since, sent_same, sent_put, sent_flushed, moved_put, moved_none_put, moved_flushed, moved_wire_same, moved_seat_same}
use Rattle.gp_session_hold.specs.Leaves.{LeavesEntries, LeavesHold, stream_end}
use Rattle.gp_session_hold.specs.Opens.{OpensTo}
use Rattle.gp_session_hold.specs.Polls.{StreamPends}
use Rattle.gp_session_hold.specs.Puts.{PutsBehind}
use Rattle.gp_session_hold.specs.Rows.{KeptView, IsKept, IsReleased, none, kept, over, holds_of, reports_of, HoldsRow, EntriesRow, PagedRow, PagesRow, DetachedRow, AttachRow, IsCounted, recovers_at, stream_text}
use Rattle.gp_session_hold.specs.Streams.{StreamView, Streams, Finished, Stopped}
use Rattle.gp_session_hold.specs.declared.attaching.Opened.TheVariants as opened
use Rattle.gp_session_hold.proofs.Rowing.{entries_paging, pages_none}
use Rattle.gp_session_recover.specs.Polls.{ClosedOn, PollsStream, last_polled}
use Rattle.gp_session_recover.specs.Quests.{Quest}
use Rattle.gp_session_recover.specs.Rows.{RecoveringView, Recovers, sides}
use Rattle.gp_session_recover.specs.declared.polling.StreamPolled.{StreamPolled}
use Rattle.gp_session_recover.specs.declared.polling.StreamPolled.TheVariants as polled
use Rattle.gp_session_recover.specs.declared.talk.Talk.TheVariants.{None as NoTalk}
use Rattle.gp_session_hold.proofs.Turning.{finished_flushed}
use Rattle.gp_session_http.specs.declared.attaching.Attaching.{Attaching as AttachingStage}
use Rattle.gp_session_http.specs.declared.declining.Declining.{Declining as DecliningStage}
use Rattle.gp_session_http.specs.declared.streaming.Streaming.{Streaming as StreamingStage}
use Rattle.gp_session_http.specs.declared.closing.Closing.{Closing as ClosingStage}
use Rattle.gp_session_http.specs.declared.leaving.Leaving.{Leaving as LeavingStage}
use Rattle.gp_session_http.specs.declared.leaving.Parting.{Parting}
use Rattle.gp_session_http.specs.declared.leaving.Parting.TheVariants.{Gone, Wanting}
use Rattle.gp_session_http.specs.declared.grant.Grant.{Grant}
use Rattle.gp_session_http.specs.declared.held.Held.TheVariants.{Attaching, Declining, Streaming, Closing, Leaving}
use Rattle.gp_session_http.specs.declared.held.HeldNext.TheVariants.{Go, Wait, End}
use Rattle.gp_session_http.specs.declared.stage.Ended.{Ended}
use Rattle.gp_session_http.specs.Grants.{AsksFor, source_of, stream_head}
use Rattle.gp_session_http.specs.Turns.{Turn, specs_before}
use Rattle.gp_session_http.specs.Heard.{IsUnattached, IsDeclined, HasAttached, IsLastHold, full_text, end_of}
use Rattle.gp_session_http.specs.Holding.{Granting, Recalled, aims_for, alone, recalled, stream_of, AttachingTold, DecliningTold, Keeps, StreamingTold, LeavesAs, LeavingTold, IsClosed, ClosingTold, EntriesAtEnd, LeftAs, HeldEnds, full_sent, full_gone, full_wanting, unattached_wanting, unattached_worn, told_sent, told_gone, told_wanting, kept_worn, leaving_worn, let_go, HeldLeads, IsAttachedAt, IsDeclinedAt, HasClosed, StopsBy, worn, told, HasStoppedAt, HasLeft, went, stays}
use Rattle.gp_session_http.specs.Views.{LiveView, Goes}
use Rattle.gp_session_http.proofs.Granting.{with_held, goes_on, granting_line, granting_on, granting_wire, granting_seat, calls_on, unattached_same, none_more, same_more, none_reported, none_kept}
use Rattle.gp_session_http.proofs.Recalling.{closed_first, linked_of, recovers_first}
use Rattle.gp_session_http.proofs.Rows.{line_same, watch_same}

-- the hold that was attached last

pub over_last : (l : LiveView) (items : List HoldReport) (hold : KeptView) (o : Option EndCause) → HoldsRow l.seat items (over hold o) → IsLastHold l hold
over_last l items hold o row = record { before = row.done; share = row.stands.share; all = row.stands.all }

pub kept_last : (l : LiveView) (items : List HoldReport) (hold : KeptView) → HoldsRow l.seat items (kept hold) → IsLastHold l hold
kept_last l items hold row = record { before = row.done; share = row.stands.share; all = row.stands.all }

pub last_at : (v w : LiveView) (hold : KeptView) → w.seat ≡ v.seat → IsLastHold v hold → IsLastHold w hold
last_at v w hold same h = record { before = h.before; share = h.share; all = ap holds_of same ∙ h.all }

-- the attaches stay so where the hub's end does
pub attached_at : (v w : LiveView) (turns : List Turn) (Asks : HoldSpec → Type 0) → w.seat ≡ v.seat → HasAttached v turns Asks → HasAttached w turns Asks
attached_at v w turns Asks same h = record { spec = h.spec; spec_is = h.spec_is; attaches = subst (λ (s : SeatView). AttachRow s (specs_before turns ++ h.spec ∷ []) None) (sym same) h.attaches }

-- the hub was asked for a hold

module _ (v : LiveView) (s : AttachingStage) (told : AttachingTold v s) (t : SeatView) (r : Roomy HoldReport) (moved : MovedSeat v.seat t) (row : SeatRow v.seat → SeatRow t) (items : r.items ≡ v.reports.items) where
  abbrev now : LiveView
  now = with_held v v.wire v.watch t r

  abbrev rows : Granting now s.grant
  rows = granting_seat v t r s.grant told.rows moved row (same_more v.reports.items r.items items)

  went_on : Goes v now
  went_on = goes_on v v.wire v.watch t r (moved_wire_same v.wire) (watch_same v.watch) moved

  module _ (entries : EntriesRow v.seat → EntriesRow t) where
    pub attached : (hold : KeptView) → OpensTo v.seat t s.spec r.spare (opened.Kept hold) → HoldsRow t r.items (kept hold) → AttachRow t (specs_before told.rows.heard.turns ++ s.spec ∷ []) None → IsAttachedAt now s.grant s.head s.again hold
    attached hold o holds attaches = record {
      keeps = record {
        rows = rows;
        attached = record { spec = s.spec; spec_is = told.spec_is; attaches = attaches };
        entries = entries_paging t (entries told.is.entries);
        holds = holds;
        room = o.room_is;
      };
      alone = told.alone;
      served = o.served.free;
      head_is = told.head;
      share = fresh_share v.seat.pass.number s.spec;
      is = o.is;
      untaken = refl;
      unmissed = refl;
      spec_is = told.spec_is;
      again_is = told.again;
      pages = pages_none t (entries told.is.entries);
      bytes = told.is.bytes;
    }

    pub declined : OpensTo v.seat t s.spec r.spare opened.Full → HoldsRow t r.items none → AttachRow t (specs_before told.rows.heard.turns) (Some s.spec) → IsDeclinedAt now s.grant
    declined o holds attaches = record {
      rows = rows;
      alone = told.alone;
      is = record { spec = s.spec; spec_is = told.spec_is; entries = entries told.is.entries; attaches = attaches; holds = holds };
      served = o.free;
      bytes = told.is.bytes;
    }

  module _ (entries : EntriesRow v.seat → EntriesRow t) (holds : HoldsRow t r.items none) (attaches : AttachRow t (specs_before told.rows.heard.turns) None) where
    still_unattached : IsUnattached now told.rows.heard.turns
    still_unattached = unattached_same v t r v.watch told.rows.heard.turns (entries told.is.entries) attaches holds told.is

    pub still_busy : (back : HoldSpec) → OpensTo v.seat t s.spec r.spare (opened.Busy back) → HeldLeads v now 3 (Wait (Attaching (record { grant = s.grant; head = s.head; spec = back; again = s.again })))
    still_busy back o = record {
      moved = went_on;
      to = (
        record {
          rows = rows;
          alone = told.alone;
          is = still_unattached;
          served = o.1.free;
          spec_is = subst (AsksFor s.grant) (sym o.0) told.spec_is;
          fit = subst (λ (x : HoldSpec). fits (Attach x) ≡ true) (sym o.0) told.fit;
          head = told.head;
          again = subst (λ (x : HoldSpec). s.again ≡ source_of s.grant x) (sym o.0) told.again;
        },
        o.1.busy,
        refl,
      );
    }

    finished : (e : SessionEnd) → EntriesAtEnd true e t → HeldEnds now told.rows.heard.turns s.grant e why.Nothing → (ended : Ended) → ended ≡ record { end = e; why = why.Nothing } → HeldLeads v now 3 (End ended)
    finished e at says ended is = subst (λ (x : Ended). HeldLeads v now 3 (End x)) (sym is) (record {
      moved = went_on;
      to = record {
        seat = rows.heard.seat;
        reported = none_reported now holds;
        released = λ _. none_kept now holds;
        by = inl (record { grant = s.grant; rows = rows; entries = at; talks = alone told.alone (pages_none t (entries told.is.entries)); says = says });
      };
    })

    pub attach_worn : OpensTo v.seat t s.spec r.spare opened.Worn → (ended : Ended) → ended ≡ record { end = end.Worn; why = why.Nothing } → HeldLeads v now 3 (End ended)
    attach_worn o ended is = finished end.Worn (entries_paging t (entries told.is.entries)) (unattached_worn still_unattached o.worn) ended is

    pub attach_wants : OpensTo v.seat t s.spec r.spare opened.NoMemory → (ended : Ended) → ended ≡ record { end = end.NoMemory; why = why.Nothing } → HeldLeads v now 3 (End ended)
    attach_wants o ended is = finished end.NoMemory (inl (entries_paging t (entries told.is.entries))) (unattached_wanting still_unattached) ended is

-- the client's end alone moved

module _ (v : LiveView) (x : WireView) (moved : MovedWire v.wire x) (received : x.link.received ≡ v.wire.link.received) where
  abbrev pub with_client : LiveView
  with_client = with_held v x v.watch v.seat v.reports

  pub went_client : Goes v with_client
  went_client = goes_on v x v.watch v.seat v.reports moved (watch_same v.watch) (moved_seat_same v.seat)

  pub declined_still : (turns : List Turn) (Asks : HoldSpec → Type 0) → IsDeclined v turns Asks → IsDeclined with_client turns Asks
  declined_still turns Asks h = record { spec = h.spec; spec_is = h.spec_is; entries = h.entries; attaches = h.attaches; holds = h.holds }

  abbrev keeps_still : (g : Grant) (hold : KeptView) → Keeps v g hold → Keeps with_client g hold
  keeps_still g hold k = record { rows = granting_wire v x g k.rows moved received; attached = attached_at v with_client k.rows.heard.turns (AsksFor g) refl k.attached; entries = k.entries; holds = k.holds; room = k.room }

-- the stream begins
module _ (v : LiveView) (g : Grant) (head : List ℕ) (again : Option AgainView) (hold : KeptView) (h : IsAttachedAt v g head again hold) (x : WireView) where
  begins_at : PutsBehind v.wire x head → Streams (record { hold = hold; chunked = g.chunked; head = head }) x v.seat
      → HeldLeads v (with_held v x v.watch v.seat v.reports) 3 (Go (Streaming (record { grant = g; recovering = record { stream = record { hold = hold; chunked = g.chunked; head = head }; again = again; talk = NoTalk } })))
  begins_at puts streams =
      let moved = moved_put v.wire x head puts.start puts.link puts.rest in
      let first = recovers_first v.charter.signer (source_of g h.share.spec) (aims_for v g h.keeps.rows) v.line v.seat hold h.share h.is.there h.unmissed h.pages h.alone h.keeps.rows.heard.dials (linked_of g h.share.spec h.spec_is) g.chunked head again h.again_is x in
      let received = ap (λ (t : LinkTells). t.received) puts.link in
      record {
        moved = went_client v x moved received;
        to = (
          record {
            keeps = keeps_still v x moved received g hold h.keeps;
            served = h.served;
            framed = ap (λ (b : List ℕ). record { hold = hold; chunked = g.chunked; head = b }) h.head_is;
            streams = streams;
            recalls = record { spec = h.share.spec; spec_is = h.spec_is; qs = []; row = first };
          },
          omega arith,
          record { untalked = refl; source = source_of g h.share.spec; aims = aims_for v g h.keeps.rows; row = first },
        );
      }

  pub begins_stream : (stream : StreamView) → stream ≡ record { hold = hold; chunked = g.chunked; head = head } → PutsBehind v.wire x head → Streams stream x v.seat → (recovering : RecoveringView) → recovering ≡ record { stream = stream; again = again; talk = NoTalk }
      → HeldLeads v (with_held v x v.watch v.seat v.reports) 3 (Go (Streaming (record { grant = g; recovering = recovering })))
  begins_stream stream is puts streams recovering whole =
      subst (λ (r : RecoveringView). HeldLeads v (with_held v x v.watch v.seat v.reports) 3 (Go (Streaming (record { grant = g; recovering = r })))) (sym (whole ∙ ap (λ (y : StreamView). record { stream = y; again = again; talk = NoTalk }) is))
      (begins_at puts (subst (λ (y : StreamView). Streams y x v.seat) is streams))

  pub begins_not : x ≡ v.wire → (back : KeptView) → back ≡ hold → HeldLeads v (with_held v x v.watch v.seat v.reports) 3 (Go (Leaving (record { grant = g; hold = back; parting = Wanting })))
  begins_not same back is = subst (λ (k : KeptView). HeldLeads v (with_held v x v.watch v.seat v.reports) 3 (Go (Leaving (record { grant = g; hold = k; parting = Wanting })))) (sym is)
      (subst (λ (y : WireView). HeldLeads v (with_held v y v.watch v.seat v.reports) 3 (Go (Leaving (record { grant = g; hold = hold; parting = Wanting })))) (sym same) (record {
        moved = went_client v v.wire (moved_wire_same v.wire) refl;
        to = (
          record {
            keeps = keeps_still v v.wire (moved_wire_same v.wire) refl g hold h.keeps;
            served = h.served;
            leaves = record { share = h.share; is = h.is; part = []; is_part = (stream_text g.chunked (stream_head g) h.share.taken None, refl); bytes = h.bytes };
            recalled = record {
              spec = h.share.spec;
              spec_is = h.spec_is;
              qs = [];
              row = closed_first v.charter.signer (source_of g h.share.spec) (aims_for v g h.keeps.rows) v.line v.seat hold h.share h.is.there h.unmissed h.pages h.alone h.keeps.rows.heard.dials;
            };
          },
          omega arith,
          tt,
        );
      }))

-- the refusal is put
module _ (v : LiveView) (g : Grant) (h : IsDeclinedAt v g) (x : WireView) (start : x.start ≡ v.wire.start) (link : x.link ≡ v.wire.link) where
  moved_here : (more : List ℕ) → x.rest ≡ v.wire.rest ++ more → MovedWire v.wire x
  moved_here more rest = moved_put v.wire x more start link rest

  moved_none : x.rest ≡ v.wire.rest → MovedWire v.wire x
  moved_none rest = moved_none_put v.wire x start link rest

  received_here : x.link.received ≡ v.wire.link.received
  received_here = ap (λ (t : LinkTells). t.received) link

  pub declines : x.rest ≡ v.wire.rest ++ full_text → HeldLeads v (with_held v x v.watch v.seat v.reports) 3 (Go (Declining (record { grant = g })))
  declines rest = record {
    moved = went_client v x (moved_here full_text rest) received_here;
    to = (
      record {
        rows = granting_wire v x g h.rows (moved_here full_text rest) received_here;
        alone = h.alone;
        is = declined_still v x (moved_here full_text rest) received_here h.rows.heard.turns (AsksFor g) h.is;
        served = h.served;
        bytes = sent_put v.wire x [] full_text h.bytes start link rest;
      },
      omega arith,
      tt,
    );
  }

  pub declines_not : x.rest ≡ v.wire.rest → (ended : Ended) → ended ≡ record { end = end.NoMemory; why = why.Full } → HeldLeads v (with_held v x v.watch v.seat v.reports) 3 (End ended)
  declines_not rest ended is = subst (λ (y : Ended). HeldLeads v (with_held v x v.watch v.seat v.reports) 3 (End y)) (sym is) (record {
    moved = went_client v x (moved_none rest) received_here;
    to = record {
      seat = h.rows.heard.seat;
      reported = none_reported v h.is.holds;
      released = λ _. none_kept v h.is.holds;
      by = inl (record { grant = g; rows = granting_wire v x g h.rows (moved_none rest) received_here; entries = inl (entries_paging v.seat h.is.entries); talks = alone h.alone (pages_none v.seat h.is.entries); says = full_wanting (declined_still v x (moved_none rest) received_here h.rows.heard.turns (AsksFor g) h.is) (sent_same v.wire x [] h.bytes start (ap (λ (t : LinkTells). t.sent) link) rest) });
    };
  })

-- what waits is sent: a refusal, or the last bytes of a stream

module _ (v : LiveView) (s : DecliningStage) (h : DecliningTold v s) (x : WireView) (f : Flushed) (fl : Flushes v.wire x f) where
  abbrev sent_now : LiveView
  sent_now = with_held v x v.watch v.seat v.reports

  flush_moved : MovedWire v.wire x
  flush_moved = moved_flushed v.wire x f fl

  still_declined : IsDeclined sent_now h.rows.heard.turns (AsksFor s.grant)
  still_declined = declined_still v x flush_moved fl.passed.received h.rows.heard.turns (AsksFor s.grant) h.is

  still_said : BytesRow x (exactly full_text)
  still_said = sent_flushed v.wire x full_text f h.bytes fl

  declined_end : (e : SessionEnd) → EntriesAtEnd true e v.seat → HeldEnds sent_now h.rows.heard.turns s.grant e why.Full → (ended : Ended) → ended ≡ record { end = e; why = why.Full } → HeldLeads v sent_now 1 (End ended)
  declined_end e entries says ended is = subst (λ (y : Ended). HeldLeads v sent_now 1 (End y)) (sym is) (record {
    moved = went_client v x flush_moved fl.passed.received;
    to = record {
      seat = h.rows.heard.seat;
      reported = none_reported v h.is.holds;
      released = λ _. none_kept v h.is.holds;
      by = inl (record { grant = s.grant; rows = granting_wire v x s.grant h.rows flush_moved fl.passed.received; entries = entries; talks = alone h.alone (pages_none v.seat h.is.entries); says = says });
    };
  })

pub declining_sent : (v : LiveView) (s : DecliningStage) (h : DecliningTold v s) (x : WireView) → Flushes v.wire x flushed.Empty → (ended : Ended) → ended ≡ record { end = end.Sent 503; why = why.Full } → HeldLeads v (with_held v x v.watch v.seat v.reports) 1 (End ended)
declining_sent v s h x fl ended is =
    declined_end v s h x flushed.Empty fl (end.Sent 503) (entries_paging v.seat h.is.entries) (full_sent (still_declined v s h x flushed.Empty fl) (still_said v s h x flushed.Empty fl) fl.cause.0) ended is

pub declining_gone : (v : LiveView) (s : DecliningStage) (h : DecliningTold v s) (x : WireView) → Flushes v.wire x flushed.Failed → (ended : Ended) → ended ≡ record { end = end.ClientGone; why = why.Full } → HeldLeads v (with_held v x v.watch v.seat v.reports) 1 (End ended)
declining_gone v s h x fl ended is =
    declined_end v s h x flushed.Failed fl end.ClientGone (inl (entries_paging v.seat h.is.entries))
    (full_gone (still_declined v s h x flushed.Failed fl) (still_said v s h x flushed.Failed fl) (rose_since v.wire x (λ (t : LinkTells). t.faults) fl.start h.rows.heard.links.faults fl.cause.1)) ended is

pub declining_waits : (v : LiveView) (s : DecliningStage) (h : DecliningTold v s) (x : WireView) → Flushes v.wire x flushed.NotReady → HeldLeads v (with_held v x v.watch v.seat v.reports) 1 (Wait (Declining s))
declining_waits v s h x fl = record {
  moved = went_client v x (moved_flushed v.wire x flushed.NotReady fl) fl.passed.received;
  to = (
    record {
      rows = granting_wire v x s.grant h.rows (moved_flushed v.wire x flushed.NotReady fl) fl.passed.received;
      alone = h.alone;
      is = still_declined v s h x flushed.NotReady fl;
      served = h.served;
      bytes = still_said v s h x flushed.NotReady fl;
    },
    record { some = fl.cause.0; waited = fl.cause.1 },
    refl,
  );
}

module _ (v : LiveView) (s : ClosingStage) (h : ClosingTold v s) (x : WireView) (f : Flushed) (fl : Flushes v.wire x f) where
  abbrev closed_now : LiveView
  closed_now = with_held v x v.watch v.seat v.reports

  abbrev close_moved : MovedWire v.wire x
  close_moved = moved_flushed v.wire x f fl

  still_closed : IsClosed closed_now h.rows.heard.turns s.grant s.hold.value s.cause
  still_closed = record {
    attached = attached_at v closed_now h.rows.heard.turns (AsksFor s.grant) refl h.is.attached;
    own = last_at v closed_now s.hold.value refl h.is.own;
    entries = h.is.entries;
    holds = h.is.holds;
    finished = finished_flushed (stream_of s.grant s.hold.value) v.wire x v.seat s.cause f fl h.is.finished;
  }

  still_recalled : Recalled closed_now s.grant (granting_wire v x s.grant h.rows close_moved fl.passed.received) s.hold.value.number
  still_recalled = record { spec = h.recalled.spec; spec_is = h.recalled.spec_is; qs = h.recalled.qs; row = h.recalled.row }

  closed_end : (e : SessionEnd) → EntriesAtEnd true e v.seat → HeldEnds closed_now h.rows.heard.turns s.grant e why.Nothing → (ended : Ended) → ended ≡ record { end = e; why = why.Nothing } → HeldLeads v closed_now 1 (End ended)
  closed_end e entries says ended is = subst (λ (y : Ended). HeldLeads v closed_now 1 (End y)) (sym is) (record {
    moved = went_client v x close_moved fl.passed.received;
    to = record {
      seat = h.rows.heard.seat;
      reported = none_reported v h.is.holds;
      released = λ _. none_kept v h.is.holds;
      by = inl (record {
        grant = s.grant;
        rows = granting_wire v x s.grant h.rows close_moved fl.passed.received;
        entries = entries;
        talks = recalled s.hold.value still_closed.own still_recalled;
        says = says;
      });
    };
  })

entries_by_end : (code : ℕ) (cause : EndCause) (s : SeatView) → PagedRow s → EntriesAtEnd true (stream_end code cause) s
entries_by_end code cause_is.Closed s e = e
entries_by_end code cause_is.Detached s e = e
entries_by_end code cause_is.Gap s e = e
entries_by_end code cause_is.Unrecovered s e = e
entries_by_end code cause_is.Overflow s e = e
entries_by_end code cause_is.Answered s e = e
entries_by_end code cause_is.Retry s e = e
entries_by_end code cause_is.TimedOut s e = e

pub closing_sent : (v : LiveView) (s : ClosingStage) (h : ClosingTold v s) (x : WireView) → Flushes v.wire x flushed.Empty → (e : SessionEnd) → e ≡ stream_end s.grant.code s.cause → (ended : Ended) → ended ≡ record { end = e; why = why.Nothing }
    → HeldLeads v (with_held v x v.watch v.seat v.reports) 1 (End ended)
closing_sent v s h x fl e same ended is =
    closed_end v s h x flushed.Empty fl (stream_end s.grant.code s.cause) (entries_by_end s.grant.code s.cause v.seat h.is.entries) (told_sent s.hold.value s.cause (still_closed v s h x flushed.Empty fl) fl.cause.0) ended
    (is ∙ ap (λ (d : SessionEnd). record { end = d; why = why.Nothing }) same)

pub closing_gone : (v : LiveView) (s : ClosingStage) (h : ClosingTold v s) (x : WireView) → Flushes v.wire x flushed.Failed → (ended : Ended) → ended ≡ record { end = end.ClientGone; why = why.Nothing } → HeldLeads v (with_held v x v.watch v.seat v.reports) 1 (End ended)
closing_gone v s h x fl ended is =
    closed_end v s h x flushed.Failed fl end.ClientGone (inl h.is.entries)
    (told_gone s.hold.value s.cause (still_closed v s h x flushed.Failed fl) (rose_since v.wire x (λ (t : LinkTells). t.faults) fl.start h.rows.heard.links.faults fl.cause.1)) ended is

pub closing_waits : (v : LiveView) (s : ClosingStage) (h : ClosingTold v s) (x : WireView) → Flushes v.wire x flushed.NotReady → HeldLeads v (with_held v x v.watch v.seat v.reports) 1 (Wait (Closing s))
closing_waits v s h x fl = record {
  moved = went_client v x (moved_flushed v.wire x flushed.NotReady fl) fl.passed.received;
  to = (
    record {
      rows = granting_wire v x s.grant h.rows (moved_flushed v.wire x flushed.NotReady fl) fl.passed.received;
      served = h.served;
      is = still_closed v s h x flushed.NotReady fl;
      recalled = still_recalled v s h x flushed.NotReady fl;
    },
    record { some = fl.cause.0; waited = fl.cause.1 },
    refl,
  );
}

-- the client was heard, what the hold gave was delivered, and the origin was asked for what was missed

-- all ends moved
abbrev pub with_streamed : LiveView → WireView → LineView → WatchView → SeatView → LiveView
with_streamed v x m u t = record { wire = x; line = m; watch = u; seat = t; charter = v.charter; reports = v.reports }

module _ (v : LiveView) (s : StreamingStage) (h : StreamingTold v s) (u : WatchView) (now : ℕ) (uses : Uses v.watch u now) (times : WatchRow v.watch → WatchRow u) (y : RecoveringView) (x : WireView) (m : LineView) (t : SeatView) (answer : StreamPolled)
    (p : PollsStream v.charter.signer now (sides s.recovering v.wire v.line v.seat) (sides y x m t) answer) where
  abbrev polled_now : LiveView
  polled_now = with_streamed v x m u t

  abbrev pub polled_stage : StreamingStage
  polled_stage = record { grant = s.grant; recovering = y }

  pub stream_went : Goes v polled_now
  stream_went = record { wire = p.hears.wire; line = p.hears.line; watch = uses.moved; seat = p.hears.seat; charter = refl }

  abbrev stream_rows : Granting polled_now s.grant
  stream_rows = granting_line (with_held v x u t v.reports) m s.grant
      (granting_on v x u t v.reports s.grant h.keeps.rows p.hears.wire p.hears.heard p.hears.received (calls_on v.watch u now uses h.keeps.rows.heard.calls) (times h.keeps.rows.heard.times) p.hears.seat p.hears.row (none_more v.reports.items)) p.hears.line

  stream_attached : HasAttached polled_now h.keeps.rows.heard.turns (AsksFor s.grant)
  stream_attached = record {
    spec = h.keeps.attached.spec;
    spec_is = h.keeps.attached.spec_is;
    attaches = p.hears.attaches (specs_before h.keeps.rows.heard.turns ++ h.keeps.attached.spec ∷ []) None h.keeps.attached.attaches;
  }

  stream_framed : y.stream ≡ stream_of s.grant y.stream.hold
  stream_framed =
      let chunked : y.stream.chunked ≡ s.grant.chunked = p.hears.chunked ∙ ap (λ (z : StreamView). z.chunked) h.framed in
      let head : y.stream.head ≡ stream_head s.grant = p.hears.head ∙ ap (λ (z : StreamView). z.head) h.framed in
      ap (λ (b : Bool). record { hold = y.stream.hold; chunked = b; head = y.stream.head }) chunked ∙ ap (λ (b : List ℕ). record { hold = y.stream.hold; chunked = s.grant.chunked; head = b }) head

  abbrev still_keeps : HoldsRow t v.reports.items (kept y.stream.hold) → Keeps polled_now s.grant y.stream.hold
  still_keeps holds = record { rows = stream_rows; attached = stream_attached; entries = p.hears.entries h.keeps.entries; holds = holds; room = h.keeps.room }

  abbrev here : HoldsRow t v.reports.items (last_polled y.stream.hold answer)
  here = p.holds v.reports.items h.keeps.holds

  -- the talk is over
  stream_recalled : ((source : Option AgainView) (aims : List Aim) (qs : List Quest) → Recovers v.charter.signer source aims qs (sides s.recovering v.wire v.line v.seat) → ClosedOn v.charter.signer source aims qs now (sides s.recovering v.wire v.line v.seat) (sides y x m t))
      → Recalled polled_now s.grant stream_rows y.stream.hold.number
  stream_recalled closed =
      let on = closed (source_of s.grant h.recalls.spec) (aims_for v s.grant h.keeps.rows) h.recalls.qs h.recalls.row in
      record { spec = h.recalls.spec; spec_is = h.recalls.spec_is; qs = h.recalls.qs ++ on.more; row = on.row }

pub is_gone : (v : LiveView) (x : WireView) → LinkLater v.wire.start v.wire.link → MovedWire v.wire x → IsGone v.wire.link x.link → HasFailed x ⊎ HasEnded x
is_gone v x links moved (inl ends) = inr (rose_since v.wire x (λ (t : LinkTells). t.ends) moved.start links.ends ends)
is_gone v x links moved (inr faults) = inl (rose_since v.wire x (λ (t : LinkTells). t.faults) moved.start links.faults faults)

-- a stream that goes on has a beginning of its text put
whole_part : (z : StreamView) (x : WireView) (t : SeatView) → Streams z x t → Stopped z x t None
whole_part z x t st = record { share = st.share; is = st.is; part = stream_text z.chunked z.head st.share.taken None; is_part = ([], append-nil (stream_text z.chunked z.head st.share.taken None)); bytes = st.bytes }

module _ (v : LiveView) (s : StreamingStage) (h : StreamingTold v s) (u : WatchView) (now : ℕ) (uses : Uses v.watch u now) (times : WatchRow v.watch → WatchRow u) (y : RecoveringView) (x : WireView) (m : LineView) (t : SeatView) where
  abbrev Polls : StreamPolled → Type 0
  Polls answer = PollsStream v.charter.signer now (sides s.recovering v.wire v.line v.seat) (sides y x m t) answer

  pub streaming_waits : Polls polled.Pending → HeldLeads v (with_streamed v x m u t) 2 (Wait (Streaming (record { grant = s.grant; recovering = y })))
  streaming_waits p = record {
    moved = stream_went v s h u now uses times y x m t polled.Pending p;
    to = (
      record {
        keeps = still_keeps v s h u now uses times y x m t polled.Pending p (here v s h u now uses times y x m t polled.Pending p);
        served = p.says.free h.served;
        framed = stream_framed v s h u now uses times y x m t polled.Pending p;
        streams = p.says.streams;
        recalls =
            let on = p.says.recovers (source_of s.grant h.recalls.spec) (aims_for v s.grant h.keeps.rows) h.recalls.qs h.recalls.row in
            record { spec = h.recalls.spec; spec_is = h.recalls.spec_is; qs = h.recalls.qs ++ on.more; row = on.row };
      },
      record {
        waited = record {
          wire = v.wire;
          seat = v.seat;
          moved_wire = moved_wire_same v.wire;
          moved_seat = moved_seat_same v.seat;
          now = now;
          moment = uses.moment;
          last = times h.keeps.rows.heard.times now uses.moment;
          heard = p.hears.heard;
          received = p.hears.received;
          pends = subst (λ (n : ℕ). StreamPends n now v.wire x v.seat t p.hears.heard) (sym p.hears.number) p.says.pends.0;
        };
        line = v.line;
        moved_line = line_same v.line;
        talk = p.says.pends.1;
      },
      refl,
    );
  }

  pub streaming_ended : (cause : EndCause) → Polls (polled.Ended cause) → HasClosed (with_streamed v x m u t) (record { grant = s.grant; recovering = y }) cause
  streaming_ended cause p = record {
    rows = stream_rows v s h u now uses times y x m t (polled.Ended cause) p;
    attached = stream_attached v s h u now uses times y x m t (polled.Ended cause) p;
    entries = p.hears.entries h.keeps.entries;
    holds = here v s h u now uses times y x m t (polled.Ended cause) p;
    room = h.keeps.room;
    served = p.says.serves h.served;
    framed = stream_framed v s h u now uses times y x m t (polled.Ended cause) p;
    finished = p.says.says;
    recalled = stream_recalled v s h u now uses times y x m t (polled.Ended cause) p p.says.closed;
  }

  pub streaming_gone : Polls polled.Gone → HeldLeads v (with_streamed v x m u t) 2 (Go (Leaving (record { grant = s.grant; hold = y.stream.hold; parting = Gone })))
  streaming_gone p = record {
    moved = stream_went v s h u now uses times y x m t polled.Gone p;
    to = (
      record {
        keeps = still_keeps v s h u now uses times y x m t polled.Gone p (here v s h u now uses times y x m t polled.Gone p);
        served = p.says.serves h.served;
        leaves = (
          subst (λ (z : StreamView). Streams z x t) (stream_framed v s h u now uses times y x m t polled.Gone p) p.says.says.0,
          is_gone v x h.keeps.rows.heard.links p.hears.wire p.says.says.1,
        );
        recalled = stream_recalled v s h u now uses times y x m t polled.Gone p p.says.closed;
      },
      omega arith,
      tt,
    );
  }

  pub streaming_wants : Polls polled.NoMemory → HeldLeads v (with_streamed v x m u t) 2 (Go (Leaving (record { grant = s.grant; hold = y.stream.hold; parting = Wanting })))
  streaming_wants p = record {
    moved = stream_went v s h u now uses times y x m t polled.NoMemory p;
    to = (
      record {
        keeps = still_keeps v s h u now uses times y x m t polled.NoMemory p (here v s h u now uses times y x m t polled.NoMemory p);
        served = p.says.serves h.served;
        leaves = subst (λ (z : StreamView). Stopped z x t None) (stream_framed v s h u now uses times y x m t polled.NoMemory p) (whole_part y.stream x t p.says.says);
        recalled = stream_recalled v s h u now uses times y x m t polled.NoMemory p p.says.closed;
      },
      omega arith,
      tt,
    );
  }

  pub streaming_unput : Polls (polled.Unput None) → HeldLeads v (with_streamed v x m u t) 2 (Go (Leaving (record { grant = s.grant; hold = y.stream.hold; parting = Wanting })))
  streaming_unput p = record {
    moved = stream_went v s h u now uses times y x m t (polled.Unput None) p;
    to = (
      record {
        keeps = still_keeps v s h u now uses times y x m t (polled.Unput None) p (here v s h u now uses times y x m t (polled.Unput None) p);
        served = p.says.serves h.served;
        leaves = subst (λ (z : StreamView). Stopped z x t None) (stream_framed v s h u now uses times y x m t (polled.Unput None) p) p.says.says;
        recalled = stream_recalled v s h u now uses times y x m t (polled.Unput None) p p.says.closed;
      },
      omega arith,
      tt,
    );
  }

  pub streaming_worn : Polls polled.Worn → HasStoppedAt (with_streamed v x m u t) (record { grant = s.grant; recovering = y }) None end.Worn
  streaming_worn p = record {
    framed = stream_framed v s h u now uses times y x m t polled.Worn p;
    stops = worn (record {
      keeps = still_keeps v s h u now uses times y x m t polled.Worn p (here v s h u now uses times y x m t polled.Worn p);
      streams = p.says.says;
      worn = p.says.serves;
      recalled = stream_recalled v s h u now uses times y x m t polled.Worn p p.says.closed;
    });
  }

  pub streaming_told : (cause : EndCause) → Polls (polled.Unput (Some cause)) → HasStoppedAt (with_streamed v x m u t) (record { grant = s.grant; recovering = y }) (Some cause) end.NoMemory
  streaming_told cause p = record {
    framed = stream_framed v s h u now uses times y x m t (polled.Unput (Some cause)) p;
    stops = told cause (record {
      rows = stream_rows v s h u now uses times y x m t (polled.Unput (Some cause)) p;
      attached = stream_attached v s h u now uses times y x m t (polled.Unput (Some cause)) p;
      entries = p.hears.entries h.keeps.entries;
      holds = here v s h u now uses times y x m t (polled.Unput (Some cause)) p;
      room = h.keeps.room;
      stopped = p.says.says;
      recalled = stream_recalled v s h u now uses times y x m t (polled.Unput (Some cause)) p p.says.closed;
    });
  }

-- the hold is reported

module _ (v : LiveView) (r : Roomy HoldReport) where
  abbrev pub reported_now : LiveView
  reported_now = with_held v v.wire v.watch v.seat r

  pub reported_went : Goes v reported_now
  reported_went = goes_on v v.wire v.watch v.seat r (moved_wire_same v.wire) (watch_same v.watch) (moved_seat_same v.seat)

  abbrev reported_rows : (g : Grant) → Granting v g → IsPrefix v.reports.items r.items → Granting reported_now g
  reported_rows g h more = granting_seat v v.seat r g h (moved_seat_same v.seat) (λ row. row) more

  -- one report more
  pub over_more : (hold : KeptView) (o : Option EndCause) → HoldsRow v.seat v.reports.items (over hold o) → ((share : Share) → IsCounted hold share → o ≡ share.told → r.items ≡ v.reports.items ++ report hold.number share ∷ []) → IsPrefix v.reports.items r.items
  over_more hold o row says = (report hold.number row.stands.share ∷ [], sym (says row.stands.share row.stands.is.counted (sym row.stands.is.told_is)))

  pub kept_more : (hold : KeptView) → HoldsRow v.seat v.reports.items (kept hold) → ((share : Share) → IsCounted hold share → None ≡ share.told → r.items ≡ v.reports.items ++ report hold.number share ∷ []) → IsPrefix v.reports.items r.items
  kept_more hold row says = (report hold.number row.stands.share ∷ [], sym (says row.stands.share row.stands.is.counted (sym row.stands.is.untold)))

  -- of a kept hold too
  pub kept_reported : (hold : KeptView) → HoldsRow v.seat v.reports.items (kept hold) → ((share : Share) → IsCounted hold share → None ≡ share.told → r.items ≡ v.reports.items ++ report hold.number share ∷ []) → r.items ≡ reports_of (holds_of v.seat)
  kept_reported hold row says =
      let share = row.stands.share in
      let last : ℕ × Share = (hold.number, share) in
      says share row.stands.is.counted (sym row.stands.is.untold) ∙ ap (λ rs. rs ++ report hold.number share ∷ []) row.reported ∙ sym (map-append (λ (h : ℕ × Share). report h.0 h.1) row.done (last ∷ [])) ∙ ap reports_of (sym row.stands.all)

  pub over_reported : HoldsRow v.seat r.items none → r.items ≡ reports_of (holds_of v.seat)
  over_reported row = row.reported ∙ ap reports_of (sym row.stands)

  pub over_released : HoldsRow v.seat r.items none → All IsReleased (holds_of v.seat)
  over_released row = subst (All IsReleased) (sym row.stands) row.released

  abbrev Closes : Grant → KeptView → EndCause → Type 0
  Closes g k d = (rows : Granting reported_now g) × IsClosed reported_now rows.heard.turns g k d × Recalled reported_now g rows k.number

  -- what was asked stays so
  reported_recalled : (g : Grant) (h : Granting v g) (more : IsPrefix v.reports.items r.items) (hold : ℕ) → Recalled v g h hold → Recalled reported_now g (reported_rows g h more) hold
  reported_recalled g h more hold c = record { spec = c.spec; spec_is = c.spec_is; qs = c.qs; row = c.row }

  pub closes : (s : StreamingStage) (cause : EndCause) → HasClosed v s cause → HoldsRow v.seat r.items none → IsPrefix v.reports.items r.items → (c : ClosingStage) → c.grant ≡ s.grant → c.hold.value ≡ s.recovering.stream.hold → c.cause ≡ cause → HeldLeads v reported_now 2 (Go (Closing c))
  closes s cause h row more c grant hold is = record { moved = reported_went; to = (told_now, omega arith, tt) }
    where
      by_parts : (g : Grant) (k : KeptView) (d : EndCause) → g ≡ s.grant → k ≡ s.recovering.stream.hold → d ≡ cause → Closes g k d
      by_parts g k d e1 e2 e3 =
          subst (λ (a : Grant). Closes a k d) (sym e1)
          (subst (λ (a : KeptView). Closes s.grant a d) (sym e2) (subst (λ (a : EndCause). Closes s.grant s.recovering.stream.hold a) (sym e3) (
            reported_rows s.grant h.rows more,
            record {
              attached = attached_at v reported_now h.rows.heard.turns (AsksFor s.grant) refl h.attached;
              own = last_at v reported_now s.recovering.stream.hold refl (over_last v v.reports.items s.recovering.stream.hold (Some cause) h.holds);
              entries = h.entries;
              holds = row;
              finished = subst (λ (z : StreamView). Finished z v.wire v.seat cause) h.framed h.finished;
            },
            reported_recalled s.grant h.rows more s.recovering.stream.hold.number h.recalled,
          )))

      told_now : ClosingTold reported_now c
      told_now = let both = by_parts c.grant c.hold.value c.cause grant hold is in record { rows = both.0; served = h.served; is = both.1; recalled = both.2 }

  reported_end : (n : ℕ) (g : Grant) (e : SessionEnd) (rows : Granting v g) → IsPrefix v.reports.items r.items → (hold : KeptView) → IsLastHold v hold → Recalled v g rows hold.number → EntriesAtEnd true e v.seat → r.items ≡ reports_of (holds_of v.seat) → (e ≢ end.Worn → All IsReleased (holds_of v.seat)) → HeldEnds reported_now rows.heard.turns g e why.Nothing
      → (ended : Ended) → ended ≡ record { end = e; why = why.Nothing } → HeldLeads v reported_now n (End ended)
  reported_end n g e h more hold last asked entries all released says ended is = subst (λ (y : Ended). HeldLeads v reported_now n (End y)) (sym is) (record {
    moved = reported_went;
    to = record {
      seat = h.heard.seat;
      reported = all;
      released = released;
      by = inl (record {
        grant = g;
        rows = reported_rows g h more;
        entries = entries;
        talks = recalled hold (last_at v reported_now hold refl last) (reported_recalled g h more hold.number asked);
        says = says;
      });
    };
  })

  pub stops_by : (s : StreamingStage) (end_told : Option EndCause) (e : SessionEnd) → HasStoppedAt v s end_told e
      → ((share : Share) → IsCounted s.recovering.stream.hold share → end_told ≡ share.told → r.items ≡ v.reports.items ++ report s.recovering.stream.hold.number share ∷ []) → (HoldsRow v.seat v.reports.items (over s.recovering.stream.hold end_told) → HoldsRow v.seat r.items none)
      → (ended : Ended) → ended ≡ record { end = e; why = why.Nothing } → HeldLeads v reported_now 2 (End ended)
  stops_by s end_told e h says row ended is = by_kind end_told e h.stops says row ended is
    where
      by_kind : (o : Option EndCause) (d : SessionEnd) → StopsBy v s o d → ((share : Share) → IsCounted s.recovering.stream.hold share → o ≡ share.told → r.items ≡ v.reports.items ++ report s.recovering.stream.hold.number share ∷ [])
          → (HoldsRow v.seat v.reports.items (over s.recovering.stream.hold o) → HoldsRow v.seat r.items none) → (ended : Ended) → ended ≡ record { end = d; why = why.Nothing } → HeldLeads v reported_now 2 (End ended)
      by_kind o d (worn w) tells on ended is = reported_end 2 s.grant end.Worn w.keeps.rows (kept_more s.recovering.stream.hold w.keeps.holds tells) s.recovering.stream.hold (kept_last v v.reports.items s.recovering.stream.hold w.keeps.holds) w.recalled w.keeps.entries (kept_reported s.recovering.stream.hold w.keeps.holds tells) (λ no. absurd (no refl))
          (kept_worn s.recovering.stream.hold (attached_at v reported_now w.keeps.rows.heard.turns (AsksFor s.grant) refl w.keeps.attached) (last_at v reported_now s.recovering.stream.hold refl (kept_last v v.reports.items s.recovering.stream.hold w.keeps.holds)) (subst (λ (z : StreamView). Streams z v.wire v.seat) h.framed w.streams) w.worn) ended is
      by_kind o d (told cause k) tells on ended is = reported_end 2 s.grant end.NoMemory k.rows (over_more s.recovering.stream.hold (Some cause) k.holds tells) s.recovering.stream.hold (over_last v v.reports.items s.recovering.stream.hold (Some cause) k.holds) k.recalled (inl k.entries) (over_reported (on k.holds)) (λ _. over_released (on k.holds))
          (told_wanting s.recovering.stream.hold cause (record {
            attached = attached_at v reported_now k.rows.heard.turns (AsksFor s.grant) refl k.attached;
            own = last_at v reported_now s.recovering.stream.hold refl (over_last v v.reports.items s.recovering.stream.hold (Some cause) k.holds);
            stopped = subst (λ (z : StreamView). Stopped z v.wire v.seat (Some cause)) h.framed k.stopped;
          })) ended is

  left_again : (p : Parting) (g : Grant) (hold : KeptView) → LeftAs p v g hold → LeftAs p reported_now g hold
  left_again Gone g hold l = record { share = l.share; is = l.is; bytes = l.bytes; gone = l.gone }
  left_again Wanting g hold l = record { share = l.share; is = l.is; part = l.part; is_part = l.is_part; bytes = l.bytes }

  leaves_again : (p : Parting) (z : StreamView) → LeavesAs p v z → LeavesAs p reported_now z
  leaves_again Gone z l = l
  leaves_again Wanting z l = l

  pub parted : (paged : Bool) (p : Parting) (n : ℕ) → DetachedRow paged v.seat n → EntriesAtEnd paged (end_of p) v.seat
  parted paged Gone n d = inr (n, d)
  parted paged Wanting n d = inr (n, d)

  pub leaves_by : (s : LeavingStage) (e : SessionEnd) → HasLeft v s e → ((share : Share) → IsCounted s.hold share → None ≡ share.told → r.items ≡ v.reports.items ++ report s.hold.number share ∷ [])
      → (HoldsRow v.seat v.reports.items (over s.hold None) → HoldsRow v.seat r.items none) → (ended : Ended) → ended ≡ record { end = e; why = why.Nothing } → HeldLeads v reported_now 1 (End ended)
  leaves_by s e (went d) says row ended is = reported_end 1 s.grant (end_of s.parting) d.rows (over_more s.hold None d.holds says) s.hold (over_last v v.reports.items s.hold None d.holds) d.recalled (parted true s.parting s.hold.number d.detached) (over_reported (row d.holds)) (λ _. over_released (row d.holds))
      (let_go s.hold s.parting (attached_at v reported_now d.rows.heard.turns (AsksFor s.grant) refl d.attached) (last_at v reported_now s.hold refl (over_last v v.reports.items s.hold None d.holds)) d.detached (left_again s.parting s.grant s.hold d.left)) ended is
  leaves_by s e (stays k) says row ended is = reported_end 1 s.grant end.Worn k.keeps.rows (kept_more s.hold k.keeps.holds says) s.hold (kept_last v v.reports.items s.hold k.keeps.holds) k.recalled k.keeps.entries (kept_reported s.hold k.keeps.holds says) (λ no. absurd (no refl))
      (leaving_worn s.hold s.parting (attached_at v reported_now k.keeps.rows.heard.turns (AsksFor s.grant) refl k.keeps.attached) (last_at v reported_now s.hold refl (kept_last v v.reports.items s.hold k.keeps.holds)) (leaves_again s.parting (stream_of s.grant s.hold) k.leaves) k.worn) ended is

-- the hold is let go

kept_in : (p : Parting) (v : LiveView) (g : Grant) (hold : KeptView) → LeavesAs p v (stream_of g hold) → (share : Share) × IsKept v.seat hold share
kept_in Gone v g hold l = (l.0.share, l.0.is)
kept_in Wanting v g hold l = (l.share, l.is)

pub keeps_hold : (v : LiveView) (s : LeavingStage) → LeavingTold v s → (share : Share) × IsKept v.seat s.hold share
keeps_hold v s h = kept_in s.parting v s.grant s.hold h.leaves

left_in : (p : Parting) (v : LiveView) (t : SeatView) (g : Grant) (hold : KeptView) → LeavesAs p v (stream_of g hold) → ((share : Share) → IsKept v.seat hold share → LeavesHold t hold share let_go_is.Gone) → LeftAs p (with_held v v.wire v.watch t v.reports) g hold
left_in Gone v t g hold l leaves = record { share = share_gone l.0.share; is = leaves l.0.share l.0.is; bytes = l.0.bytes; gone = l.1 }
left_in Wanting v t g hold l leaves = record { share = share_gone l.share; is = leaves l.share l.is; part = l.part; is_part = l.is_part; bytes = l.bytes }

module _ (v : LiveView) (s : LeavingStage) (h : LeavingTold v s) (t : SeatView) (moved : MovedSeat v.seat t) (row : SeatRow v.seat → SeatRow t) where
  abbrev gone_now : LiveView
  gone_now = with_held v v.wire v.watch t v.reports

  pub gone_went : Goes v gone_now
  gone_went = goes_on v v.wire v.watch t v.reports (moved_wire_same v.wire) (watch_same v.watch) moved

  abbrev gone_rows : Granting gone_now s.grant
  gone_rows = granting_seat v t v.reports s.grant h.keeps.rows moved row (none_more v.reports.items)

  -- what was asked stays so, where the hub tells of the hold what it told before
  pub gone_recalled : ((pages : List Event) → PagesRow v.seat pages → PagesRow t pages) → recovers_at t s.hold.number ≡ recovers_at v.seat s.hold.number → Recalled gone_now s.grant gone_rows s.hold.number
  gone_recalled pages same =
      let c = h.recalled.row in
      record {
        spec = h.recalled.spec;
        spec_is = h.recalled.spec_is;
        qs = h.recalled.qs;
        row = record {
          asked = c.asked;
          cut = c.cut;
          cut_is = c.cut_is;
          talks = c.talks;
          told = c.told;
          untold = c.untold;
          events = c.events;
          pages = pages c.told c.pages;
          open_id = c.open_id;
          more = c.more;
          ids = same ∙ c.ids;
          dialed = c.dialed;
        };
      }

  module _ (attaches : (specs : List HoldSpec) (refused : Option HoldSpec) → AttachRow v.seat specs refused → AttachRow t specs refused) where
    gone_attached : HasAttached gone_now h.keeps.rows.heard.turns (AsksFor s.grant)
    gone_attached = record { spec = h.keeps.attached.spec; spec_is = h.keeps.attached.spec_is; attaches = attaches (specs_before h.keeps.rows.heard.turns ++ h.keeps.attached.spec ∷ []) None h.keeps.attached.attaches }

    pub detached : Recalled gone_now s.grant gone_rows s.hold.number → LeavesEntries true t s.hold.number let_go_is.Gone → HoldsRow t v.reports.items (over s.hold None) → ((share : Share) → IsKept v.seat s.hold share → LeavesHold t s.hold share let_go_is.Gone) → (e : SessionEnd) → e ≡ end_of s.parting → HasLeft gone_now s e
    detached asked entries holds leaves e is = subst (HasLeft gone_now s) (sym is)
        (went (record { rows = gone_rows; attached = gone_attached; detached = entries; holds = holds; room = h.keeps.room; left = left_in s.parting v t s.grant s.hold h.leaves leaves; recalled = asked }))

    abbrev keeps_here : PagedRow t → HoldsRow t v.reports.items (kept s.hold) → Keeps gone_now s.grant s.hold
    keeps_here entries holds = record { rows = gone_rows; attached = gone_attached; entries = entries; holds = holds; room = h.keeps.room }

    still_leaves : ((share : Share) → IsKept v.seat s.hold share → IsKept t s.hold share) → LeavesAs s.parting gone_now (stream_of s.grant s.hold)
    still_leaves on = by_parting s.parting h.leaves
      where
        by_parting : (p : Parting) → LeavesAs p v (stream_of s.grant s.hold) → LeavesAs p gone_now (stream_of s.grant s.hold)
        by_parting Gone l = (record { share = l.0.share; is = on l.0.share l.0.is; bytes = l.0.bytes }, l.1)
        by_parting Wanting l = record { share = l.share; is = on l.share l.is; part = l.part; is_part = l.is_part; bytes = l.bytes }

    pub detach_worn : Recalled gone_now s.grant gone_rows s.hold.number → PagedRow t → HoldsRow t v.reports.items (kept s.hold) → ((share : Share) → IsKept v.seat s.hold share → IsKept t s.hold share) → IsWorn t → HasLeft gone_now s end.Worn
    detach_worn asked entries holds on is = stays (record { keeps = keeps_here entries holds; leaves = still_leaves on; worn = is; recalled = asked })

    pub detach_busy : Recalled gone_now s.grant gone_rows s.hold.number → PagedRow t → HoldsRow t v.reports.items (kept s.hold) → ((share : Share) → IsKept v.seat s.hold share → IsKept t s.hold share) → IsServed t → Busied v.seat t → HeldLeads v gone_now 1 (Wait (Leaving s))
    detach_busy asked entries holds on served busy = record { moved = gone_went; to = (record { keeps = keeps_here entries holds; served = served; leaves = still_leaves on; recalled = asked }, busy, refl) }
