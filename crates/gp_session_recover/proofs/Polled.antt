-- A poll of a stream that asks for what it missed: the client is heard, and then what waits is delivered.
use Rattle.std.proofs.Common.{◌≡◌, ◌≢◌, ℕ, ◌≤◌, List, [], length, refl, sym, ap, ◌∙◌, subst, append-nil, arith, Option, Some, None, inl, inr}
use Rattle.gp_outside.specs.Counts.{Rose}
use Rattle.gp_plain.specs.declared.http.Signer.{Signer}
use Rattle.gp_plain.specs.declared.reply.EndCause.{EndCause}
use Rattle.gp_plain.specs.declared.reply.HoldReport.{HoldReport}
use Rattle.gp_again.specs.Views.{AgainView}
use Rattle.gp_session.specs.Lines.{Aim, LineView}
use Rattle.gp_session.specs.Seats.{SeatView}
use Rattle.gp_session.specs.Wires.{MovedWire, WireView}
use Rattle.gp_session.specs.Causes.{ReadWaited, WriteWaited}
use Rattle.gp_session.specs.Hearing.{Listens, most_heard}
use Rattle.gp_session.specs.declared.hearing.Heard.{Heard}
use Rattle.gp_session.specs.declared.hearing.Heard.TheVariants as heard
use Rattle.gp_session.proofs.Moving.{moved_heard, moved_seat_same, moved_wire_again, rose_from, sent_same, write_waited_from}
use Rattle.gp_session_hold.specs.Polls.{StreamPends, StreamWaits, flooded, gave}
use Rattle.gp_session_hold.specs.Polls.{busy as busy_pends, waits as waits_pends}
use Rattle.gp_session_hold.specs.Rows.{HoldsRow, kept, stream_text}
use Rattle.gp_session_hold.specs.Streams.{Idles, StreamView, Streams}
use Rattle.gp_session_recover.specs.Quests.{Quest}
use Rattle.gp_session_recover.specs.Rows.{Closes, IsReady, RecoveringView, Recovers, Sides, hold_of, sides}
use Rattle.gp_session_recover.specs.Polls.{ClosedOn, Goes, Halts, Hears, PollHalts, PollWaits, PolledAs, PolledServes, PollHaltsAs, PollsStream, Pends, RecoversOn, RunsAs, Stays, TalkWaited, Why, busy, idle, last_polled, moments_at, sixteen, unsent}
use Rattle.gp_session_recover.specs.declared.polling.StreamPolled.{StreamPolled}
use Rattle.gp_session_recover.specs.declared.polling.StreamPolled.TheVariants as polled
use Rattle.gp_session_recover.proofs.Shut.{shut_on}
use Rattle.gp_session_recover.proofs.Sought.{timed_none}

-- what is heard leaves the stream
streams_heard : (v : StreamView) (w y : WireView) (s : SeatView) (h : Heard) → Listens w y h → Streams v w s → Streams v y s
streams_heard v w y s h l x = record {
  share = x.share;
  is = x.is;
  bytes = sent_same w y (stream_text v.chunked v.head x.share.taken None) x.bytes l.start l.heard_is.hears.sent l.rest;
}

-- and the rows
recovers_heard : (signer : Signer) (source : Option AgainView) (aims : List Aim) (qs : List Quest) (a : Sides) (y : WireView) → Recovers signer source aims qs a → Recovers signer source aims qs (record a { wire = y })
recovers_heard signer source aims qs a y r = record {
  stood = record { again = r.stood.again; asked = r.stood.asked; ids = r.stood.ids; talk = r.stood.talk; dialed = r.stood.dialed };
  spec = r.spec;
  spec_is = r.spec_is;
  linked = r.linked;
  asking = r.asking;
}

pub ready_heard : (signer : Signer) (a : Sides) (y : WireView) (h : Heard) → Listens a.wire y h → IsReady signer a → IsReady signer (record a { wire = y })
ready_heard signer a y h l r = record {
  source = r.source;
  aims = r.aims;
  qs = r.qs;
  row = recovers_heard signer r.source r.aims r.qs a y r.row;
  streams = streams_heard a.is.stream a.wire y a.seat h l r.streams;
}

-- the client is gone
pub gone_heard : (signer : Signer) (now : ℕ) (a : Sides) (y : WireView) (u : RecoveringView) (m : LineView) → Listens a.wire y heard.Gone → IsReady signer a → Closes a.is u a.line m → PollsStream signer now a (sides u y m a.seat) polled.Gone
gone_heard signer now a y u m l r e = record {
  hears = record {
    number = ap (λ (v : StreamView). v.hold.number) e.stream;
    chunked = ap (λ (v : StreamView). v.chunked) e.stream;
    head = ap (λ (v : StreamView). v.head) e.stream;
    wire = moved_heard a.wire y l.heard_is.more l.start l.rest l.heard_is.hears;
    heard = l.heard_is.more;
    received = l.heard_is.hears.received;
    line = e.moved;
    seat = moved_seat_same a.seat;
    row = λ row. row;
    entries = λ row. row;
    attaches = λ specs refused row. row;
  };
  holds = λ reports row. subst (λ (v : StreamView). HoldsRow a.seat reports (kept v.hold)) (sym e.stream) row;
  says = record {
    serves = λ free. free;
    closed = λ source aims qs row.
        shut_on signer source aims qs qs now a a (sides u y m a.seat) None row.stood [] (sym (append-nil qs)) (timed_none now (moments_at qs a) (moments_at qs a) refl) (ap (λ (v : StreamView). v.hold.number) e.stream) refl e.moved e.says;
    says = (subst (λ (v : StreamView). Streams v y a.seat) (sym e.stream) (streams_heard a.is.stream a.wire y a.seat heard.Gone l r.streams), l.heard_is.says);
  };
}

rose_on : (a b c : ℕ) → Rose a b → b ≤ c → Rose a c
rose_on a b c rose le = omega (arith, rose, le)

-- why no more was heard, where the client isn't gone
pub data Went (w y : WireView) (more : List ℕ) : Type 0 where
  quiet : ReadWaited w y → Went w y more
  much : length more ≡ most_heard → Went w y more

pub went_quiet : (w y : WireView) (l : Listens w y heard.NotReady) → Went w y l.heard_is.more
went_quiet w y l = quiet l.heard_is.says.0

pub went_much : (w y : WireView) (l : Listens w y heard.Much) → Went w y l.heard_is.more
went_much w y l = much l.heard_is.says.0

module _ (signer : Signer) (now : ℕ) (a b : Sides) (y : WireView) (h : Heard) (l : Listens a.wire y h) (went : Went a.wire y l.heard_is.more) where
  abbrev from : Sides
  from = record a { wire = y }

  wire : MovedWire a.wire y
  wire = moved_heard a.wire y l.heard_is.more l.start l.rest l.heard_is.hears

  -- an activity has its cause, or as much was heard as may be
  pends_by : (ReadWaited a.wire b.wire → StreamWaits (hold_of a) now a.wire b.wire a.seat b.seat) → y.link.read_waits ≤ b.wire.link.read_waits → StreamPends (hold_of a) now a.wire b.wire a.seat b.seat l.heard_is.more
  pends_by cause le = by_went went
    where
      by_went : Went a.wire y l.heard_is.more → StreamPends (hold_of a) now a.wire b.wire a.seat b.seat l.heard_is.more
      by_went (quiet rose) = waits_pends (cause (rose_on a.wire.link.read_waits y.link.read_waits b.wire.link.read_waits rose le))
      by_went (much all) = flooded all

  why_by : y.link.read_waits ≤ b.wire.link.read_waits → Why now from b → Pends now a b l.heard_is.more
  why_by le (busy b) = (busy_pends b, inl b)
  why_by le (idle waited empty idles) = (pends_by (λ rose. record { hear = rose; writes = λ some. absurd (some empty); take = λ _. idles }) le, inr waited)
  why_by le (unsent waited some write) = (pends_by (λ rose. record { hear = rose; writes = λ _. write_waited_from a.wire y b.wire wire write; take = λ empty. absurd (some empty) }) le, inr waited)
  why_by le (sixteen waited given) = (gave given, inr waited)

  abbrev hears_by : Goes from b → Hears a b
  hears_by g = record {
    number = g.number;
    chunked = g.chunked;
    head = g.head;
    wire = moved_wire_again a.wire y b.wire wire g.wire;
    heard = l.heard_is.more;
    received = g.received ∙ l.heard_is.hears.received;
    line = g.line;
    seat = g.seat;
    row = g.row;
    entries = g.entries;
    attaches = g.attaches;
  }

  waits_by : Stays signer now from b → Why now from b → PollsStream signer now a b polled.Pending
  waits_by st why = record {
    hears = hears_by st.goes;
    holds = st.holds;
    says = record {
      free = st.free;
      streams = st.streams;
      recovers = λ source aims qs r.
          let on : RecoversOn signer source aims qs now from b = st.recovers source aims qs (recovers_heard signer source aims qs a y r) in
          record { more = on.more; row = on.row; timed = on.timed };
      pends = why_by st.goes.wire.later.read_waits why;
    };
  }

  halts_by : (answer : StreamPolled) (e : Halts signer now from b answer) → PollHaltsAs a b answer → PollHalts signer now a b answer
  halts_by answer e says = record {
    serves = e.serves;
    closed = λ source aims qs r.
        let on : ClosedOn signer source aims qs now from b = e.closed source aims qs (recovers_heard signer source aims qs a y r) in
        record { more = on.more; row = on.row; dropped = on.dropped; timed = on.timed };
    says = says;
  }

  -- behind all turns of the poll
  pub polled_by : (answer : StreamPolled) → RunsAs signer now from b answer → PollsStream signer now a b answer
  polled_by polled.Pending e = waits_by e.0 e.1
  polled_by (polled.Ended cause) e = record { hears = hears_by e.goes; holds = e.holds; says = halts_by (polled.Ended cause) e e.says }
  polled_by polled.Gone e = record { hears = hears_by e.goes; holds = e.holds; says = halts_by polled.Gone e (e.says, inr (rose_from a.wire.link.faults y.link.faults b.wire.link.faults wire.later.faults e.sound)) }
  polled_by polled.Worn e = record { hears = hears_by e.goes; holds = e.holds; says = halts_by polled.Worn e e.says }
  polled_by polled.NoMemory e = record { hears = hears_by e.goes; holds = e.holds; says = halts_by polled.NoMemory e e.says }
  polled_by (polled.Unput told) e = record { hears = hears_by e.goes; holds = e.holds; says = halts_by (polled.Unput told) e e.says }
