-- What each kind of move does to the rows of a session.
use Rattle.std.proofs.Common.{◌≡◌, ℕ, ◌≤◌, ◌⊎◌, List, [], ◌++◌, refl, sym, ap, ◌∙◌, subst, arith, append-nil, append_assoc, inl, inr}
use Rattle.std.proofs.lemmas.List.Elements.{All-nil}
use Rattle.gp_outside.specs.Dials.{DialTells, DialLater, IsIdle}
use Rattle.gp_outside.specs.Counts.{Rose}
use Rattle.gp_outside.specs.Links.{LinkTells, LinkLater}
use Rattle.gp_outbox.specs.declared.outbox.Flushed.{Flushed}
use Rattle.gp_outbox.specs.declared.outbox.Flushed.TheVariants as flushed
use Rattle.gp_hub.specs.declared.outcome.SessionEnd.{SessionEnd}
use Rattle.gp_hub.specs.declared.outcome.SessionEnd.TheVariants as end
use Rattle.gp_exchange.proofs.Leading.{later_same as dial_same, later_later as dial_later}
use Rattle.gp_exchange.proofs.Causes.{waits_from}
use Rattle.gp_session.specs.Wires.{WireView, MovedWire, RequestRow, Sent, BytesRow, Flushes}
use Rattle.gp_session.specs.Lines.{Aim, LineView, MovedLine, LineRow, Last}
use Rattle.gp_session.specs.Watches.{WatchView, MovedWatch, Asks as AsksClock}
use Rattle.gp_session.proofs.Moving.{rose_since, later_since, request_same, sent_flushed, sent_put, sent_same, says_again, moved_flushed, moved_put, moved_none_put, moved_seat_same, moved_seat_again, moved_wire_same, moved_wire_again, read_waited_from, write_waited_from}
use Rattle.gp_session_http.specs.declared.stage.Stage.{Stage}
use Rattle.gp_session_http.specs.declared.stage.Stage.TheVariants.{ReadingHead, ReadingBody, Refusing, Asking, Gathering, Giving, Failing, Passing, Finishing}
use Rattle.gp_session_http.specs.declared.stage.Ended.{Ended}
use Rattle.gp_session_http.specs.declared.stage.Next.{Next}
use Rattle.gp_session_http.specs.declared.stage.Next.TheVariants.{Go, Wait, Hold, End}
use Rattle.gp_session_http.specs.Routing.{Charter}
use Rattle.gp_session_http.specs.Passing.{ArePartsOf}
use Rattle.gp_session_http.specs.Views.{LiveView, Moved}
use Rattle.gp_plain.specs.declared.reply.HoldReport.{HoldReport}
use Rattle.gp_session.specs.Seats.{SeatView}
use Rattle.gp_session_http.specs.declared.asked.Asked.{Asked}
use Rattle.gp_session_http.specs.Turns.{Past, PastOf, aims_of}
use Rattle.gp_session_http.specs.Trace.{asked_in, Asks, last_of, text_of, Stays, Told}
use Rattle.gp_session_http.specs.Moves.{IsReading, IsTalking, DialWaited, EndSays, why_at, HasPassed, Pends, passed, waits, Used, AsksAtEnd, IsAtEnd, TimesAtEnd, shape_at_end, hung_up, ToldAtEnd, LeadsTo, Leads}

abbrev pub with_wire : LiveView → WireView → LiveView
with_wire v w = record { wire = w; line = v.line; watch = v.watch; seat = v.seat; charter = v.charter; reports = v.reports }

abbrev pub with_line : LiveView → LineView → LiveView
with_line v l = record { wire = v.wire; line = l; watch = v.watch; seat = v.seat; charter = v.charter; reports = v.reports }

abbrev pub with_watch : LiveView → WatchView → LiveView
with_watch v w = record { wire = v.wire; line = v.line; watch = w; seat = v.seat; charter = v.charter; reports = v.reports }

-- moves, and moves one after another

pub line_same : (l : LineView) → MovedLine l l
line_same l = record { start = refl; later = dial_same l.dial }

pub line_again : (k l m : LineView) → MovedLine k l → MovedLine l m → MovedLine k m
line_again k l m a b = record { start = b.start ∙ a.start; later = dial_later k.dial l.dial m.dial a.later b.later }

pub rose_again : (a b c : ℕ) → Rose a b → Rose b c → Rose a c
rose_again a b c p q = omega (arith, p, q)

pub watch_same : (v : WatchView) → MovedWatch v v
watch_same v = record { start = refl; moved = inl refl }

pub watch_again : (u v w : WatchView) → MovedWatch u v → MovedWatch v w → MovedWatch u w
watch_again u v w a b = record { start = b.start ∙ a.start; moved = by_moves a.moved b.moved }
  where
    by_moves : (v ≡ u) ⊎ AsksClock u v → (w ≡ v) ⊎ AsksClock v w → (w ≡ u) ⊎ AsksClock u w
    by_moves (inl same) (inl still) = inl (still ∙ same)
    by_moves (inr asked) (inl still) = inr (subst (AsksClock u) (sym still) asked)
    by_moves (inl same) (inr asks) = inr (subst (λ (x : WatchView). AsksClock x w) same asks)
    by_moves (inr asked) (inr asks) = inr (record { none = asked.none; calls = rose_again u.clock.calls v.clock.calls w.clock.calls asked.calls asks.calls })

pub moved_over : (v : LiveView) (w : WireView) → MovedWire v.wire w → Moved v (with_wire v w)
moved_over v w m = record { wire = m; line = line_same v.line; watch = watch_same v.watch; seat = moved_seat_same v.seat; charter = refl; reports = refl }

pub moved_same : (v : LiveView) → Moved v v
moved_same v = record {
  wire = moved_wire_same v.wire;
  line = line_same v.line;
  watch = watch_same v.watch;
  seat = moved_seat_same v.seat;
  charter = refl;
  reports = refl;
}

pub moved_line : (v : LiveView) (l : LineView) → MovedLine v.line l → Moved v (with_line v l)
moved_line v l m = record {
  wire = moved_wire_same v.wire;
  line = m;
  watch = watch_same v.watch;
  seat = moved_seat_same v.seat;
  charter = refl;
  reports = refl;
}

pub moved_watch : (v : LiveView) (w : WatchView) → MovedWatch v.watch w → Moved v (with_watch v w)
moved_watch v w moved = record {
  wire = moved_wire_same v.wire;
  line = line_same v.line;
  watch = moved;
  seat = moved_seat_same v.seat;
  charter = refl;
  reports = refl;
}

pub moved_again : (u v w : LiveView) → Moved u v → Moved v w → Moved u w
moved_again u v w a b = record {
  wire = moved_wire_again u.wire v.wire w.wire a.wire b.wire;
  line = line_again u.line v.line w.line a.line b.line;
  watch = watch_again u.watch v.watch w.watch a.watch b.watch;
  seat = moved_seat_again u.seat v.seat w.seat a.seat b.seat;
  charter = b.charter ∙ a.charter;
  reports = b.reports ∙ a.reports;
}

pub moved_flush : (v : LiveView) (w : WireView) (f : Flushed) → Flushes v.wire w f → Moved v (with_wire v w)
moved_flush v w f h = moved_over v w (moved_flushed v.wire w f h)

pub moved_by_put : (v : LiveView) (w : WireView) (more : List ℕ) → w.start ≡ v.wire.start → w.link ≡ v.wire.link → w.rest ≡ v.wire.rest ++ more → Moved v (with_wire v w)
moved_by_put v w more start link rest = moved_over v w (moved_put v.wire w more start link rest)

pub moved_unput : (v : LiveView) (w : WireView) → w.start ≡ v.wire.start → w.link ≡ v.wire.link → w.rest ≡ v.wire.rest → Moved v (with_wire v w)
moved_unput v w start link rest = moved_over v w (moved_none_put v.wire w start link rest)

-- what stays

pub stays_wire : (v : LiveView) (w : WireView) → w.start ≡ v.wire.start → LinkLater v.wire.link w.link → Stays v → Stays (with_wire v w)
stays_wire v w start later s = record { seat = s.seat; served = s.served; links = later_since v.wire w s.links start later; dials = s.dials }

pub stays_line : (v : LiveView) (l : LineView) → MovedLine v.line l → Stays v → Stays (with_line v l)
stays_line v l m s = record {
  seat = s.seat;
  served = s.served;
  links = s.links;
  dials = subst (λ (t : DialTells). DialLater t l.dial) (sym m.start) (dial_later v.line.start v.line.dial l.dial s.dials m.later);
}

pub stays_watch : (v : LiveView) (w : WatchView) → Stays v → Stays (with_watch v w)
stays_watch v w s = record { seat = s.seat; served = s.served; links = s.links; dials = s.dials }

-- the talks and the holds before, where the last talk went on

pub past_on : (l m : LineView) (c : Charter) (s : SeatView) (reports : List HoldReport) (asked : Asked) (a b : Last) → m.start ≡ l.start → ((aims : List Aim) → LineRow l aims a → LineRow m aims b) → Past l c s reports asked a → Past m c s reports asked b
past_on l m c s reports asked a b start row h = record {
  turns = h.turns;
  behind = h.behind;
  held = h.held;
  talks = λ alone. row (aims_of h.turns) (h.talks (subst IsIdle start alone));
  entries = h.entries;
  attaches = h.attaches;
  holds = h.holds;
  told = h.told;
}

pub no_parts : ArePartsOf [] []
no_parts = record { some = All-nil _; joined = refl }

-- the rows at an end

used_all : (c : Charter) (stage : Stage) (received : List ℕ) → Asks c stage received → Used c stage received
used_all c stage received asks = record { used = received; unused = []; split = sym (append-nil received); asks = asks }

pub request_used : (w : WireView) (c : Charter) (stage : Stage) → RequestRow w (Asks c stage) → RequestRow w (Used c stage)
request_used w c stage r = record { received = r.received; since = r.since; asks = used_all c stage r.received r.asks }

rows_at_end : (e : SessionEnd) (l : LiveView) (stage : Stage) (t : Told l stage) → PastOf l.line l.charter l.seat l.reports.items (asked_in stage) (hung_up (last_of stage t.given))
    → RequestRow l.wire (AsksAtEnd e l.charter stage) → IsAtEnd e l stage t.given t.parts → BytesRow l.wire (shape_at_end e (text_of stage t.parts)) → TimesAtEnd e l stage → ToldAtEnd e l stage
rows_at_end e l stage t talks request at bytes times =
    record { given = t.given; parts = t.parts; cut = t.cut; request = request; talks = talks; aim = t.aim; at = at; bytes = bytes; times = times; stays = t.stays }

pub at_end : (e : SessionEnd) (l : LiveView) (stage : Stage) (t : Told l stage) → PastOf l.line l.charter l.seat l.reports.items (asked_in stage) (hung_up (last_of stage t.given)) → ToldAtEnd e l stage
at_end (end.Sent code) l stage t talks = rows_at_end (end.Sent code) l stage t talks t.request t.at t.bytes t.times
at_end (end.Cut cause) l stage t talks = rows_at_end (end.Cut cause) l stage t talks t.request t.at t.bytes t.times
at_end end.ClientGone l stage t talks = rows_at_end end.ClientGone l stage t talks t.request t.at t.bytes t.times
at_end end.Worn l stage t talks = rows_at_end end.Worn l stage t talks t.request t.at t.bytes t.times
at_end end.NoMemory l stage t talks =
    rows_at_end end.NoMemory l stage t talks (request_used l.wire l.charter stage t.request) tt (text_of stage t.parts, ([], append-nil (text_of stage t.parts)), t.bytes) tt

-- a flush

pub told_flushed : (v : LiveView) (w : WireView) (stage : Stage) (f : Flushed) → Told v stage → Flushes v.wire w f → Told (with_wire v w) stage
told_flushed v w stage f t h = record {
  given = t.given;
  parts = t.parts;
  cut = t.cut;
  request = request_same v.wire w (Asks v.charter stage) (Asks v.charter stage) t.request h.start h.passed.received (λ received asks. asks);
  talks = t.talks;
  aim = t.aim;
  at = t.at;
  bytes = sent_flushed v.wire w (text_of stage t.parts) f t.bytes h;
  times = t.times;
  stays = stays_wire v w h.start h.passed.later t.stays;
}

-- a stage that sends its last bytes, and whose talk is over
module _ (v : LiveView) (w : WireView) (n : ℕ) (stage : Stage) (told : Told v stage) (reads : IsReading stage → ⊥) (talks : (u : LiveView) → IsTalking u stage → ⊥) (hangs : (given : List ℕ) → last_of stage given ≡ hung_up (last_of stage given)) where
  now : (f : Flushed) → Flushes v.wire w f → Told (with_wire v w) stage
  now f h = told_flushed v w stage f told h

  ends : (e : SessionEnd) (f : Flushed) → Flushes v.wire w f → EndSays e (with_wire v w) stage → (ended : Ended) → ended ≡ record { end = e; why = why_at stage } → Leads v (with_wire v w) n (End ended)
  ends e f h says ended is = subst (λ (x : Ended). Leads v (with_wire v w) n (End x)) (sym is) (record {
    moved = moved_flush v w f h;
    to = record {
      stage = stage;
      told = at_end e (with_wire v w) stage (now f h) (subst (PastOf v.line v.charter v.seat v.reports.items (asked_in stage)) (hangs (now f h).given) (now f h).talks);
      says = says;
      why_is = refl;
    };
  })

  pub closed_ends : (e : SessionEnd) → EndSays e (with_wire v w) stage → Flushes v.wire w flushed.Empty → (ended : Ended) → ended ≡ record { end = e; why = why_at stage } → Leads v (with_wire v w) n (End ended)
  closed_ends e says h ended is = ends e flushed.Empty h says ended is

  pub closed_gone : Flushes v.wire w flushed.Failed → (ended : Ended) → ended ≡ record { end = end.ClientGone; why = why_at stage } → Leads v (with_wire v w) n (End ended)
  closed_gone h ended is = ends end.ClientGone flushed.Failed h (inl (rose_since v.wire w (λ (t : LinkTells). t.faults) h.start told.stays.links.faults h.cause.1)) ended is

  pub closed_waits : Flushes v.wire w flushed.NotReady → Leads v (with_wire v w) n (Wait stage)
  closed_waits h = record {
    moved = moved_flush v w flushed.NotReady h;
    to = (
      now flushed.NotReady h,
      waits (record { request = λ r. absurd (reads r); talk = λ t. absurd (talks (with_wire v w) t); writes = λ some. h.cause.1; some = inr (inr h.cause.0) }),
    );
  }

pub from_live : (v x w : LiveView) (n : ℕ) (next : Next) → v ≡ x → Leads v w n next → Leads x w n next
from_live v x w n next e l = subst (λ (y : LiveView). Leads y w n next) e l

pub told_live : (v x : LiveView) (stage : Stage) → v ≡ x → Told x stage → Told v stage
told_live v x stage e t = subst (λ (y : LiveView). Told y stage) (sym e) t

pub leads_is : (v w : LiveView) (n : ℕ) (a b : Next) → a ≡ b → Leads v w n b → Leads v w n a
leads_is v w n a b e l = subst (Leads v w n) (sym e) l

-- a cause in the last part of a poll is one of the poll

passed_from : (u v w : LiveView) (stage : Stage) → Moved u v → HasPassed v w stage → HasPassed u w stage
passed_from u v w (ReadingHead s) m p = p
passed_from u v w (ReadingBody s) m p = p
passed_from u v w (Refusing s) m p = p
passed_from u v w (Asking s) m p = p
passed_from u v w (Gathering s) m p = p
passed_from u v w (Giving s) m p = p
passed_from u v w (Failing s) m p = p
passed_from u v w (Passing s) m p = record {
  parts = p.parts;
  number = p.number;
  some = p.some;
  before = m.wire.more ++ p.before;
  says = λ text sent. subst (λ (more : List ℕ). Sent w.wire (text ++ more)) (sym (append_assoc m.wire.more p.before _)) (says_again u.wire v.wire w.wire m.wire.more _ m.wire.says p.says text sent);
}
passed_from u v w (Finishing s) m p = p

dial_waited_from : (u v w : LiveView) (stage : Stage) → Moved u v → DialWaited v w stage → DialWaited u w stage
dial_waited_from u v w (ReadingHead s) m d = tt
dial_waited_from u v w (ReadingBody s) m d = tt
dial_waited_from u v w (Refusing s) m d = tt
dial_waited_from u v w (Asking s) m d = waits_from u.line.dial v.line.dial w.line.dial m.line.later s.exchange.place d
dial_waited_from u v w (Gathering s) m d = waits_from u.line.dial v.line.dial w.line.dial m.line.later s.exchange.place d
dial_waited_from u v w (Giving s) m d = tt
dial_waited_from u v w (Failing s) m d = tt
dial_waited_from u v w (Passing s) m d = waits_from u.line.dial v.line.dial w.line.dial m.line.later s.exchange.place d
dial_waited_from u v w (Finishing s) m d = tt

pub pends_from : (u v w : LiveView) (stage : Stage) → Moved u v → Pends v w stage → Pends u w stage
pends_from u v w stage m (passed p) = passed (passed_from u v w stage m p)
pends_from u v w stage m (waits c) = waits (record {
  request = λ reads. ((c.request reads).0, read_waited_from u.wire v.wire w.wire m.wire (c.request reads).1);
  talk = λ talks. dial_waited_from u v w stage m (c.talk talks);
  writes = λ some. write_waited_from u.wire v.wire w.wire m.wire (c.writes some);
  some = c.some;
})

leads_to_from : (u v w : LiveView) (k n : ℕ) (next : Next) → Moved u v → k ≤ n → LeadsTo v w k next → LeadsTo u w n next
leads_to_from u v w k n (Go stage) m le l = (l.0, omega (arith, le, l.1))
leads_to_from u v w k n (Wait stage) m le l = (l.0, pends_from u v w stage m l.1)
leads_to_from u v w k n (Hold stage) m le l = l
leads_to_from u v w k n (End ended) m le l = l

-- a move after those before it
pub leads_from : (u v w : LiveView) (k n : ℕ) (next : Next) → Moved u v → k ≤ n → Leads v w k next → Leads u w n next
leads_from u v w k n next m le l = record { moved = moved_again u v w m l.moved; to = leads_to_from u v w k n next m le l.to }
