-- What each kind of move does to the rows of a session whose origin's answer asks for a stream.
use Rattle.std.proofs.Common.{◌≡◌, ℕ, ◌+◌, ◌<◌, ◌≤◌, true, List, [], ◌∷◌, ◌++◌, length, Option, Some, None, refl, sym, ap, ◌∙◌, subst, arith, append-nil, append_assoc, ◌⊎◌, inl, inr}
use Rattle.std.specs.List.{All}
use Rattle.std.proofs.lemmas.List.Elements.{All-nil, All-push, All-head, All-tail}
use mathlib.Core.List.{IsPrefix}
use Rattle.gp_plain.specs.History.{held as held_in}
use Rattle.gp_plain.specs.Others.{share_at}
use Rattle.gp_plain.specs.Roomy.{Roomy}
use Rattle.gp_plain.specs.declared.event.Entry.{Entry}
use Rattle.gp_plain.specs.declared.reply.HoldReport.{HoldReport}
use Rattle.gp_plain.proofs.ShareLaws.{released_share_law_holds}
use Rattle.gp_outside.specs.Counts.{Rose, grown}
use Rattle.gp_outside.specs.Dials.{DialLater, DialTells}
use Rattle.gp_outside.specs.Links.{LinkTells}
use Rattle.gp_instruct_json.specs.declared.answer.Answer.{Answer}
use Rattle.gp_exchange.specs.Views.{ExchangeView}
use Rattle.gp_exchange.proofs.Leading.{later_later}
use Rattle.gp_session.specs.Lines.{LineView, MovedLine}
use Rattle.gp_session.specs.Seats.{SeatView, MovedSeat, SeatRow}
use Rattle.gp_session.specs.Watches.{WatchView, MovedWatch, WatchRow, Uses, Asks as AsksClock}
use Rattle.gp_session.specs.Wires.{WireView, MovedWire}
use Rattle.gp_session.proofs.Moving.{later_since, moved_wire_same, moved_wire_again, moved_seat_same, moved_seat_again, busied_from, write_waited_from}
use Rattle.gp_session_hold.specs.Rows.{EntriesRow, AttachRow, HoldsRow, none, holds_of, reports_of, IsReleased}
use Rattle.gp_session_wait.specs.Waits.{most_repeats}
use Rattle.gp_session_http.specs.declared.asked.Asked.{Asked}
use Rattle.gp_session_http.specs.declared.asking.Asking.{Asking as AskingStage}
use Rattle.gp_session_http.specs.declared.grant.Grant.{Grant}
use Rattle.gp_session_http.specs.declared.streaming.Streaming.{Streaming as StreamingStage}
use Rattle.gp_session_http.specs.declared.waiting.Waiting.{Waiting as WaitingStage}
use Rattle.gp_session_http.specs.declared.held.Held.{Held}
use Rattle.gp_session_http.specs.declared.held.Held.TheVariants.{Attaching, Declining, Streaming, Closing, Leaving, Beginning, Denying, Waiting, Answering, Departing}
use Rattle.gp_session_http.specs.declared.held.HeldNext.{HeldNext}
use Rattle.gp_session_http.specs.declared.held.HeldNext.TheVariants.{Go, Wait, Again, End}
use Rattle.gp_session_http.specs.Routing.{Charter, IsServed}
use Rattle.gp_session_http.specs.Turns.{Turn, Behind, first as asked_first, again as asked_again, AreHeld, specs_before, reports_before}
use Rattle.gp_session_http.specs.Views.{LiveView, Moved, Goes}
use Rattle.gp_session_http.specs.Trace.{BeginsWith}
use Rattle.gp_session_http.specs.Heard.{Heard, IsUnattached}
use Rattle.gp_session_http.specs.Holding.{Granting, HeldPends, GoesTo, AsksAgain, HeldLeads, HeldLeadsTo, IsOnward, PollTimes, StreamTimes}
use Rattle.gp_session_http.proofs.Rows.{line_same, line_again, watch_same, watch_again, rose_again}

abbrev pub with_held : LiveView → WireView → WatchView → SeatView → Roomy HoldReport → LiveView
with_held v x u t r = record { wire = x; line = v.line; watch = u; seat = t; charter = v.charter; reports = r }

-- moves, and moves one after another

pub goes_on : (v : LiveView) (x : WireView) (u : WatchView) (t : SeatView) (r : Roomy HoldReport) → MovedWire v.wire x → MovedWatch v.watch u → MovedSeat v.seat t → Goes v (with_held v x u t r)
goes_on v x u t r wire watch seat = record { wire = wire; line = line_same v.line; watch = watch; seat = seat; charter = refl }

pub goes_of : (v w : LiveView) → Moved v w → Goes v w
goes_of v w m = record { wire = m.wire; line = m.line; watch = m.watch; seat = m.seat; charter = m.charter }

pub goes_same : (v : LiveView) → Goes v v
goes_same v = record { wire = moved_wire_same v.wire; line = line_same v.line; watch = watch_same v.watch; seat = moved_seat_same v.seat; charter = refl }

pub goes_again : (u v w : LiveView) → Goes u v → Goes v w → Goes u w
goes_again u v w a b = record {
  wire = moved_wire_again u.wire v.wire w.wire a.wire b.wire;
  line = line_again u.line v.line w.line a.line b.line;
  watch = watch_again u.watch v.watch w.watch a.watch b.watch;
  seat = moved_seat_again u.seat v.seat w.seat a.seat b.seat;
  charter = b.charter ∙ a.charter;
}

-- a cause in the last part of a poll is one of the poll
pub held_pends_from : (u v w : LiveView) (stage : Held) → Goes u v → HeldPends v w stage → HeldPends u w stage
held_pends_from u v w (Attaching s) m p = busied_from u.seat v.seat w.seat m.seat p
held_pends_from u v w (Declining s) m p = record { some = p.some; waited = write_waited_from u.wire v.wire w.wire m.wire p.waited }
held_pends_from u v w (Streaming s) m p = record {
  waited = record {
    wire = p.waited.wire;
    seat = p.waited.seat;
    moved_wire = moved_wire_again u.wire v.wire p.waited.wire m.wire p.waited.moved_wire;
    moved_seat = moved_seat_again u.seat v.seat p.waited.seat m.seat p.waited.moved_seat;
    now = p.waited.now;
    moment = p.waited.moment;
    last = p.waited.last;
    heard = p.waited.heard;
    received = p.waited.received;
    pends = p.waited.pends;
  };
  line = p.line;
  moved_line = line_again u.line v.line p.line m.line p.moved_line;
  talk = p.talk;
}
held_pends_from u v w (Closing s) m p = record { some = p.some; waited = write_waited_from u.wire v.wire w.wire m.wire p.waited }
held_pends_from u v w (Leaving s) m p = busied_from u.seat v.seat w.seat m.seat p
held_pends_from u v w (Beginning s) m p = busied_from u.seat v.seat w.seat m.seat p
held_pends_from u v w (Denying s) m p = record { some = p.some; waited = write_waited_from u.wire v.wire w.wire m.wire p.waited }
held_pends_from u v w (Waiting s) m p = record {
  wire = p.wire;
  seat = p.seat;
  moved_wire = moved_wire_again u.wire v.wire p.wire m.wire p.moved_wire;
  moved_seat = moved_seat_again u.seat v.seat p.seat m.seat p.moved_seat;
  now = p.now;
  moment = p.moment;
  last = p.last;
  heard = p.heard;
  received = p.received;
  pends = p.pends;
}
held_pends_from u v w (Answering s) m p = record { some = p.some; waited = write_waited_from u.wire v.wire w.wire m.wire p.waited }
held_pends_from u v w (Departing s) m p = busied_from u.seat v.seat w.seat m.seat p

-- a move after one that changed no report

goes_to_from : (u v w : LiveView) (stage : Held) → v.reports.items ≡ u.reports.items → GoesTo v w stage → GoesTo u w stage
goes_to_from u v w (Attaching s) same g = tt
goes_to_from u v w (Declining s) same g = tt
goes_to_from u v w (Streaming s) same g = g
goes_to_from u v w (Closing s) same g = tt
goes_to_from u v w (Leaving s) same g = tt
goes_to_from u v w (Beginning s) same g = absurd g
goes_to_from u v w (Denying s) same g = tt
goes_to_from u v w (Waiting s) same g = (g.0 ∙ same, g.1)
goes_to_from u v w (Answering s) same g = tt
goes_to_from u v w (Departing s) same g = tt

again_from : (u v w : LiveView) (s : AskingStage) → v.reports.items ≡ u.reports.items → AsksAgain v w s → AsksAgain u w s
again_from u v w s same a = record {
  told = a.told;
  timed = a.timed;
  count = a.count ∙ ap (λ (rs : List HoldReport). length rs + 1) same;
  few = subst (λ (rs : List HoldReport). length rs < most_repeats) same a.few;
}

held_to_from : (u v w : LiveView) (k n : ℕ) (next : HeldNext) → Goes u v → v.reports.items ≡ u.reports.items → k ≡ n → HeldLeadsTo v w k next → HeldLeadsTo u w n next
held_to_from u v w k n (Go stage) m same rank l = (l.0, omega (arith, rank, l.1), goes_to_from u v w stage same l.2)
held_to_from u v w k n (Wait stage) m same rank l = (l.0, held_pends_from u v w stage m l.1, l.2 ∙ rank)
held_to_from u v w k n (Again stage) m same rank l = (again_from u v w stage same l.0, omega (arith, rank, l.1))
held_to_from u v w k n (End ended) m same rank l = l

pub held_from : (u v w : LiveView) (k n : ℕ) (next : HeldNext) → Goes u v → v.reports.items ≡ u.reports.items → k ≡ n → HeldLeads v w k next → HeldLeads u w n next
held_from u v w k n next m same rank l = record { moved = goes_again u v w m l.moved; to = held_to_from u v w k n next m same rank l.to }

pub held_live : (v x w : LiveView) (n : ℕ) (next : HeldNext) → v ≡ x → HeldLeads v w n next → HeldLeads x w n next
held_live v x w n next e l = subst (λ (y : LiveView). HeldLeads y w n next) e l

pub held_is : (v w : LiveView) (n : ℕ) (a b : HeldNext) → a ≡ b → HeldLeads v w n b → HeldLeads v w n a
held_is v w n a b e l = subst (HeldLeads v w n) (sym e) l

-- a move that the poll doesn't wait behind says nothing of what waits

pub onward_stream : (v w : LiveView) (s : StreamingStage) (next : HeldNext) → IsOnward next → StreamTimes v w s next
onward_stream v w s (Go next) on = tt
onward_stream v w s (Wait next) on = absurd on
onward_stream v w s (Again next) on = tt
onward_stream v w s (End ended) on = tt

pub onward_poll : (s : WaitingStage) (next : HeldNext) → IsOnward next → PollTimes s next
onward_poll s (Go next) on = tt
onward_poll s (Wait next) on = absurd on
onward_poll s (Again next) on = tt
onward_poll s (End ended) on = tt

pub onward_is : (a b : HeldNext) → a ≡ b → IsOnward b → IsOnward a
onward_is a b e on = subst IsOnward (sym e) on

pub timed_live : (v x w : LiveView) (s : StreamingStage) (next : HeldNext) → v ≡ x → StreamTimes v w s next → StreamTimes x w s next
timed_live v x w s next e t = subst (λ (y : LiveView). StreamTimes y w s next) e t

-- the rows that all stages have

pub heard_none : (told : Option (List ℕ)) → told ≡ grown told []
heard_none None = refl
heard_none (Some bytes) = ap Some (sym (append-nil bytes))

pub heard_twice : (told : Option (List ℕ)) (some more : List ℕ) → grown (grown told some) more ≡ grown told (some ++ more)
heard_twice None some more = refl
heard_twice (Some bytes) some more = ap Some (append_assoc bytes some more)

pub more_unused : (Is : List ℕ → Type 0) (received heard : List ℕ) → BeginsWith Is received → BeginsWith Is (received ++ heard)
more_unused Is received heard b = record { used = b.used; unused = b.unused ++ heard; split = ap (λ (xs : List ℕ). xs ++ heard) b.split ∙ append_assoc b.used b.unused heard; is = b.is }

-- the holds of turns stay as they are
pub held_moved : (s t : SeatView) (c : Charter) (turns : List Turn) (asked : Asked) → MovedSeat s t → Behind c turns asked → AreHeld s turns → AreHeld t turns
held_moved s t c turns asked moved behind held = all_moved turns (all_released c turns asked behind) held
  where
    all_released : (c : Charter) (turns : List Turn) (asked : Asked) → Behind c turns asked → All (λ (turn : Turn). turn.share.released ≡ true) turns
    all_released c turns asked (asked_first a never item) = All-nil _
    all_released c turns asked (asked_again before turn a behind is on) = All-push (λ (t : Turn). t.share.released ≡ true) before turn (all_released c before turn.asked behind) is.released

    all_moved : (turns : List Turn) → All (λ (turn : Turn). turn.share.released ≡ true) turns → AreHeld s turns → AreHeld t turns
    all_moved [] all h = tt
    all_moved (turn ∷ turns) all h =
        let released : turn.share.released ≡ true = All-head (λ (t : Turn). t.share.released ≡ true) turn turns all in (
          subst (λ (es : List Entry). share_at (held_in es) turn.number ≡ Some turn.share) moved.seen.1 (released_share_law_holds s.pass.seen moved.seen.0 turn.number turn.share h.0 released),
          all_moved turns (All-tail (λ (t : Turn). t.share.released ≡ true) turn turns all) h.1,
        )

pub none_more : (rs : List HoldReport) → IsPrefix rs rs
none_more rs = ([], append-nil rs)

pub same_more : (rs qs : List HoldReport) → qs ≡ rs → IsPrefix rs qs
same_more rs qs same = ([], append-nil rs ∙ sym same)

module _ (v : LiveView) (x : WireView) (u : WatchView) (t : SeatView) (r : Roomy HoldReport) (asked : Asked) (y : ExchangeView) (answer : Answer) (h : Heard v asked y answer) where
  abbrev pub heard_on : MovedWire v.wire x → (heard : List ℕ) → x.link.received ≡ grown v.wire.link.received heard → Rose u.start.calls u.clock.calls → WatchRow u → MovedSeat v.seat t → (SeatRow v.seat → SeatRow t) → IsPrefix v.reports.items r.items → Heard (with_held v x u t r) asked y answer
  heard_on moved heard received calls times seat row more = record {
    content = h.content;
    turns = h.turns;
    request = record {
      received = h.request.received ++ heard;
      since = received ∙ ap (λ told. grown told heard) h.request.since ∙ heard_twice v.wire.start.received h.request.received heard ∙ ap (λ (k : LinkTells). grown k.received (h.request.received ++ heard)) (sym moved.start);
      asks = more_unused (IsServed v.charter.rules asked.request asked.address) h.request.received heard h.request.asks;
    };
    aim = h.aim;
    behind = h.behind;
    held = held_moved v.seat t v.charter h.turns asked seat h.behind h.held;
    told = (h.told.0 ++ more.0, sym (append_assoc (reports_before h.turns) h.told.0 more.0) ∙ ap (λ (rs : List HoldReport). rs ++ more.0) h.told.1 ∙ more.1);
    answers = h.answers;
    calls = calls;
    times = times;
    seat = row h.seat;
    links = later_since v.wire x h.links moved.start moved.later;
    dials = h.dials;
  }

-- the dialer's end moved
abbrev pub heard_line : (v : LiveView) (m : LineView) (asked : Asked) (y : ExchangeView) (answer : Answer) → Heard v asked y answer → MovedLine v.line m → Heard (record v { line = m }) asked y answer
heard_line v m asked y answer h moved = record {
  content = h.content;
  turns = h.turns;
  request = h.request;
  aim = h.aim;
  behind = h.behind;
  held = h.held;
  told = h.told;
  answers = h.answers;
  calls = h.calls;
  times = h.times;
  seat = h.seat;
  links = h.links;
  dials = subst (λ (start : DialTells). DialLater start m.dial) (sym moved.start) (later_later v.line.start v.line.dial m.dial h.dials moved.later);
}

-- the client's end alone moved
abbrev pub heard_wire : (v : LiveView) (x : WireView) (asked : Asked) (y : ExchangeView) (answer : Answer) → Heard v asked y answer → MovedWire v.wire x → x.link.received ≡ v.wire.link.received → Heard (with_held v x v.watch v.seat v.reports) asked y answer
heard_wire v x asked y answer h moved same = heard_on v x v.watch v.seat v.reports asked y answer h moved [] (same ∙ heard_none v.wire.link.received) h.calls h.times (moved_seat_same v.seat) (λ row. row) (none_more v.reports.items)

-- or the hub's end alone
abbrev pub heard_seat : (v : LiveView) (t : SeatView) (r : Roomy HoldReport) (asked : Asked) (y : ExchangeView) (answer : Answer) → Heard v asked y answer → MovedSeat v.seat t → (SeatRow v.seat → SeatRow t) → IsPrefix v.reports.items r.items → Heard (with_held v v.wire v.watch t r) asked y answer
heard_seat v t r asked y answer h seat row more = heard_on v v.wire v.watch t r asked y answer h (moved_wire_same v.wire) [] (heard_none v.wire.link.received) h.calls h.times seat row more

abbrev pub granting_on : (v : LiveView) (x : WireView) (u : WatchView) (t : SeatView) (r : Roomy HoldReport) (g : Grant) → Granting v g → MovedWire v.wire x → (heard : List ℕ) → x.link.received ≡ grown v.wire.link.received heard
    → Rose u.start.calls u.clock.calls → WatchRow u → MovedSeat v.seat t → (SeatRow v.seat → SeatRow t) → IsPrefix v.reports.items r.items → Granting (with_held v x u t r) g
granting_on v x u t r g h moved heard received calls times seat row more =
    record { heard = heard_on v x u t r g.asked.value g.exchange.value g.answer.value h.heard moved heard received calls times seat row more; is = h.is }

abbrev pub granting_wire : (v : LiveView) (x : WireView) (g : Grant) → Granting v g → MovedWire v.wire x → x.link.received ≡ v.wire.link.received → Granting (with_held v x v.watch v.seat v.reports) g
granting_wire v x g h moved same = record { heard = heard_wire v x g.asked.value g.exchange.value g.answer.value h.heard moved same; is = h.is }

abbrev pub granting_seat : (v : LiveView) (t : SeatView) (r : Roomy HoldReport) (g : Grant) → Granting v g → MovedSeat v.seat t → (SeatRow v.seat → SeatRow t) → IsPrefix v.reports.items r.items → Granting (with_held v v.wire v.watch t r) g
granting_seat v t r g h seat row more = record { heard = heard_seat v t r g.asked.value g.exchange.value g.answer.value h.heard seat row more; is = h.is }

abbrev pub granting_line : (v : LiveView) (m : LineView) (g : Grant) → Granting v g → MovedLine v.line m → Granting (record v { line = m }) g
granting_line v m g h moved = record { heard = heard_line v m g.asked.value g.exchange.value g.answer.value h.heard moved; is = h.is }

-- the clock was asked once more, or not
pub calls_on : (v u : WatchView) (now : ℕ) → Uses v u now → Rose v.start.calls v.clock.calls → Rose u.start.calls u.clock.calls
calls_on v u now uses calls = by_move uses.moved.moved
  where
    by_move : (u ≡ v) ⊎ AsksClock v u → Rose u.start.calls u.clock.calls
    by_move (inl same) = subst (λ (w : WatchView). Rose w.start.calls w.clock.calls) (sym same) calls
    by_move (inr asks) = subst (λ (n : ℕ). Rose n u.clock.calls) (ap (λ t. t.calls) (sym uses.moved.start)) (rose_again v.start.calls v.clock.calls u.clock.calls calls asks.calls)

-- a session that has made no entry for an answer

pub unattached_same : (v : LiveView) (t : SeatView) (r : Roomy HoldReport) (u : WatchView) (turns : List Turn) → EntriesRow t → AttachRow t (specs_before turns) None → HoldsRow t r.items none → IsUnattached v turns → IsUnattached (with_held v v.wire u t r) turns
unattached_same v t r u turns entries attaches holds is = record { entries = entries; attaches = attaches; holds = holds; bytes = is.bytes }

pub none_reported : (l : LiveView) → HoldsRow l.seat l.reports.items none → l.reports.items ≡ reports_of (holds_of l.seat)
none_reported l h = h.reported ∙ ap reports_of (sym h.stands)

pub none_kept : (l : LiveView) → HoldsRow l.seat l.reports.items none → All IsReleased (holds_of l.seat)
none_kept l h = subst (All IsReleased) (sym h.stands) h.released
