-- What is settled of a talk, and one turn behind it.
use Rattle.std.proofs.Common.{◌≡◌, ◌<◌, ◌≢◌, ℕ, ◌+◌, ◌≤◌, Bool, true, false, List, [], ◌∷◌, ◌++◌, refl, sym, ap, ◌∙◌, subst, append_assoc, append-nil, Option, Some, None, option_map, is_some, arith}
use Rattle.std.specs.Option.{option_to_list}
use Rattle.std.proofs.lemmas.List.Elements.{All-nil, All-push}
use Rattle.gp_outside.specs.Counts.{Rose}
use Rattle.gp_plain.specs.declared.http.Signer.{Signer}
use Rattle.gp_plain.specs.declared.event.HoldSpec.{HoldSpec}
use Rattle.gp_plain.specs.declared.event.HoldSpec.TheVariants.{Stream as StreamSpec, Plain, Response, Socket}
use Rattle.gp_plain.specs.declared.reply.EndCause.{EndCause}
use Rattle.gp_plain.specs.declared.reply.HoldReport.{HoldReport}
use Rattle.gp_plain.specs.declared.reply.Taken.{Taken}
use Rattle.gp_plain.specs.Holds.{is_retry, terms_of}
use Rattle.gp_plain.specs.Kinds.{RecoverFits}
use Rattle.gp_outside.specs.Dials.{DialTells, IsIdle}
use Rattle.gp_exchange.specs.Answers.{Waits, rank}
use Rattle.gp_exchange.specs.declared.place.Place.{Place}
use Rattle.gp_exchange.specs.declared.place.Place.TheVariants as place
use Rattle.gp_again.specs.Quests.{Asks, IsQuest}
use Rattle.gp_again.specs.Views.{AgainView}
use Rattle.gp_asking.specs.Asking.{IsAsking}
use Rattle.gp_hub.specs.Own.{HasTaken}
use Rattle.gp_recover.specs.Moves.{IsKept}
use Rattle.gp_recover.specs.Views.{IsLive, SoughtView, asked_by, place_at, place_of}
use Rattle.gp_recover.specs.declared.stage.Stage.{Stage}
use Rattle.gp_recover.specs.declared.stage.Stage.TheVariants as stage
use Rattle.gp_session.specs.Lines.{Aim, LineRow, LineView, MovedLine, idle}
use Rattle.gp_session.specs.Seats.{Busied, IsServed, MovedSeat, SeatRow, SeatView}
use Rattle.gp_session.specs.Seeking.{SeeksRow, aims_at, last_at, seeking_at}
use Rattle.gp_session.specs.Wires.{MovedWire, WireView}
use Rattle.gp_session.proofs.Lining.{begins_talk}
use Rattle.gp_session.proofs.Moving.{busied_from, moved_seat_again, moved_seat_same, moved_wire_same, rose_from, write_waited_from}
use Rattle.gp_session_hold.specs.Rows.{HoldsRow, kept, over, recovers_at, spec_at}
use Rattle.gp_session_hold.specs.Streams.{Delivers, Gives, Idles, StreamView, Streams, asks, begins, gives, moves}
use Rattle.gp_session_hold.specs.declared.stream.Streamed.{Streamed}
use Rattle.gp_session_hold.specs.declared.stream.Streamed.TheVariants as streamed
use Rattle.gp_session_recover.specs.Quests.{Quest, aims_of, ids_of, moments_of}
use Rattle.gp_session_recover.specs.Talks.{GoesOn}
use Rattle.gp_session_recover.specs.Rows.{AsksOf, Begun, BeginsTalk, Closed, Closes, ClosesAs, IsLiveTalk, IsOpen, IsOver, IsReady, IsShortTalk, IsTalking, RecoveringView, Recovers, SeeksAs, SeeksOpen, Seeks, Sides, Stood, TalkRow, failed, got, hold_of, id_open, lost, moment_open, sides, waits}
use Rattle.gp_session_recover.specs.Polls.{AsksTo, Brings, BringsAs, ClosedOn, Goes, Halts, HaltSounds, HaltsAs, PolledServes, RecoversOn, RunsAs, Running, SettlesAs, Stays, StepsAs, TalkWaited, TalkWaitedAt, Timed, TurnStays, TurnsAs, busy, idle as idle_why, last_polled, moments_at, sixteen, unsent}
use Rattle.gp_session_recover.specs.declared.bringing.Brought.{Brought}
use Rattle.gp_session_recover.specs.declared.bringing.Brought.TheVariants as brought
use Rattle.gp_session_recover.specs.declared.open.Open.{Open as OpenTalk}
use Rattle.gp_session_recover.specs.declared.polling.StreamPolled.{StreamPolled}
use Rattle.gp_session_recover.specs.declared.polling.StreamPolled.TheVariants as polled
use Rattle.gp_session_recover.specs.declared.talk.Talk.{Talk}
use Rattle.gp_session_recover.specs.declared.talk.Talk.TheVariants.{None as NoTalk, Open, Page, Failed}
use Rattle.gp_session_recover.specs.declared.turning.Stepped.{Stepped}
use Rattle.gp_session_recover.specs.declared.turning.Stepped.TheVariants as stepped
use Rattle.gp_session_recover.proofs.Shut.{shut_on}
use Rattle.gp_session_recover.proofs.Sought.{on_none, sought_lost, sought_on, timed_none}
use Rattle.gp_session_recover.proofs.Told.{failure_by, page_by}
use Rattle.gp_session_recover.proofs.Turned.{goes_again, goes_same, moved_line_same, recovers_again, recovers_turned, running_again, stays_again, stays_same, stood_turned, talk_waited_from, timed_again}

-- ---- what the rows say of a talk

pub live_by : (signer : Signer) (again : Option AgainView) (l : LineView) (s : SeatView) (n : ℕ) (aims : List Aim) (qs : List Quest) (talk : Talk) → TalkRow signer again l s n aims qs talk → IsLiveTalk talk
live_by signer again l s n aims qs NoTalk r = tt
live_by signer again l s n aims qs (Open t) r = r.1.live
live_by signer again l s n aims qs (Page page) r = tt
live_by signer again l s n aims qs Failed r = tt

pub short_by : (signer : Signer) (again : Option AgainView) (l : LineView) (s : SeatView) (n : ℕ) (aims : List Aim) (qs : List Quest) (talk : Talk) → TalkRow signer again l s n aims qs talk → IsShortTalk talk
short_by signer again l s n aims qs NoTalk r = tt
short_by signer again l s n aims qs (Open t) r = tt
short_by signer again l s n aims qs (Page page) r = r.2
short_by signer again l s n aims qs Failed r = tt

pub live_ready : (signer : Signer) (a : Sides) → IsReady signer a → IsLiveTalk a.is.talk
live_ready signer a r = live_by signer a.is.again a.line a.seat (hold_of a) r.aims r.qs a.is.talk r.row.stood.talk

pub short_ready : (signer : Signer) (a : Sides) → IsReady signer a → IsShortTalk a.is.talk
short_ready signer a r = short_by signer a.is.again a.line a.seat (hold_of a) r.aims r.qs a.is.talk r.row.stood.talk

-- behind moves that keep the rows
pub ready_on : (signer : Signer) (now : ℕ) (a b : Sides) → IsReady signer a → Stays signer now a b → IsReady signer b
ready_on signer now a b r st =
    let on : RecoversOn signer r.source r.aims r.qs now a b = st.recovers r.source r.aims r.qs r.row in
    record { source = r.source; aims = r.aims; qs = r.qs ++ on.more; row = on.row; streams = st.streams }

-- ---- settling

-- an open talk waited, behind a poll of it
abbrev pub OpenWaited : Talk → LineView → LineView → Type 0
OpenWaited NoTalk l m = TalkWaitedAt NoTalk l m
OpenWaited (Open t) l m = TalkWaitedAt (Open t) l m
OpenWaited (Page page) l m = TalkWaitedAt NoTalk l m
OpenWaited Failed l m = TalkWaitedAt NoTalk l m

open_waited : (t : OpenTalk) (v u : RecoveringView) (l m : LineView) (room : Bool) → room ≡ true → SeeksOpen t v u l m room → OpenWaited u.talk l m
open_waited t v u l m room holds (waits next is asks_is g) = subst (λ (x : Talk). OpenWaited x l m) (sym is) g.waits
open_waited t v u l m room holds (got page link is asks_is g) = subst (λ (x : Talk). OpenWaited x l m) (sym is) tt
open_waited t v u l m room holds (failed is asks_is g) = subst (λ (x : Talk). OpenWaited x l m) (sym is) tt
open_waited t v u l m room holds (lost is asks_is g) = absurd (let both : false ≡ true = holds in (cc))

seek_waited : (talk : Talk) (v u : RecoveringView) (l m : LineView) → v.talk ≡ talk → SeeksAs talk v u l m true → OpenWaited u.talk l m
seek_waited NoTalk v u l m is e = subst (λ (x : Talk). OpenWaited x l m) (sym (e.talk ∙ is)) tt
seek_waited (Open t) v u l m is e = open_waited t v u l m true refl e
seek_waited (Page page) v u l m is e = subst (λ (x : Talk). OpenWaited x l m) (sym (e.talk ∙ is)) tt
seek_waited Failed v u l m is e = subst (λ (x : Talk). OpenWaited x l m) (sym (e.talk ∙ is)) tt

module _ (signer : Signer) (now : ℕ) (a : Sides) (streams : Streams a.is.stream a.wire a.seat) (u : RecoveringView) (m : LineView) where
  goes_sought : u.stream ≡ a.is.stream → MovedLine a.line m → Goes a (record a { is = u; line = m })
  goes_sought stream moved = record {
    number = ap (λ (v : StreamView). v.hold.number) stream;
    chunked = ap (λ (v : StreamView). v.chunked) stream;
    head = ap (λ (v : StreamView). v.head) stream;
    wire = moved_wire_same a.wire;
    received = refl;
    ends = refl;
    line = moved;
    seat = moved_seat_same a.seat;
    row = λ r. r;
    entries = λ r. r;
    attaches = λ specs refused r. r;
  }

  -- the talk was polled
  pub stays_sought : Seeks a.is u a.line m true → Stays signer now a (record a { is = u; line = m })
  stays_sought e = record {
    goes = goes_sought e.stream e.moved;
    holds = λ reports r. subst (λ (v : StreamView). HoldsRow a.seat reports (kept v.hold)) (sym e.stream) r;
    free = λ f. f;
    sound = refl;
    streams = subst (λ (v : StreamView). Streams v a.wire a.seat) (sym e.stream) streams;
    recovers = sought_on signer now a u m e;
  }

  pub halts_sought : Seeks a.is u a.line m false → Halts signer now a (record a { is = u; line = m }) polled.NoMemory
  halts_sought e = record {
    goes = goes_sought e.stream e.moved;
    holds = λ reports r. subst (λ (v : StreamView). HoldsRow a.seat reports (kept v.hold)) (sym e.stream) r;
    serves = λ f. f;
    sound = tt;
    closed = sought_lost signer now a u m e;
    says = subst (λ (v : StreamView). Streams v a.wire a.seat) (sym e.stream) streams;
  }

-- the hub was told, where something was to be told
same_sides : (a : Sides) (u : RecoveringView) (t : SeatView) → u ≡ a.is → t ≡ a.seat → record a { is = u; seat = t } ≡ a
same_sides a u t is seat = ap (λ (x : RecoveringView). record a { is = x; seat = t }) is ∙ ap (λ (x : SeatView). record a { seat = x }) seat

pub view_is : (v u : RecoveringView) → u.stream ≡ v.stream → u.again ≡ v.again → u.talk ≡ v.talk → u ≡ v
view_is v u stream again talk =
    ap (λ x. record { stream = x; again = u.again; talk = u.talk }) stream ∙ ap (λ x. record { stream = v.stream; again = x; talk = u.talk }) again ∙ ap (λ x. record { stream = v.stream; again = v.again; talk = x }) talk

-- ---- behind moves by which the stream goes on

closed_again : (signer : Signer) (source : Option AgainView) (aims : List Aim) (qs : List Quest) (now : ℕ) (a b c : Sides) (p : RecoversOn signer source aims qs now a b) → ClosedOn signer source aims (qs ++ p.more) now b c → ClosedOn signer source aims qs now a c
closed_again signer source aims qs now a b c p q =
    let all : (qs ++ p.more) ++ q.more ≡ qs ++ (p.more ++ q.more) = append_assoc qs p.more q.more in
    record {
      more = p.more ++ q.more;
      row = subst (λ (rs : List Quest). Closed signer source aims rs (hold_of c) c.line c.seat) all q.row;
      dropped = q.dropped;
      timed = timed_again now (moments_at qs a) (moments_at (qs ++ p.more) b) (moments_of (qs ++ (p.more ++ q.more)) ++ option_to_list q.dropped) p.timed
          (subst (λ (rs : List Quest). Timed now (moments_at (qs ++ p.more) b) (moments_of rs ++ option_to_list q.dropped)) all q.timed);
    }

serves_from : (s t u : SeatView) (answer : StreamPolled) → (IsServed s → IsServed t) → PolledServes t u answer → PolledServes s u answer
serves_from s t u polled.Pending f p = λ x. p (f x)
serves_from s t u (polled.Ended cause) f p = λ x. p (f x)
serves_from s t u polled.Gone f p = λ x. p (f x)
serves_from s t u polled.Worn f p = p
serves_from s t u polled.NoMemory f p = λ x. p (f x)
serves_from s t u (polled.Unput told) f p = λ x. p (f x)

sounds_from : (v w x : WireView) (answer : StreamPolled) → MovedWire v w → HaltSounds w x answer → HaltSounds v x answer
sounds_from v w x polled.Pending moved p = p
sounds_from v w x (polled.Ended cause) moved p = p
sounds_from v w x polled.Gone moved p = rose_from v.link.faults w.link.faults x.link.faults moved.later.faults p
sounds_from v w x polled.Worn moved p = p
sounds_from v w x polled.NoMemory moved p = p
sounds_from v w x (polled.Unput told) moved p = p

pub halts_from : (signer : Signer) (now : ℕ) (a b c : Sides) (answer : StreamPolled) → Stays signer now a b → Halts signer now b c answer → Halts signer now a c answer
halts_from signer now a b c answer st h = record {
  goes = goes_again a b c st.goes h.goes;
  holds = λ reports r. h.holds reports (st.holds reports r);
  serves = serves_from a.seat b.seat c.seat answer st.free h.serves;
  sound = sounds_from a.wire b.wire c.wire answer st.goes.wire h.sound;
  closed = λ source aims qs r.
      let first : RecoversOn signer source aims qs now a b = st.recovers source aims qs r in
      closed_again signer source aims qs now a b c first (h.closed source aims (qs ++ first.more) first.row);
  says = h.says;
}

settles_from : (signer : Signer) (now : ℕ) (a b c : Sides) (answer : Brought) → Stays signer now a b → SettlesAs signer now b c answer → SettlesAs signer now a c answer
settles_from signer now a b c brought.Goes st e = (stays_again signer now a b c st e.0, talk_waited_from c.is.talk a.line b.line c.line st.goes.line e.1)
settles_from signer now a b c brought.Busy st e = (stays_again signer now a b c st e.0, busied_from a.seat b.seat c.seat st.goes.seat e.1)
settles_from signer now a b c brought.Worn st e = halts_from signer now a b c polled.Worn st e
settles_from signer now a b c brought.NoMemory st e = halts_from signer now a b c polled.NoMemory st e

unbrought : (signer : Signer) (now : ℕ) (a b : Sides) (u : RecoveringView) (t : SeatView) (answer : Brought) → Stays signer now a b → u ≡ b.is → t ≡ b.seat → answer ≡ brought.Goes → TalkWaited a b → SettlesAs signer now a (record b { is = u; seat = t }) answer
unbrought signer now a b u t answer st is seat goes waited =
    subst (SettlesAs signer now a (record b { is = u; seat = t })) (sym goes) (subst (λ (c : Sides). Stays signer now a c × TalkWaited a c) (sym (same_sides b u t is seat)) (st, waited))

told_from : (signer : Signer) (now : ℕ) (a b : Sides) (talk : Talk) (u : RecoveringView) (t : SeatView) (answer : Brought) → Stays signer now a b → b.is.talk ≡ talk → u.stream ≡ b.is.stream → u.again ≡ b.is.again
    → SettlesAs signer now (record b { is = record b.is { talk = talk } }) (record b { is = record b.is { talk = u.talk }; seat = t }) answer → SettlesAs signer now a (record b { is = u; seat = t }) answer
told_from signer now a b talk u t answer st is stream again e =
    settles_from signer now a b (record b { is = u; seat = t }) answer st
    (subst (λ (x : RecoveringView). SettlesAs signer now b (record b { is = x; seat = t }) answer) (sym (view_is (record b.is { talk = u.talk }) u stream again refl))
    (subst (λ (x : Talk). SettlesAs signer now (record b { is = record b.is { talk = x } }) (record b { is = record b.is { talk = u.talk }; seat = t }) answer) (sym is) e))

settled_by : (signer : Signer) (now : ℕ) (a b : Sides) (talk : Talk) (u : RecoveringView) (t : SeatView) (answer : Brought) → Stays signer now a b → b.is.talk ≡ talk → OpenWaited talk a.line b.line
    → u.stream ≡ b.is.stream → u.again ≡ b.is.again → MovedSeat b.seat t → (SeatRow b.seat → SeatRow t) → BringsAs talk (record b.is { talk = talk }) u b.seat t answer → SettlesAs signer now a (record b { is = u; seat = t }) answer
settled_by signer now a b NoTalk u t answer st is waited stream again moved row e =
    unbrought signer now a b u t answer st (view_is b.is u stream again (e.talk ∙ sym is)) e.seat e.answer_is (subst (λ (x : Talk). TalkWaitedAt x a.line b.line) (sym is) waited)
settled_by signer now a b (Open talk) u t answer st is waited stream again moved row e =
    unbrought signer now a b u t answer st (view_is b.is u stream again (e.talk ∙ sym is)) e.seat e.answer_is (subst (λ (x : Talk). TalkWaitedAt x a.line b.line) (sym is) waited)
settled_by signer now a b (Page page) u t answer st is waited stream again moved row e =
    told_from signer now a b (Page page) u t answer st is stream again (page_by signer now b.is.stream b.is.again b.wire b.line b.seat t st.streams moved row page answer u e)
settled_by signer now a b Failed u t answer st is waited stream again moved row e =
    told_from signer now a b Failed u t answer st is stream again (failure_by signer now b.is.stream b.is.again b.wire b.line b.seat t st.streams moved row answer u e)

-- what settling came to
pub settled : (signer : Signer) (now : ℕ) (a : Sides) (mid u : RecoveringView) (m : LineView) (t : SeatView) (answer : Brought) → Streams a.is.stream a.wire a.seat → Seeks a.is mid a.line m true → Brings mid u a.seat t answer
    → SettlesAs signer now a (record { is = u; wire = a.wire; line = m; seat = t }) answer
settled signer now a mid u m t answer streams e b =
    settled_by signer now a (record a { is = mid; line = m }) mid.talk u t answer (stays_sought signer now a streams mid m e) refl (seek_waited a.is.talk a.is mid a.line m refl e.says) b.stream b.again b.moved b.row b.says

-- a page that was got is short
pub short_sought : (signer : Signer) (a : Sides) (u : RecoveringView) (m : LineView) → IsReady signer a → Seeks a.is u a.line m true → IsShortTalk u.talk
short_sought signer a u m r e = short_ready signer (record a { is = u; line = m }) (ready_on signer 0 a (record a { is = u; line = m }) r (stays_sought signer 0 a r.streams u m e))

-- ---- a turn

abbrev pub TurnSides : StreamView → Option AgainView → Talk → WireView → LineView → SeatView → Sides
TurnSides v again talk w l s = record { is = record { stream = v; again = again; talk = talk }; wire = w; line = l; seat = s }

module _ (signer : Signer) (now : ℕ) (v u : StreamView) (again : Option AgainView) (talk : Talk) (w x : WireView) (l : LineView) (s t : SeatView) where
  goes_turned : (answer : Streamed) → Delivers v u w x s t now answer → Goes (TurnSides v again talk w l s) (TurnSides u again talk x l t)
  goes_turned answer d = record {
    number = d.goes.number;
    chunked = d.goes.chunked;
    head = d.goes.head;
    wire = d.goes.wire;
    received = d.goes.received;
    ends = d.goes.ends;
    line = moved_line_same l;
    seat = d.goes.seat;
    row = d.goes.row;
    entries = d.goes.entries true;
    attaches = d.goes.attaches;
  }

  -- the stream goes on
  module _ (answer : Streamed) (d : Delivers v u w x s t now answer) (holds : (reports : List HoldReport) → HoldsRow s reports (kept v.hold) → HoldsRow t reports (kept u.hold)) (free : IsServed s → IsServed t) (sound : x.link.faults ≡ w.link.faults)
      (same : recovers_at t v.hold.number ≡ recovers_at s v.hold.number) (asking : IsAsking s.pass v.hold.number → IsAsking t.pass v.hold.number) (streams : Streams u x t) where
    misses_none : recovers_at t v.hold.number ≡ recovers_at s v.hold.number ++ []
    misses_none = same ∙ sym (append-nil (recovers_at s v.hold.number))

    pub turn_stays : TurnStays signer now (TurnSides v again talk w l s) (TurnSides u again talk x l t)
    turn_stays = record {
      stays = record {
        goes = goes_turned answer d;
        holds = holds;
        free = free;
        sound = sound;
        streams = streams;
        recovers = λ source aims qs r. on_none signer source aims qs now (TurnSides v again talk w l s) (TurnSides u again talk x l t) refl
            (recovers_turned signer source aims qs v u again talk w x l s t None d.goes.number d.goes.pages misses_none refl d.goes.spec (λ talking is. asking is) r);
      };
      talk = refl;
      line = refl;
    }

  -- it goes on no more
  module _ (answer : Streamed) (d : Delivers v u w x s t now answer) (end : StreamPolled) (v' : StreamView) (next : Talk) (m : LineView) (more : Option (List ℕ)) (misses : recovers_at t v.hold.number ≡ recovers_at s v.hold.number ++ option_to_list more)
      (stream : v' ≡ u) (moved : MovedLine l m) (closes : ClosesAs talk l m) (holds : (reports : List HoldReport) → HoldsRow s reports (kept v.hold) → HoldsRow t reports (last_polled u.hold end)) (serves : PolledServes s t end) (sound : HaltSounds w x end)
      (again' : Option AgainView) (says : HaltsAs (TurnSides u again next x m t) end) where
    abbrev ended_at : StreamView → Sides
    ended_at y = record { is = record { stream = y; again = again'; talk = next }; wire = x; line = m; seat = t }

    says_of : (end : StreamPolled) → HaltsAs (TurnSides u again next x m t) end → HaltsAs (ended_at u) end
    says_of polled.Pending h = h
    says_of (polled.Ended cause) h = h
    says_of polled.Gone h = h
    says_of polled.Worn h = h
    says_of polled.NoMemory h = h
    says_of (polled.Unput told) h = h

    pub halts_turned : Halts signer now (TurnSides v again talk w l s) (ended_at v') end
    halts_turned = subst (λ (y : StreamView). Halts signer now (TurnSides v again talk w l s) (ended_at y) end) (sym stream) (record {
      goes = record {
        number = d.goes.number;
        chunked = d.goes.chunked;
        head = d.goes.head;
        wire = d.goes.wire;
        received = d.goes.received;
        ends = d.goes.ends;
        line = moved;
        seat = d.goes.seat;
        row = d.goes.row;
        entries = d.goes.entries true;
        attaches = d.goes.attaches;
      };
      holds = holds;
      serves = serves;
      sound = sound;
      closed = λ source aims qs r.
          shut_on signer source aims qs qs now (TurnSides v again talk w l s) (TurnSides u again talk x l t) (ended_at u) more
          (stood_turned signer source aims qs v u again talk w x l s t more d.goes.number d.goes.pages misses r.stood) [] (sym (append-nil qs))
          (timed_none now (moments_at qs (TurnSides v again talk w l s)) (moments_at qs (TurnSides u again talk x l t)) refl) refl refl moved closes;
      says = says_of end says;
    })

-- ---- a turn that told an id

-- a Take that tells one, and no end, is of a hold with a link
pub asks_link : (spec : HoldSpec) (taken : Taken) (from : List ℕ) → RecoverFits spec taken → taken.recover ≡ Some from → taken.ended ≡ None → (terms_of spec).link ≡ true
asks_link (StreamSpec opening channel prev link) taken from fits told open_is = (fits (ap is_some told)).0
asks_link (Plain opening channels) taken from fits told open_is = absurd (let no : Some from ≡ None = sym told ∙ fits in (cc))
asks_link (Response channels prev deadline again) taken from fits told open_is = absurd (let no : true ≡ false = ap is_some (sym told) ∙ fits ∙ ap is_retry open_is in (cc))
asks_link Socket taken from fits told open_is = absurd (let no : Some from ≡ None = sym told ∙ fits in (cc))

spec_same : {x y : HoldSpec} → Some x ≡ Some y → x ≡ y
spec_same e = cc

-- so there is someone to ask, and nobody is asked yet
pub asks_someone : (signer : Signer) (now : ℕ) (v u : StreamView) (again : Option AgainView) (talk : Talk) (w x : WireView) (l : LineView) (s t : SeatView) (from : List ℕ) → IsReady signer (TurnSides v again talk w l s) → Delivers v u w x s t now (streamed.Missing from) → is_some again ≡ true
asks_someone signer now v u again talk w x l s t from r d =
    let link : (terms_of r.streams.share.spec).link ≡ true =
    asks_link r.streams.share.spec d.says.1.taken from ((subst (λ (n : ℕ). HasTaken s.pass t.pass n now d.says.1.taken) d.goes.number d.says.1.took).fits r.streams.share r.streams.is.there).recovers d.says.1.recover d.says.1.open_is in
    sym r.row.linked ∙ ap (λ (spec : HoldSpec). (terms_of spec).link) (spec_same (sym r.row.spec_is ∙ ap (option_map (λ share. share.spec)) r.streams.is.there)) ∙ link

none_talking : (talk : Talk) → (IsTalking talk → ⊥) → talk ≡ NoTalk
none_talking NoTalk never = refl
none_talking (Open t) never = absurd (never tt)
none_talking (Page page) never = absurd (never tt)
none_talking Failed never = absurd (never tt)

pub asks_alone : (signer : Signer) (now : ℕ) (v u : StreamView) (again : Option AgainView) (talk : Talk) (w x : WireView) (l : LineView) (s t : SeatView) (from : List ℕ) → IsReady signer (TurnSides v again talk w l s) → Delivers v u w x s t now (streamed.Missing from) → talk ≡ NoTalk
asks_alone signer now v u again talk w x l s t from r d = none_talking talk (λ talking. d.asks.0 (r.row.asking talking))

-- a recovery that has asked nothing yet stands behind the talks that are over
seeks_at : (l : LineView) (aims : List Aim) (s : SoughtView) (at : Place) → at ≡ place.Unbegun s.request → LineRow l aims idle → LineRow l aims (seeking_at s at [])
seeks_at l aims s at is row = subst (λ (p : Place). LineRow l aims (seeking_at s p [])) (sym is) (begins_talk l aims (asked_by s) s.request row)

pub seeks_begun : (l : LineView) (aims : List Aim) (s : SoughtView) (st : Stage) → IsKept s st → IsLive st → place_at s st ≡ place.Unbegun s.request → LineRow l aims idle → LineRow l (aims_at s st aims) (last_at s st)
seeks_begun l aims s (stage.Unbegun unbegun) kept_is live is row = seeks_at l aims s (place.Unbegun s.request) refl row
seeks_begun l aims s (stage.Heading heading) kept_is live is row = seeks_at l aims s heading.exchange.place is row
seeks_begun l aims s (stage.Reading reading) kept_is live is row = absurd (let four = kept_is.begun in let zero_is = ap rank is in omega (arith, four, zero_is))
seeks_begun l aims s (stage.Over ending) kept_is live is row = absurd live
seeks_begun l aims s stage.Lost kept_is live is row = absurd live

early_unbegun : {request : List ℕ} (p : Place) → p ≡ place.Unbegun request → rank p < 5
early_unbegun p is = let none = ap rank is in omega (arith, none)

module _ (signer : Signer) (now : ℕ) (v u : StreamView) (again : Option AgainView) (w x : WireView) (l : LineView) (s t : SeatView) (from : List ℕ) (d : Delivers v u w x s t now (streamed.Missing from)) (asked : AgainView) (is_asked : again ≡ Some asked)
    (talk : OpenTalk) (from_is : talk.from ≡ from) (moment : talk.moment.value ≡ now) (quest : IsQuest asked signer now from talk.recovery) where
  is_open : IsOpen signer talk asked
  is_open = record {
    to = quest.to;
    channel = quest.channel;
    from = quest.from_is ∙ sym from_is;
    request = subst (λ n. Asks asked signer n talk.from talk.recovery.sought.request) (sym moment) (subst (λ f. Asks asked signer now f talk.recovery.sought.request) (sym from_is) quest.request);
  }

  begun_recovers : (source : Option AgainView) (aims : List Aim) (qs : List Quest) → Recovers signer source aims qs (TurnSides v again NoTalk w l s) → Recovers signer source aims qs (TurnSides u again (Open talk) x l t)
  begun_recovers source aims qs r =
      let stood : Stood signer source aims qs (TurnSides u again NoTalk x l t) (Some from) = stood_turned signer source aims qs v u again NoTalk w x l s t (Some from) d.goes.number d.goes.pages d.misses r.stood in
      record {
        stood = record {
          again = stood.again;
          asked = stood.asked;
          ids = stood.ids ∙ ap (λ f. ids_of qs ++ f ∷ []) (sym from_is);
          talk = (
            stood.talk.0,
            record {
              is = subst (λ (o : Option AgainView). AsksOf o (IsOpen signer talk)) (sym is_asked) is_open;
              live = quest.live;
              early = early_unbegun (place_of talk.recovery) quest.unbegun;
              talks = λ alone. seeks_begun l (aims ++ aims_of qs) talk.recovery.sought talk.recovery.stage quest.kept quest.live quest.unbegun (stood.talk.1 alone);
            },
          );
          dialed = stood.dialed;
        };
        spec = r.spec;
        spec_is = ap (spec_at t) d.goes.number ∙ d.goes.spec ∙ r.spec_is;
        linked = r.linked;
        asking = λ talking. subst (IsAsking t.pass) (sym d.goes.number) d.asks.1;
      }

  pub begun_runs : Running signer now (TurnSides v again NoTalk w l s) (TurnSides u again (Open talk) x l t) 1
  begun_runs = record {
    stays = record {
      goes = record {
        number = d.goes.number;
        chunked = d.goes.chunked;
        head = d.goes.head;
        wire = d.goes.wire;
        received = d.goes.received;
        ends = d.goes.ends;
        line = moved_line_same l;
        seat = d.goes.seat;
        row = d.goes.row;
        entries = d.goes.entries true;
        attaches = d.goes.attaches;
      };
      holds = d.holds;
      free = d.serves;
      sound = d.sound;
      streams = d.says.0;
      recovers = λ source aims qs r. record {
        more = [];
        row = subst (λ (rs : List Quest). Recovers signer source aims rs (TurnSides u again (Open talk) x l t)) (sym (append-nil qs)) (begun_recovers source aims qs r);
        timed = record {
          more = talk.moment.value ∷ [];
          grown_is = ap (λ rs. moments_of rs ++ talk.moment.value ∷ []) (append-nil qs) ∙ ap (λ ms. ms ++ talk.moment.value ∷ []) (sym (append-nil (moments_of qs)));
          now_is = All-push (λ (n : ℕ). n ≡ now) [] talk.moment.value (All-nil (λ (n : ℕ). n ≡ now)) moment;
        };
      };
    };
    gave = subst (λ (n : ℕ). Gives n now s 1 t) d.goes.number (asks 0 s t d.says.1.taken from begins d.says.1.took d.says.1.recover d.says.1.open_is);
  }

-- memory is wanting for the request
pub unbegun_halts : (signer : Signer) (now : ℕ) (v u : StreamView) (again : Option AgainView) (w x : WireView) (l : LineView) (s t : SeatView) (from : List ℕ) → Delivers v u w x s t now (streamed.Missing from)
    → Halts signer now (TurnSides v again NoTalk w l s) (TurnSides u again NoTalk x l t) polled.NoMemory
unbegun_halts signer now v u again w x l s t from d =
    halts_turned signer now v u again NoTalk w x l s t (streamed.Missing from) d polled.NoMemory u NoTalk l (Some from) d.misses refl (moved_line_same l) refl d.holds d.serves tt again d.says.0

-- memory was wanting to begin a talk
pub asked_not : (signer : Signer) (now : ℕ) (v b u : RecoveringView) (l m : LineView) (from : List ℕ) → v.talk ≡ NoTalk → Begun v b signer now from false → Closes b u l m → AsksTo v u l m signer now from (stepped.Ends polled.NoMemory)
asked_not signer now v b u l m from none begun e =
    (refl, view_is v u (e.stream ∙ begun.stream) (e.again ∙ begun.again) (e.talk ∙ sym none), subst (λ (x : Talk). ClosesAs x l m) (begun.says ∙ none) e.says)

missing_at : (signer : Signer) (now : ℕ) (v u : StreamView) (again : Option AgainView) (w x : WireView) (l : LineView) (s t : SeatView) (from : List ℕ) → Delivers v u w x s t now (streamed.Missing from) → (c : RecoveringView) (m : LineView) (answer : Stepped)
    → AsksTo (record { stream = u; again = again; talk = NoTalk }) c l m signer now from answer → TurnsAs signer now (TurnSides v again NoTalk w l s) (record { is = c; wire = x; line = m; seat = t }) answer
missing_at signer now v u again w x l s t from d c m stepped.More e =
    let k : BeginsTalk (record { stream = u; again = again; talk = NoTalk }) c signer now from = e.0.says in
    subst (λ (n : LineView). Running signer now (TurnSides v again NoTalk w l s) (record { is = c; wire = x; line = n; seat = t }) 1) (sym e.1)
    (subst (λ (y : RecoveringView). Running signer now (TurnSides v again NoTalk w l s) (record { is = y; wire = x; line = l; seat = t }) 1) (sym (view_is (record { stream = u; again = again; talk = Open k.talk }) c e.0.stream e.0.again k.talk_is))
    (begun_runs signer now v u again w x l s t from d k.asked k.again k.talk k.from_is k.moment k.quest))
missing_at signer now v u again w x l s t from d c m stepped.Idle e = absurd e
missing_at signer now v u again w x l s t from d c m stepped.Unsent e = absurd e
missing_at signer now v u again w x l s t from d c m stepped.Busy e = absurd e
missing_at signer now v u again w x l s t from d c m (stepped.Ends answer) e =
    subst (Halts signer now (TurnSides v again NoTalk w l s) (record { is = c; wire = x; line = m; seat = t })) (sym e.0)
    (subst (λ (n : LineView). Halts signer now (TurnSides v again NoTalk w l s) (record { is = c; wire = x; line = n; seat = t }) polled.NoMemory) (sym e.2)
    (subst (λ (y : RecoveringView). Halts signer now (TurnSides v again NoTalk w l s) (record { is = y; wire = x; line = l; seat = t }) polled.NoMemory) (sym e.1) (unbegun_halts signer now v u again w x l s t from d)))

-- a turn that told an id
pub turned_missing : (signer : Signer) (now : ℕ) (v u : StreamView) (again : Option AgainView) (talk : Talk) (w x : WireView) (l : LineView) (s t : SeatView) (from : List ℕ) → IsReady signer (TurnSides v again talk w l s) → Delivers v u w x s t now (streamed.Missing from)
    → (c : RecoveringView) (m : LineView) (answer : Stepped) → AsksTo (record { stream = u; again = again; talk = talk }) c l m signer now from answer → TurnsAs signer now (TurnSides v again talk w l s) (record { is = c; wire = x; line = m; seat = t }) answer
turned_missing signer now v u again talk w x l s t from r d c m answer e =
    subst (λ (y : Talk). AsksTo (record { stream = u; again = again; talk = y }) c l m signer now from answer → TurnsAs signer now (TurnSides v again y w l s) (record { is = c; wire = x; line = m; seat = t }) answer) (sym (asks_alone signer now v u again talk w x l s t from r d))
    (missing_at signer now v u again w x l s t from d c m answer) e

-- ---- what a turn came to

module _ (signer : Signer) (now : ℕ) (v u : StreamView) (again : Option AgainView) (talk : Talk) (w x : WireView) (l : LineView) (s t : SeatView) where
  pub turned_gave : Delivers v u w x s t now streamed.Gave → Running signer now (TurnSides v again talk w l s) (TurnSides u again talk x l t) 1
  turned_gave d = record {
    stays = (turn_stays signer now v u again talk w x l s t streamed.Gave d d.holds d.serves d.sound d.misses d.asks d.says.0).stays;
    gave = subst (λ (n : ℕ). Gives n now s 1 t) d.goes.number (gives 0 s t d.says.1.taken begins d.says.1.took d.says.1.some d.says.1.open_is);
  }

  pub turned_idle : Delivers v u w x s t now streamed.Idle → TurnsAs signer now (TurnSides v again talk w l s) (TurnSides u again talk x l t) stepped.Idle
  turned_idle d = (turn_stays signer now v u again talk w x l s t streamed.Idle d d.holds d.serves d.sound d.misses d.asks d.says.0, d.says.1, subst (λ (n : ℕ). Idles n now s t) d.goes.number d.says.2)

  pub turned_unsent : Delivers v u w x s t now streamed.Unsent → TurnsAs signer now (TurnSides v again talk w l s) (TurnSides u again talk x l t) stepped.Unsent
  turned_unsent d = (turn_stays signer now v u again talk w x l s t streamed.Unsent d d.holds d.serves d.sound d.misses d.asks d.says.0, d.says.1, d.says.2)

  pub turned_busy : Delivers v u w x s t now streamed.Busy → TurnsAs signer now (TurnSides v again talk w l s) (TurnSides u again talk x l t) stepped.Busy
  turned_busy d = (turn_stays signer now v u again talk w x l s t streamed.Busy d d.holds d.serves d.sound d.misses d.asks d.says.0, d.says.1)

  -- the ends, at which the talk is hung up
  module _ (c : RecoveringView) (m : LineView) (e : Closes (record { stream = u; again = again; talk = talk }) c l m) where
    same_none : recovers_at t v.hold.number ≡ recovers_at s v.hold.number → recovers_at t v.hold.number ≡ recovers_at s v.hold.number ++ []
    same_none is = is ∙ sym (append-nil (recovers_at s v.hold.number))

    abbrev pub end_at : Sides
    end_at = record { is = c; wire = x; line = m; seat = t }

    pub turned_ended : (cause : EndCause) → Delivers v u w x s t now (streamed.Ended cause) → Halts signer now (TurnSides v again talk w l s) end_at (polled.Ended cause)
    turned_ended cause d = halts_turned signer now v u again talk w x l s t (streamed.Ended cause) d (polled.Ended cause) c.stream c.talk m d.misses.0 d.misses.1 e.stream e.moved e.says d.holds d.serves tt c.again d.says

    pub turned_gone : Delivers v u w x s t now streamed.Gone → Halts signer now (TurnSides v again talk w l s) end_at polled.Gone
    turned_gone d = halts_turned signer now v u again talk w x l s t streamed.Gone d polled.Gone c.stream c.talk m None (same_none d.misses) e.stream e.moved e.says d.holds d.serves d.sound c.again d.says

    pub turned_worn : Delivers v u w x s t now streamed.Worn → Halts signer now (TurnSides v again talk w l s) end_at polled.Worn
    turned_worn d = halts_turned signer now v u again talk w x l s t streamed.Worn d polled.Worn c.stream c.talk m None (same_none d.misses) e.stream e.moved e.says d.holds d.serves tt c.again d.says.0

    pub turned_wanting : Delivers v u w x s t now streamed.NoMemory → Halts signer now (TurnSides v again talk w l s) end_at polled.NoMemory
    turned_wanting d = halts_turned signer now v u again talk w x l s t streamed.NoMemory d polled.NoMemory c.stream c.talk m None (same_none d.misses) e.stream e.moved e.says d.holds d.serves tt c.again d.says

    pub turned_unput : (told : Option EndCause) → Delivers v u w x s t now (streamed.Unput told) → Halts signer now (TurnSides v again talk w l s) end_at (polled.Unput told)
    turned_unput None d = halts_turned signer now v u again talk w x l s t (streamed.Unput None) d (polled.Unput None) c.stream c.talk m d.misses.0 d.misses.1 e.stream e.moved e.says d.holds d.serves tt c.again d.says
    turned_unput (Some cause) d = halts_turned signer now v u again talk w x l s t (streamed.Unput (Some cause)) d (polled.Unput (Some cause)) c.stream c.talk m d.misses.0 d.misses.1 e.stream e.moved e.says d.holds d.serves tt c.again d.says

-- ---- a step

idles_from : (hold now : ℕ) (s t u : SeatView) → MovedSeat s t → Idles hold now t u → Idles hold now s u
idles_from hold now s t u moved i = record { before = i.before; moved = moved_seat_again s t i.before moved i.moved; taken = i.taken; took = i.took; pieces = i.pieces; recover = i.recover; open_is = i.open_is }

waited_on : (signer : Signer) (now : ℕ) (a b c : Sides) → TalkWaited a b → TurnStays signer now b c → TalkWaited a c
waited_on signer now a b c waited st = subst (λ (talk : Talk). TalkWaitedAt talk a.line c.line) (sym st.talk) (subst (λ (l : LineView). TalkWaitedAt b.is.talk a.line l) (sym st.line) waited)

running_from : (signer : Signer) (now : ℕ) (a b c : Sides) → Stays signer now a b → Running signer now b c 1 → Running signer now a c 1
running_from signer now a b c st r = running_again signer now a b c 0 (record { stays = st; gave = moves 0 a.seat b.seat begins st.goes.seat }) r

-- a turn behind what is settled
pub stepped_by : (signer : Signer) (now : ℕ) (a b c : Sides) (answer : Stepped) → Stays signer now a b → TalkWaited a b → TurnsAs signer now b c answer → StepsAs signer now a c answer
stepped_by signer now a b c stepped.More st waited e = running_from signer now a b c st e
stepped_by signer now a b c stepped.Idle st waited e =
    (stays_again signer now a b c st e.0.stays, waited_on signer now a b c waited e.0, e.1, idles_from (hold_of a) now a.seat b.seat c.seat st.goes.seat (subst (λ (n : ℕ). Idles n now b.seat c.seat) st.goes.number e.2))
stepped_by signer now a b c stepped.Unsent st waited e = (stays_again signer now a b c st e.0.stays, waited_on signer now a b c waited e.0, e.1, write_waited_from a.wire b.wire c.wire st.goes.wire e.2)
stepped_by signer now a b c stepped.Busy st waited e = (stays_again signer now a b c st e.0.stays, busied_from a.seat b.seat c.seat st.goes.seat e.1)
stepped_by signer now a b c (stepped.Ends answer) st waited e = halts_from signer now a b c answer st e

-- ---- all steps of a poll

-- why a poll waits behind some that gave
pub why_idle : (signer : Signer) (now count : ℕ) (a b c : Sides) → Running signer now a b count → StepsAs signer now b c stepped.Idle → RunsAs signer now a c polled.Pending
why_idle signer now count a b c r e = (
  stays_again signer now a b c r.stays e.0,
  idle_why (talk_waited_from c.is.talk a.line b.line c.line r.stays.goes.line e.1) e.2 (idles_from (hold_of a) now a.seat b.seat c.seat r.stays.goes.seat (subst (λ (n : ℕ). Idles n now b.seat c.seat) r.stays.goes.number e.3)),
)

pub why_unsent : (signer : Signer) (now count : ℕ) (a b c : Sides) → Running signer now a b count → StepsAs signer now b c stepped.Unsent → RunsAs signer now a c polled.Pending
why_unsent signer now count a b c r e =
    (stays_again signer now a b c r.stays e.0, unsent (talk_waited_from c.is.talk a.line b.line c.line r.stays.goes.line e.1) e.2 (write_waited_from a.wire b.wire c.wire r.stays.goes.wire e.3))

pub why_busy : (signer : Signer) (now count : ℕ) (a b c : Sides) → Running signer now a b count → Stays signer now b c → Busied b.seat c.seat → RunsAs signer now a c polled.Pending
why_busy signer now count a b c r st busied = (stays_again signer now a b c r.stays st, busy (busied_from a.seat b.seat c.seat r.stays.goes.seat busied))

pub why_sixteen : (signer : Signer) (now : ℕ) (a b c : Sides) → Running signer now a b 16 → Stays signer now b c → TalkWaited b c → RunsAs signer now a c polled.Pending
why_sixteen signer now a b c r st waited =
    (stays_again signer now a b c r.stays st, sixteen (talk_waited_from c.is.talk a.line b.line c.line r.stays.goes.line waited) (moves 16 b.seat c.seat r.gave st.goes.seat))

pub runs_halted : (signer : Signer) (now count : ℕ) (a b c : Sides) (answer : StreamPolled) → Running signer now a b count → Halts signer now b c answer → RunsAs signer now a c answer
runs_halted signer now count a b c polled.Pending r h = absurd h.says
runs_halted signer now count a b c (polled.Ended cause) r h = halts_from signer now a b c (polled.Ended cause) r.stays h
runs_halted signer now count a b c polled.Gone r h = halts_from signer now a b c polled.Gone r.stays h
runs_halted signer now count a b c polled.Worn r h = halts_from signer now a b c polled.Worn r.stays h
runs_halted signer now count a b c polled.NoMemory r h = halts_from signer now a b c polled.NoMemory r.stays h
runs_halted signer now count a b c (polled.Unput told) r h = halts_from signer now a b c (polled.Unput told) r.stays h
