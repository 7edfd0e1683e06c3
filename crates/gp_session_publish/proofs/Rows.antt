-- What each kind of move does to the rows of a session.
use Rattle.std.proofs.Common.{◌≡◌, ℕ, suc, ◌≤◌, List, [], ◌∷◌, ◌++◌, length, map, refl, sym, ap, ◌∙◌, subst, arith, append-nil, inl, inr}
use Rattle.gp_plain.specs.declared.event.Entry.{Entry}
use Rattle.gp_plain.specs.declared.item.Item.{Item}
use Rattle.gp_outside.specs.Links.{LinkTells, LinkLater}
use Rattle.gp_outbox.specs.declared.outbox.Flushed.{Flushed}
use Rattle.gp_outbox.specs.declared.outbox.Flushed.TheVariants as flushed
use Rattle.gp_hub.specs.declared.outcome.SessionEnd.{SessionEnd}
use Rattle.gp_hub.specs.declared.outcome.SessionEnd.TheVariants as end
use Rattle.gp_hub.specs.Own.{mine}
use Rattle.gp_head.specs.Texts.{response_text}
use Rattle.gp_answer.specs.declared.refusal.Refusal.{Refusal}
use Rattle.gp_answer.specs.Refusals.{refusal_head, refusal_body}
use Rattle.gp_session.specs.Wires.{WireView, MovedWire, RequestRow, Sent, BytesRow, Flushes}
use Rattle.gp_session.specs.Seats.{publish_of}
use Rattle.gp_session.proofs.Moving.{rose_since, later_since, request_same, sent_flushed, sent_put, sent_same, moved_flushed, later_put, moved_put, moved_none_put, moved_seat_same, moved_seat_again, moved_wire_again, busied_from, read_waited_from, write_waited_from}
use Rattle.gp_session_publish.specs.declared.stage.Stage.{Stage}
use Rattle.gp_session_publish.specs.declared.stage.Stage.TheVariants.{Refusing}
use Rattle.gp_session_publish.specs.declared.stage.Ended.{Ended}
use Rattle.gp_session_publish.specs.declared.stage.Next.{Next}
use Rattle.gp_session_publish.specs.declared.stage.Next.TheVariants.{Go, Wait, End}
use Rattle.gp_session_publish.specs.declared.refusing.Refusing.{Refusing as RefusingStage}
use Rattle.gp_session_publish.specs.declared.cause.Cause.{Cause}
use Rattle.gp_session_publish.specs.Routing.{IsRefusedFor, refusal_of, refusal_text, why_of}
use Rattle.gp_session_publish.specs.Views.{LiveView, Moved}
use Rattle.gp_session_publish.specs.Trace.{Asks, HasPublished, text_of, Stays, Told}
use Rattle.gp_session_publish.specs.Moves.{IsReading, HasCode, EndSays, why_at, Pends, busy, waits, Used, AsksAtEnd, shape_at_end, ServedAtEnd, ToldAtEnd, LeadsTo, Leads, MayRefuse}

abbrev pub with_wire : LiveView → WireView → LiveView
with_wire v w = record { wire = w; seat = v.seat }

-- a move over the wire leaves the pass
pub moved_over : (v : LiveView) (w : WireView) → MovedWire v.wire w → Moved v (with_wire v w)
moved_over v w m = record { wire = m; seat = moved_seat_same v.seat }

pub moved_again : (u v w : LiveView) → Moved u v → Moved v w → Moved u w
moved_again u v w a b = record { wire = moved_wire_again u.wire v.wire w.wire a.wire b.wire; seat = moved_seat_again u.seat v.seat w.seat a.seat b.seat }

pub stays_over : (v : LiveView) (w : WireView) → w.start ≡ v.wire.start → LinkLater v.wire.link w.link → Stays v → Stays (with_wire v w)
stays_over v w start later s = record { holds = s.holds; seat = s.seat; served = s.served; later = later_since v.wire w s.later start later }

-- the rows at an end

rows_at_end : (e : SessionEnd) (l : LiveView) (stage : Stage) → Told l stage → RequestRow l.wire (AsksAtEnd e stage) → BytesRow l.wire (shape_at_end e (text_of stage)) → ServedAtEnd e l.seat → ToldAtEnd e l stage
rows_at_end e l stage t request bytes served = record { request = request; entries = t.entries; bytes = bytes; holds = t.stays.holds; seat = t.stays.seat; served = served; later = t.stays.later }

used_all : (stage : Stage) (received : List ℕ) → Asks stage received → Used stage received
used_all stage received asks = record { used = received; unused = []; split = sym (append-nil received); asks = asks }

pub request_used : (w : WireView) (stage : Stage) → RequestRow w (Asks stage) → RequestRow w (Used stage)
request_used w stage r = record { received = r.received; since = r.since; asks = used_all stage r.received r.asks }

pub at_end : (e : SessionEnd) (l : LiveView) (stage : Stage) → Told l stage → ServedAtEnd e l.seat → ToldAtEnd e l stage
at_end (end.Sent code) l stage t served = rows_at_end (end.Sent code) l stage t t.request t.bytes served
at_end (end.Cut cause) l stage t served = rows_at_end (end.Cut cause) l stage t t.request t.bytes served
at_end end.ClientGone l stage t served = rows_at_end end.ClientGone l stage t t.request t.bytes served
at_end end.Worn l stage t served = rows_at_end end.Worn l stage t t.request t.bytes served
at_end end.NoMemory l stage t served = rows_at_end end.NoMemory l stage t (request_used l.wire stage t.request) (text_of stage, ([], append-nil (text_of stage)), t.bytes) served

-- how many entries there are
length-map : {A B : Type 0} (f : A → B) (xs : List A) → length (map f xs) ≡ length xs
length-map f [] = refl
length-map f (x ∷ xs) = ap suc (length-map f xs)

pub published_count : (number : ℕ) (body : List ℕ) (left : List Item) (published : ℕ) (made : List Entry) → HasPublished number body left published made → published ≡ length made
published_count number body left published made h = h.count ∙ sym (ap length h.entries ∙ length-map (publish_of number) h.done)

-- a flush

pub told_flushed : (v : LiveView) (w : WireView) (stage : Stage) (f : Flushed) → Told v stage → Flushes v.wire w f → Told (with_wire v w) stage
told_flushed v w stage f t h = record {
  request = request_same v.wire w (Asks stage) (Asks stage) t.request h.start h.passed.received (λ received asks. asks);
  entries = t.entries;
  bytes = sent_flushed v.wire w (text_of stage) f t.bytes h;
  stays = stays_over v w h.start h.passed.later t.stays;
}

-- a stage that sends its answer, with what it tells at its end
module _ (v : LiveView) (w : WireView) (n : ℕ) (stage : Stage) (told : Told v stage) (closes : IsReading stage → ⊥) (published : ℕ) (count : published ≡ length (mine v.seat.pass)) where
  now : (f : Flushed) → Flushes v.wire w f → Told (with_wire v w) stage
  now f h = told_flushed v w stage f told h

  ends : (e : SessionEnd) (f : Flushed) → Flushes v.wire w f → ServedAtEnd e v.seat → EndSays e (with_wire v w) stage → (ended : Ended) → ended ≡ record { end = e; why = why_at stage; published = published }
      → Leads v (with_wire v w) n (End ended)
  ends e f h served says ended is = subst (λ (x : Ended). Leads v (with_wire v w) n (End x)) (sym is) (record {
    moved = moved_over v w (moved_flushed v.wire w f h);
    to = record { stage = stage; told = at_end e (with_wire v w) stage (now f h) served; says = says; why_is = refl; published = count };
  })

  pub closed_sent : (code : ℕ) → HasCode stage code → Flushes v.wire w flushed.Empty → (ended : Ended) → ended ≡ record { end = end.Sent code; why = why_at stage; published = published } → Leads v (with_wire v w) n (End ended)
  closed_sent code has h ended is = ends (end.Sent code) flushed.Empty h told.stays.served (h.cause.0, has) ended is

  pub closed_gone : Flushes v.wire w flushed.Failed → (ended : Ended) → ended ≡ record { end = end.ClientGone; why = why_at stage; published = published } → Leads v (with_wire v w) n (End ended)
  closed_gone h ended is = ends end.ClientGone flushed.Failed h told.stays.served
      (inl (rose_since v.wire w (λ (t : LinkTells). t.faults) h.start told.stays.later.faults h.cause.1)) ended is

  pub closed_waits : Flushes v.wire w flushed.NotReady → Leads v (with_wire v w) n (Wait stage)
  closed_waits h = record {
    moved = moved_over v w (moved_flushed v.wire w flushed.NotReady h);
    to = (now flushed.NotReady h, waits (record { request = λ reads. absurd (closes reads); writes = λ some. h.cause.1; some = inr h.cause.0 }));
  }

pub from_live : (v x w : LiveView) (n : ℕ) (next : Next) → v ≡ x → Leads v w n next → Leads x w n next
from_live v x w n next e l = subst (λ (y : LiveView). Leads y w n next) e l

pub told_live : (v x : LiveView) (stage : Stage) → v ≡ x → Told x stage → Told v stage
told_live v x stage e t = subst (λ (y : LiveView). Told y stage) (sym e) t

pub leads_is : (v w : LiveView) (n : ℕ) (a b : Next) → a ≡ b → Leads v w n b → Leads v w n a
leads_is v w n a b e l = subst (Leads v w n) (sym e) l

-- a cause in the last part of a poll is one of the poll
pub pends_from : (u v w : LiveView) (stage : Stage) → Moved u v → Pends v w stage → Pends u w stage
pends_from u v w stage m (busy b) = busy (busied_from u.seat v.seat w.seat m.seat b)
pends_from u v w stage m (waits c) = waits (record {
  request = λ reads. ((c.request reads).0, read_waited_from u.wire v.wire w.wire m.wire (c.request reads).1);
  writes = λ some. write_waited_from u.wire v.wire w.wire m.wire (c.writes some);
  some = c.some;
})

leads_to_from : (u v w : LiveView) (k n : ℕ) (next : Next) → Moved u v → k ≤ n → LeadsTo v w k next → LeadsTo u w n next
leads_to_from u v w k n (Go stage) m le l = (l.0, omega (arith, le, l.1))
leads_to_from u v w k n (Wait stage) m le l = (l.0, pends_from u v w stage m l.1)
leads_to_from u v w k n (End ended) m le l = l

-- a move after those before it
pub leads_from : (u v w : LiveView) (k n : ℕ) (next : Next) → Moved u v → k ≤ n → Leads v w k next → Leads u w n next
leads_from u v w k n next m le l = record { moved = moved_again u v w m l.moved; to = leads_to_from u v w k n next m le l.to }

-- a refusal

pub put_text : (c : Cause) (refusal : Refusal) (method bytes h b t : List ℕ) → refusal ≡ refusal_of c → bytes ≡ method → h ≡ response_text (refusal_head refusal) → b ≡ [] → t ≡ refusal_body refusal bytes
    → h ++ (b ++ t) ≡ refusal_text c method
put_text c refusal method bytes h b t is same head none tail =
    ap (λ (x : List ℕ). x ++ (b ++ t)) head ∙ ap (λ (x : List ℕ). response_text (refusal_head refusal) ++ (x ++ t)) none
    ∙ ap (λ (x : List ℕ). response_text (refusal_head refusal) ++ x) (tail ∙ ap (refusal_body refusal) same)
    ∙ ap (λ (r : Refusal). response_text (refusal_head r) ++ refusal_body r method) is

module _ (v : LiveView) (w : WireView) (cause : Cause) (method : List ℕ) (m : MayRefuse v cause method) (s : RefusingStage) (cause_is : s.cause ≡ cause) (method_is : s.method.value ≡ method)
    (start : w.start ≡ v.wire.start) (link : w.link ≡ v.wire.link) where
  asks : (received : List ℕ) → IsRefusedFor cause method received → Asks (Refusing s) received
  asks received h = subst (λ (xs : List ℕ). IsRefusedFor s.cause xs received) (sym method_is) (subst (λ (c : Cause). IsRefusedFor c method received) (sym cause_is) h)

  row : RequestRow w (Asks (Refusing s))
  row = request_same v.wire w (IsRefusedFor cause method) (Asks (Refusing s)) m.request start (ap (λ (t : LinkTells). t.received) link) asks

  text : refusal_text cause method ≡ text_of (Refusing s)
  text = ap (λ (c : Cause). refusal_text c method) (sym cause_is) ∙ ap (refusal_text s.cause) (sym method_is)

  still : Stays (with_wire v w)
  still = stays_over v w start (later_put v.wire w link) m.stays

  pub refused_go : w.rest ≡ v.wire.rest ++ refusal_text cause method → Leads v (with_wire v w) 2 (Go (Refusing s))
  refused_go rest = record {
    moved = moved_over v w (moved_put v.wire w (refusal_text cause method) start link rest);
    to = (record { request = row; entries = m.entries; bytes = subst (Sent w) text (sent_put v.wire w [] (refusal_text cause method) m.bytes start link rest); stays = still }, omega arith);
  }

  pub refused_end : w.rest ≡ v.wire.rest → (ended : Ended) → ended ≡ record { end = end.NoMemory; why = why_of s.cause; published = 0 } → Leads v (with_wire v w) 2 (End ended)
  refused_end rest ended is = subst (λ (x : Ended). Leads v (with_wire v w) 2 (End x)) (sym is) (record {
    moved = moved_over v w (moved_none_put v.wire w start link rest);
    to = record {
      stage = Refusing s;
      told = record {
        request = request_used w (Refusing s) row;
        entries = m.entries;
        bytes = ([], (text_of (Refusing s), refl), sent_same v.wire w [] m.bytes start (ap (λ (t : LinkTells). t.sent) link) rest);
        holds = still.holds;
        seat = still.seat;
        served = still.served;
        later = still.later;
      };
      says = tt;
      why_is = refl;
      published = sym (ap length m.entries);
    };
  })
