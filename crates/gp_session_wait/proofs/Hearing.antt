-- A poll of a long poll: the client is heard, and then the Takes are made.
use Rattle.std.proofs.Common.{◌≡◌, ℕ, List, [], ◌∷◌, ◌++◌, length, refl, sym, ap, ◌∙◌, subst, append-nil}
use Rattle.std.proofs.lemmas.List.Elements.{All-nil}
use Rattle.gp_outside.specs.Counts.{Rose}
use Rattle.gp_outside.specs.Links.{LinkTells}
use Rattle.gp_plain.specs.declared.event.Entry.{Entry}
use Rattle.gp_plain.specs.declared.event.Event.TheVariants.{Take}
use Rattle.gp_hub.specs.Own.{mine}
use Rattle.gp_intake.specs.Polls.{IsGone}
use Rattle.gp_session.specs.Seats.{SeatView}
use Rattle.gp_session.specs.Wires.{WireView, MovedWire}
use Rattle.gp_session.specs.Causes.{ReadWaited}
use Rattle.gp_session.specs.Hearing.{Listens, most_heard}
use Rattle.gp_session.specs.declared.hearing.Heard.{Heard}
use Rattle.gp_session.specs.declared.hearing.Heard.TheVariants as heard
use Rattle.gp_session.proofs.Moving.{moved_heard, moved_wire_again, moved_put, moved_seat_same, sent_same}
use Rattle.gp_session_hold.specs.Polls.{StreamPends, busy, gave, flooded, waits}
use Rattle.gp_session_wait.specs.Views.{WaitView}
use Rattle.gp_session_wait.specs.Waits.{Waits, WaitsOn, Looking, Pauses, busy as busy_hub, gave as gave_pieces, idle, Looks, PollsWait, SaysOf}
use Rattle.gp_session_wait.specs.declared.wait.Polled.{Polled}
use Rattle.gp_session_wait.specs.declared.wait.Polled.TheVariants as polled

-- what is heard leaves the long poll
pub waits_heard : (v : WaitView) (w y : WireView) (s : SeatView) (h : Heard) → Listens w y h → Waits v w s → Waits v y s
waits_heard v w y s h l x = record { polls = x.polls; form = x.form; bytes = sent_same w y [] x.bytes l.start l.heard_is.hears.sent l.rest }

pub gone_heard : (v : WaitView) (w y : WireView) (s : SeatView) (now : ℕ) → Listens w y heard.Gone → Waits v w s → PollsWait v w y s s now (polled.Gone v.hold)
gone_heard v w y s now l x = record {
  number = refl;
  wire = moved_heard w y l.heard_is.more l.start l.rest l.heard_is.hears;
  heard = l.heard_is.more;
  received = l.heard_is.hears.received;
  times = record { more = []; all = sym (append-nil (mine s.pass)); takes = All-nil (λ (entry : Entry). entry.event ≡ Take v.hold.number now) };
  seat = moved_seat_same s;
  row = λ row. row;
  entries = λ row. row;
  attaches = λ specs refused row. row;
  holds = λ reports row. row;
  serves = λ free. free;
  says = (
    record {
      share = x.polls.share;
      is = x.polls.is;
      spec_is = x.polls.spec_is;
      bytes = sent_same w y [] x.bytes l.start l.heard_is.hears.sent l.rest;
    },
    l.heard_is.says,
  );
}

-- why no more was heard, where the client isn't gone
pub data Went (w y : WireView) (more : List ℕ) : Type 0 where
  quiet : ReadWaited w y → Went w y more
  much : length more ≡ most_heard → Went w y more

pub went_quiet : (w y : WireView) (l : Listens w y heard.NotReady) → Went w y l.heard_is.more
went_quiet w y l = quiet l.heard_is.says.0

pub went_much : (w y : WireView) (l : Listens w y heard.Much) → Went w y l.heard_is.more
went_much w y l = much l.heard_is.says.0

no_rest : (sent rest : List ℕ) → sent ++ rest ≡ [] → rest ≡ []
no_rest [] rest e = e
no_rest (x ∷ sent) rest e = absurd cc

module _ (v : WaitView) (w y x : WireView) (s t : SeatView) (now : ℕ) (h : Heard) (l : Listens w y h) (went : Went w y l.heard_is.more) where
  wire : MovedWire w y
  wire = moved_heard w y l.heard_is.more l.start l.rest l.heard_is.hears

  read_on : x.link ≡ y.link → ReadWaited w y → ReadWaited w x
  read_on link r = subst (λ (k : LinkTells). Rose w.link.read_waits k.read_waits) (sym link) r

  pends_by : x.link ≡ y.link → x.rest ≡ [] → Pauses v.hold.number now s t → Went w y l.heard_is.more → StreamPends v.hold.number now w x s t l.heard_is.more
  pends_by link none (busy_hub b) g = busy b
  pends_by link none (gave_pieces b) g = gave b
  pends_by link none (idle i) (quiet r) = waits (record { hear = read_on link r; writes = λ some. absurd (some none); take = λ _. i })
  pends_by link none (idle i) (much m) = flooded m

  says_by : (answer : Polled) → x.link ≡ y.link → SaysOf v x t (Looking v x s t now) ⊥ answer → SaysOf v x t (WaitsOn v w x s t now l.heard_is.more) (IsGone w.link x.link) answer
  says_by (polled.Waits u) link a = record { same = a.same; waits = a.waits; pends = pends_by link (no_rest a.waits.bytes.sent x.rest a.waits.bytes.whole) a.pauses went }
  says_by (polled.Answered hold cause code) link a = a
  says_by (polled.Retry r) link a = a
  says_by (polled.Overflow hold) link a = a
  says_by (polled.Gone hold) link a = absurd a.1
  says_by (polled.Worn hold) link a = a
  says_by (polled.NoMemory hold) link a = a
  says_by (polled.Unput hold cause) link a = a

  pub looked : (answer : Polled) → Looks v y x s t now answer → PollsWait v w x s t now answer
  looked answer d = record {
    number = d.number;
    wire = moved_wire_again w y x wire (moved_put y x d.more d.puts.start d.puts.link d.puts.rest);
    heard = l.heard_is.more;
    received = ap (λ (k : LinkTells). k.received) d.puts.link ∙ l.heard_is.hears.received;
    times = d.times;
    seat = d.seat;
    row = d.row;
    entries = d.entries;
    attaches = d.attaches;
    holds = d.holds;
    serves = d.serves;
    says = says_by answer d.puts.link d.says;
  }
