-- What a turn does to the rows of the recoveries.
use Rattle.std.proofs.Common.{◌≡◌, ◌≢◌, ℕ, ◌+◌, ◌≤◌, List, [], ◌∷◌, ◌++◌, refl, sym, ap, ◌∙◌, subst, append_assoc, append-nil, Option, Some, None, option_map, is_some, arith, inl, inr}
use Rattle.std.specs.Option.{option_to_list}
use Rattle.std.specs.List.{All}
use Rattle.std.proofs.lemmas.List.Elements.{All-append, All-nil}
use Rattle.gp_plain.specs.declared.event.Event.{Event}
use Rattle.gp_plain.specs.declared.event.HoldSpec.{HoldSpec}
use Rattle.gp_plain.specs.declared.http.Signer.{Signer}
use Rattle.gp_plain.specs.declared.reply.HoldReport.{HoldReport}
use Rattle.gp_plain.specs.Holds.{terms_of}
use Rattle.gp_exchange.specs.Answers.{Waits}
use Rattle.gp_again.specs.Views.{AgainView}
use Rattle.gp_asking.specs.Asking.{IsAsking}
use Rattle.gp_recover.specs.Views.{place_of}
use Rattle.gp_session.specs.Lines.{Aim, LineView, MovedLine}
use Rattle.gp_session.specs.Seats.{Busied, IsServed, MovedSeat, SeatView}
use Rattle.gp_session.specs.Wires.{WireView}
use Rattle.gp_exchange.proofs.Causes.{waits_from}
use Rattle.gp_exchange.proofs.Leading.{later_later, later_same}
use Rattle.gp_session.proofs.Moving.{busied_from, moved_seat_again, moved_seat_same, moved_wire_again, moved_wire_same, write_waited_from}
use Rattle.gp_session_hold.specs.Rows.{AttachRow, HoldsRow, PagesRow, kept, recovers_at, spec_at}
use Rattle.gp_session_hold.specs.Streams.{Delivers, Gives, StreamView, Streams, asks, begins, gives, moves}
use Rattle.gp_session_hold.specs.Streams as streams
use Rattle.gp_session_recover.specs.Quests.{Quest, events_of, ids_of, moments_of}
use Rattle.gp_session_recover.specs.Rows.{IsOver, IsTalking, OpenRow, Recovers, Sides, Stood, TalkRow, UntoldRow, hold_of, id_open, moment_open}
use Rattle.gp_session_recover.specs.Polls.{Goes, RecoversOn, Running, Stays, TalkWaitedAt, Timed, moments_at}
use Rattle.gp_session_recover.specs.declared.talk.Talk.{Talk}
use Rattle.gp_session_recover.specs.declared.talk.Talk.TheVariants.{None as NoTalk, Open, Page, Failed}
use Rattle.gp_session_recover.proofs.Sought.{on_none, timed_none}

-- ---- chains of moves

pub timed_again : (now : ℕ) (a b c : List ℕ) → Timed now a b → Timed now b c → Timed now a c
timed_again now a b c p q = record {
  more = p.more ++ q.more;
  grown_is = q.grown_is ∙ ap (λ xs. xs ++ q.more) p.grown_is ∙ append_assoc a p.more q.more;
  now_is = All-append (λ (moment : ℕ). moment ≡ now) p.more q.more p.now_is q.now_is;
}

pub recovers_again : (signer : Signer) (source : Option AgainView) (aims : List Aim) (qs : List Quest) (now : ℕ) (a b c : Sides) (p : RecoversOn signer source aims qs now a b) → RecoversOn signer source aims (qs ++ p.more) now b c → RecoversOn signer source aims qs now a c
recovers_again signer source aims qs now a b c p q =
    let all : (qs ++ p.more) ++ q.more ≡ qs ++ (p.more ++ q.more) = append_assoc qs p.more q.more in
    record {
      more = p.more ++ q.more;
      row = subst (λ (rs : List Quest). Recovers signer source aims rs c) all q.row;
      timed = timed_again now (moments_at qs a) (moments_at (qs ++ p.more) b) (moments_at (qs ++ (p.more ++ q.more)) c) p.timed (subst (λ (rs : List Quest). Timed now (moments_at (qs ++ p.more) b) (moments_at rs c)) all q.timed);
    }

pub moved_line_same : (l : LineView) → MovedLine l l
moved_line_same l = record { start = refl; later = later_same l.dial }

pub moved_line_again : (l m n : LineView) → MovedLine l m → MovedLine m n → MovedLine l n
moved_line_again l m n p q = record { start = q.start ∙ p.start; later = later_later l.dial m.dial n.dial p.later q.later }

pub goes_again : (a b c : Sides) → Goes a b → Goes b c → Goes a c
goes_again a b c p q = record {
  number = q.number ∙ p.number;
  chunked = q.chunked ∙ p.chunked;
  head = q.head ∙ p.head;
  wire = moved_wire_again a.wire b.wire c.wire p.wire q.wire;
  received = q.received ∙ p.received;
  ends = q.ends ∙ p.ends;
  line = moved_line_again a.line b.line c.line p.line q.line;
  seat = moved_seat_again a.seat b.seat c.seat p.seat q.seat;
  row = λ r. q.row (p.row r);
  entries = λ r. q.entries (p.entries r);
  attaches = λ specs refused r. q.attaches specs refused (p.attaches specs refused r);
}

pub stays_again : (signer : Signer) (now : ℕ) (a b c : Sides) → Stays signer now a b → Stays signer now b c → Stays signer now a c
stays_again signer now a b c p q = record {
  goes = goes_again a b c p.goes q.goes;
  holds = λ reports r. q.holds reports (p.holds reports r);
  free = λ f. q.free (p.free f);
  sound = q.sound ∙ p.sound;
  streams = q.streams;
  recovers = λ source aims qs r.
      let first : RecoversOn signer source aims qs now a b = p.recovers source aims qs r in
      recovers_again signer source aims qs now a b c first (q.recovers source aims (qs ++ first.more) first.row);
}

gives_again : (hold now : ℕ) (s t u : SeatView) (m n : ℕ) → Gives hold now s m t → Gives hold now t n u → Gives hold now s (m + n) u
gives_again hold now s t u m n p begins = subst (λ (k : ℕ). Gives hold now s k t) (let e : m ≡ m + 0 = omega arith in e) p
gives_again hold now s t u m n p (gives count x y taken before took some open_is) =
    subst (λ (k : ℕ). Gives hold now s k u) (let e : (m + count) + 1 ≡ m + (count + 1) = omega arith in e) (gives (m + count) x u taken (gives_again hold now s t x m count p before) took some open_is)
gives_again hold now s t u m n p (asks count x y taken from before took told open_is) =
    subst (λ (k : ℕ). Gives hold now s k u) (let e : (m + count) + 1 ≡ m + (count + 1) = omega arith in e) (asks (m + count) x u taken from (gives_again hold now s t x m count p before) took told open_is)
gives_again hold now s t u m n p (moves count x y before moved) = moves (m + count) x u (gives_again hold now s t x m count p before) moved

pub running_again : (signer : Signer) (now : ℕ) (a b c : Sides) (count : ℕ) → Running signer now a b count → Running signer now b c 1 → Running signer now a c (count + 1)
running_again signer now a b c count p q = record {
  stays = stays_again signer now a b c p.stays q.stays;
  gave = gives_again (hold_of a) now a.seat b.seat c.seat count 1 p.gave (subst (λ (n : ℕ). Gives n now b.seat 1 c.seat) p.stays.goes.number q.gave);
}

pub goes_same : (a : Sides) → Goes a a
goes_same a = record {
  number = refl;
  chunked = refl;
  head = refl;
  wire = moved_wire_same a.wire;
  received = refl;
  ends = refl;
  line = moved_line_same a.line;
  seat = moved_seat_same a.seat;
  row = λ r. r;
  entries = λ r. r;
  attaches = λ specs refused r. r;
}

pub stays_same : (signer : Signer) (now : ℕ) (a : Sides) → Streams a.is.stream a.wire a.seat → Stays signer now a a
stays_same signer now a streams = record {
  goes = goes_same a;
  holds = λ reports r. r;
  free = λ f. f;
  sound = refl;
  streams = streams;
  recovers = λ source aims qs r. on_none signer source aims qs now a a refl r;
}

pub running_none : (signer : Signer) (now : ℕ) (a : Sides) → Streams a.is.stream a.wire a.seat → Running signer now a a 0
running_none signer now a streams = record { stays = stays_same signer now a streams; gave = begins }

-- an open talk waited since before
pub talk_waited_from : (talk : Talk) (l m n : LineView) → MovedLine l m → TalkWaitedAt talk m n → TalkWaitedAt talk l n
talk_waited_from NoTalk l m n moved w = tt
talk_waited_from (Open t) l m n moved w = waits_from l.dial m.dial n.dial moved.later (place_of t.recovery) w
talk_waited_from (Page page) l m n moved w = w
talk_waited_from Failed l m n moved w = w

-- ---- a turn

module _ (signer : Signer) (source : Option AgainView) (aims : List Aim) (qs : List Quest) (again : Option AgainView) (l : LineView) (s t : SeatView) (n : ℕ) (pages : (pages : List Event) → PagesRow s pages → PagesRow t pages) where
  untold_turned : (events : List Event) → UntoldRow s n qs events → UntoldRow t n qs events
  untold_turned events r = record { done = r.done; last = r.last; all = r.all; event = r.event; pages = pages (events_of n r.done) r.pages }

  talk_turned : (talk : Talk) → TalkRow signer again l s n aims qs talk → TalkRow signer again l t n aims qs talk
  talk_turned NoTalk r = (pages (events_of n qs) r.0, r.1)
  talk_turned (Open talk) r = (pages (events_of n qs) r.0, r.1)
  talk_turned (Page page) r = (untold_turned _ r.0, r.1, r.2)
  talk_turned Failed r = (untold_turned _ r.0, r.1)

-- the rows behind a turn of the stream, which may tell one id more
module _ (signer : Signer) (source : Option AgainView) (aims : List Aim) (qs : List Quest) (v u : StreamView) (again : Option AgainView) (talk : Talk) (w x : WireView) (l : LineView) (s t : SeatView) (more : Option (List ℕ))
    (number : u.hold.number ≡ v.hold.number) (pages : (pages : List Event) → PagesRow s pages → PagesRow t pages) (misses : recovers_at t v.hold.number ≡ recovers_at s v.hold.number ++ option_to_list more) where
  abbrev was : Sides
  was = record { is = record { stream = v; again = again; talk = talk }; wire = w; line = l; seat = s }

  abbrev pub is : Sides
  is = record { is = record { stream = u; again = again; talk = talk }; wire = x; line = l; seat = t }

  pub stood_turned : Stood signer source aims qs was None → Stood signer source aims qs is more
  stood_turned r = record {
    again = r.again;
    asked = r.asked;
    ids = ap (recovers_at t) number ∙ misses ∙ ap (λ xs. xs ++ option_to_list more) (r.ids ∙ ap (λ xs. ids_of qs ++ xs) (append-nil (id_open talk))) ∙ append_assoc (ids_of qs) (id_open talk) (option_to_list more);
    talk = subst (λ (n : ℕ). TalkRow signer again l t n aims qs talk) (sym number) (talk_turned signer source aims qs again l s t v.hold.number pages talk r.talk);
    dialed = r.dialed;
  }

  pub recovers_turned : more ≡ None → spec_at t v.hold.number ≡ spec_at s v.hold.number → (IsTalking talk → IsAsking s.pass v.hold.number → IsAsking t.pass v.hold.number) → Recovers signer source aims qs was → Recovers signer source aims qs is
  recovers_turned none spec asking r = record {
    stood = subst (Stood signer source aims qs is) none (stood_turned r.stood);
    spec = r.spec;
    spec_is = ap (spec_at t) number ∙ spec ∙ r.spec_is;
    linked = r.linked;
    asking = λ talking. subst (IsAsking t.pass) (sym number) (asking talking (r.asking talking));
  }
