-- What the moves over a session's ends do to its rows and to the causes of its waits.
use Rattle.std.proofs.Common.{◌≡◌, ℕ, ◌≤◌, List, [], ◌++◌, Option, Some, None, refl, sym, ap, ◌∙◌, subst, arith, append_assoc, append-nil, ◌==◌, ◌∷◌, cond, filter}
use Rattle.std.specs.List.{All}
use Rattle.std.proofs.lemmas.Bool.{ne_eqb}
use Rattle.std.proofs.lemmas.List.Elements.{All-head, All-tail, All-nil}
use mathlib.Core.List.{IsPrefix}
use Rattle.gp_plain.specs.Others.{IsOfAnother}
use Rattle.gp_plain.proofs.OthersLaw.{owners_law_holds}
use Rattle.gp_turn.proofs.Owners.{others_by_number}
use Rattle.gp_hub.specs.Own.{mine}
use Rattle.gp_plain.specs.declared.event.Entry.{Entry}
use Rattle.gp_outside.specs.Counts.{Rose, grown}
use Rattle.gp_outside.specs.Links.{LinkTells, LinkLater}
use Rattle.gp_outbox.specs.declared.outbox.Flushed.{Flushed}
use Rattle.gp_hub.specs.Passes.{HubView, who_of}
use Rattle.gp_intake.specs.Polls.{Hears}
use Rattle.gp_session.specs.Wires.{WireView, new_wire, SaysMore, MovedWire, RequestRow, Sent, Flushes}
use Rattle.gp_session.specs.Seats.{SeatView, new_seat, MovedSeat, IsSamePass, IsFresh, IsApart, SeatRow, HasNoHolds, Busied}
use Rattle.gp_session.specs.Causes.{ReadWaited, WriteWaited}
use Rattle.gp_session.proofs.Calling.{same_again}

pub rose_from : (a b c : ℕ) → a ≤ b → Rose b c → Rose a c
rose_from a b c le rose = omega arith

pub later_same : (a : LinkTells) → LinkLater a a
later_same a = record { faults = omega arith; read_waits = omega arith; write_waits = omega arith; ends = omega arith }

pub later_later : (a b c : LinkTells) → LinkLater a b → LinkLater b c → LinkLater a c
later_later a b c h k = record { faults = omega (arith, h.faults, k.faults); read_waits = omega (arith, h.read_waits, k.read_waits); write_waits = omega (arith, h.write_waits, k.write_waits); ends = omega (arith, h.ends, k.ends) }

grown_none : (told : Option (List ℕ)) → told ≡ grown told []
grown_none None = refl
grown_none (Some bytes) = ap Some (sym (append-nil bytes))

grown_twice : (told : Option (List ℕ)) (some more : List ℕ) → grown (grown told some) more ≡ grown told (some ++ more)
grown_twice None some more = refl
grown_twice (Some bytes) some more = ap Some (append_assoc bytes some more)

-- the bytes

pub sent_same : (v w : WireView) (all : List ℕ) → Sent v all → w.start ≡ v.start → w.link.sent ≡ v.link.sent → w.rest ≡ v.rest → Sent w all
sent_same v w all s start sent rest = record {
  sent = s.sent;
  since = sent ∙ s.since ∙ ap (λ (t : LinkTells). grown t.sent s.sent) (sym start);
  whole = ap (λ (xs : List ℕ). s.sent ++ xs) rest ∙ s.whole;
}

pub sent_flushed : (v w : WireView) (all : List ℕ) (flushed : Flushed) → Sent v all → Flushes v w flushed → Sent w all
sent_flushed v w all flushed s f = record {
  sent = s.sent ++ f.passed.out;
  since = f.passed.sent ∙ ap (λ told. grown told f.passed.out) s.since ∙ grown_twice v.start.sent s.sent f.passed.out ∙ ap (λ (t : LinkTells). grown t.sent (s.sent ++ f.passed.out)) (sym f.start);
  whole = append_assoc s.sent f.passed.out w.rest ∙ ap (λ (xs : List ℕ). s.sent ++ xs) (sym f.passed.split) ∙ s.whole;
}

pub sent_put : (v w : WireView) (all more : List ℕ) → Sent v all → w.start ≡ v.start → w.link ≡ v.link → w.rest ≡ v.rest ++ more → Sent w (all ++ more)
sent_put v w all more s start link rest = record {
  sent = s.sent;
  since = ap (λ (t : LinkTells). t.sent) link ∙ s.since ∙ ap (λ (t : LinkTells). grown t.sent s.sent) (sym start);
  whole = ap (λ (xs : List ℕ). s.sent ++ xs) rest ∙ sym (append_assoc s.sent v.rest more) ∙ ap (λ (xs : List ℕ). xs ++ more) s.whole;
}

-- what is said grows

pub says_same : (v w : WireView) → w.start ≡ v.start → w.link.sent ≡ v.link.sent → w.rest ≡ v.rest → SaysMore v w []
says_same v w start sent rest = λ text s. sent_same v w (text ++ []) (subst (Sent v) (sym (append-nil text)) s) start sent rest

pub says_flushed : (v w : WireView) (f : Flushed) → Flushes v w f → SaysMore v w []
says_flushed v w f h = λ text s. subst (Sent w) (sym (append-nil text)) (sent_flushed v w text f s h)

pub says_put : (v w : WireView) (more : List ℕ) → w.start ≡ v.start → w.link ≡ v.link → w.rest ≡ v.rest ++ more → SaysMore v w more
says_put v w more start link rest = λ text s. sent_put v w text more s start link rest

pub says_again : (u v w : WireView) (a b : List ℕ) → SaysMore u v a → SaysMore v w b → SaysMore u w (a ++ b)
says_again u v w a b h k = λ text s. subst (Sent w) (append_assoc text a b) (k (text ++ a) (h text s))

-- moves one after another

pub moved_wire_same : (v : WireView) → MovedWire v v
moved_wire_same v = record { start = refl; later = later_same v.link; more = []; says = says_same v v refl refl refl }

pub moved_wire_again : (u v w : WireView) → MovedWire u v → MovedWire v w → MovedWire u w
moved_wire_again u v w a b = record {
  start = b.start ∙ a.start;
  later = later_later u.link v.link w.link a.later b.later;
  more = a.more ++ b.more;
  says = says_again u v w a.more b.more a.says b.says;
}

same_pass_same : (p : HubView) → IsSamePass p p
same_pass_same p = record { turn = refl; number = refl; spare = refl; past = refl; parts = refl }

prefix_again : (xs ys zs : List Entry) → IsPrefix xs ys → IsPrefix ys zs → IsPrefix xs zs
prefix_again xs ys zs a b = (a.0 ++ b.0, sym (append_assoc xs a.0 b.0) ∙ ap (λ es. es ++ b.0) a.1 ∙ b.1)

pub moved_seat_same : (s : SeatView) → MovedSeat s s
moved_seat_same s = record { start = refl; same = same_pass_same s.pass; seen = ([], append-nil s.pass.seen); looks = omega arith }

pub moved_seat_again : (s t u : SeatView) → MovedSeat s t → MovedSeat t u → MovedSeat s u
moved_seat_again s t u a b = record {
  start = b.start ∙ a.start;
  same = same_again s.pass t.pass u.pass a.same b.same;
  seen = prefix_again s.pass.seen t.pass.seen u.pass.seen a.seen b.seen;
  looks = omega (arith, a.looks, b.looks);
}

-- a cause between the views of one move is one of the poll

pub read_waited_from : (u v w : WireView) → MovedWire u v → ReadWaited v w → ReadWaited u w
read_waited_from u v w a rose = rose_from u.link.read_waits v.link.read_waits w.link.read_waits a.later.read_waits rose

pub write_waited_from : (u v w : WireView) → MovedWire u v → WriteWaited v w → WriteWaited u w
write_waited_from u v w a rose = rose_from u.link.write_waits v.link.write_waits w.link.write_waits a.later.write_waits rose

pub busied_from : (s t u : SeatView) → MovedSeat s t → Busied t u → Busied s u
busied_from s t u a b = record { looked = omega (arith, a.looks, b.looked); odd = b.odd }

-- a count of the link that rose in a move has risen since the session began
pub rose_since : (v : WireView) (w : WireView) (count : LinkTells → ℕ) → w.start ≡ v.start → count v.start ≤ count v.link → Rose (count v.link) (count w.link) → Rose (count w.start) (count w.link)
rose_since v w count start le rose = subst (λ (t : LinkTells). Rose (count t) (count w.link)) (sym start) (rose_from (count v.start) (count v.link) (count w.link) le rose)

pub later_since : (v w : WireView) → LinkLater v.start v.link → w.start ≡ v.start → LinkLater v.link w.link → LinkLater w.start w.link
later_since v w later start more = subst (λ (t : LinkTells). LinkLater t w.link) (sym start) (later_later v.start v.link w.link later more)

-- the request

pub request_more : (v w : WireView) (P Q : List ℕ → Type 0) (more : List ℕ) → RequestRow v P → w.start ≡ v.start → Hears v.link w.link more
    → ((received : List ℕ) → P received → Q (received ++ more)) → RequestRow w Q
request_more v w P Q more r start hears on = record {
  received = r.received ++ more;
  since = hears.received ∙ ap (λ told. grown told more) r.since ∙ grown_twice v.start.received r.received more ∙ ap (λ (t : LinkTells). grown t.received (r.received ++ more)) (sym start);
  asks = on r.received r.asks;
}

pub request_same : (v w : WireView) (P Q : List ℕ → Type 0) → RequestRow v P → w.start ≡ v.start → w.link.received ≡ v.link.received → ((received : List ℕ) → P received → Q received) → RequestRow w Q
request_same v w P Q r start same on = record {
  received = r.received;
  since = same ∙ r.since ∙ ap (λ (t : LinkTells). grown t.received r.received) (sym start);
  asks = on r.received r.asks;
}

pub moved_flushed : (v w : WireView) (flushed : Flushed) → Flushes v w flushed → MovedWire v w
moved_flushed v w flushed f = record { start = f.start; later = f.passed.later; more = []; says = says_flushed v w flushed f }

pub moved_heard : (v w : WireView) (heard : List ℕ) → w.start ≡ v.start → w.rest ≡ v.rest → Hears v.link w.link heard → MovedWire v w
moved_heard v w heard start rest hears = record { start = start; later = hears.later; more = []; says = says_same v w start hears.sent rest }

pub later_put : (v w : WireView) → w.link ≡ v.link → LinkLater v.link w.link
later_put v w link = subst (λ (t : LinkTells). LinkLater v.link t) (sym link) (later_same v.link)

pub moved_put : (v w : WireView) (more : List ℕ) → w.start ≡ v.start → w.link ≡ v.link → w.rest ≡ v.rest ++ more → MovedWire v w
moved_put v w more start link rest = record { start = start; later = later_put v w link; more = more; says = says_put v w more start link rest }

pub moved_none_put : (v w : WireView) → w.start ≡ v.start → w.link ≡ v.link → w.rest ≡ v.rest → MovedWire v w
moved_none_put v w start link rest = moved_put v w [] start link (rest ∙ sym (append-nil v.rest))

-- a session that begins

pub request_none : (link : LinkTells) (P : List ℕ → Type 0) → P [] → RequestRow (new_wire link) P
request_none link P p = record { received = []; since = grown_none link.received; asks = p }

pub sent_none : (link : LinkTells) → Sent (new_wire link) []
sent_none link = record { sent = []; since = grown_none link.sent; whole = refl }

none_own : (who : ℕ) (entries : List Entry) → All (IsOfAnother who) entries → filter (λ (e : Entry). e.who == who) entries ≡ []
none_own who [] all = refl
none_own who (e ∷ es) all =
    ap (λ b. cond b (e ∷ filter (λ (e : Entry). e.who == who) es) (filter (λ (e : Entry). e.who == who) es)) (ne_eqb e.who who (All-head (IsOfAnother who) e es all))
    ∙ none_own who es (All-tail (IsOfAnother who) e es all)

module _ (p : HubView) (fresh : IsFresh p) (some : 1 ≤ p.spare) where
  of_others : All (IsOfAnother p.number) p.seen
  of_others = others_by_number who_of (record p { past = [] }) p.seen some fresh

  pub mine_none : mine p ≡ []
  mine_none = none_own p.number p.seen of_others

  pub holds_none : HasNoHolds (new_seat p)
  holds_none = owners_law_holds [] p.seen p.number of_others

pub row_none : (p : HubView) → SeatRow (new_seat p)
row_none p = record { same = same_pass_same p; since = record { more = []; is = sym (append-nil p.seen); apart = All-nil (IsApart p) }; looks = omega arith }
