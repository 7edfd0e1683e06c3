-- Pages, failures and changes of sockets leave a hold that ended, or that is of another kind, as it is.
use Rattle.std.proofs.Common.{◌≡◌, Bool, true, false, cond, not, List, refl, sym, ap, Option, Some, None, is_none, is_some}
use Rattle.gp_plain.specs.declared.item.Item.{Item}
use Rattle.gp_plain.specs.declared.event.HoldKind.{HoldKind}
use Rattle.gp_plain.specs.declared.reply.EndCause.{EndCause}
use Rattle.gp_plain.specs.declared.reply.EndCause.TheVariants.{Unrecovered}
use Rattle.gp_plain.specs.Holds.{State, RecoveryPage, SocketChange, is_live, is_stream, is_socket, refusal, page_refusal, change_refusal, begins_at, with_page, with_stale, after_page, after_failure, with_change, after_change}

untrue : {A : Type 0} → true ≡ false → A
untrue e = cc

-- what isn't refused is of a live hold of the kind
pub live_unrefused : (ended : Option EndCause) (has : Bool) (kind : HoldKind) → is_none (refusal ended has kind) ≡ true → ended ≡ None
live_unrefused None has kind e = refl
live_unrefused (Some cause) has kind e = untrue (sym e)

pub kind_unrefused : (ended : Option EndCause) (has : Bool) (kind : HoldKind) → is_none (refusal ended has kind) ≡ true → has ≡ true
kind_unrefused None true kind e = refl
kind_unrefused None false kind e = untrue (sym e)
kind_unrefused (Some cause) has kind e = untrue (sym e)

dead_refused : (ended : Option EndCause) (has : Bool) (kind : HoldKind) → not (is_some ended) ≡ false → is_none (refusal ended has kind) ≡ false
dead_refused None has kind e = untrue e
dead_refused (Some cause) has kind e = refl

other_refused : (ended : Option EndCause) (has : Bool) (kind : HoldKind) → has ≡ false → is_none (refusal ended has kind) ≡ false
other_refused None true kind e = untrue e
other_refused None false kind e = refl
other_refused (Some cause) has kind e = refl

page_refused : (window : List Item) (page : RecoveryPage) (s : State) → is_none (page_refusal s) ≡ false → after_page window page s ≡ s
page_refused window page s e = ap (λ b. cond b (cond (begins_at s.position page.from) (with_page window page s) (with_stale window s)) s) e

failure_refused : (s : State) → is_none (page_refusal s) ≡ false → after_failure s ≡ s
failure_refused s e = ap (λ b. cond b (record s { ended = Some Unrecovered }) s) e

change_refused : (change : SocketChange) (s : State) → is_none (change_refusal s) ≡ false → after_change change s ≡ s
change_refused change s e = ap (λ b. cond b (with_change change s) s) e

-- a hold that ended

pub page_dead : (window : List Item) (page : RecoveryPage) (s : State) → is_live s ≡ false → after_page window page s ≡ s
page_dead window page s dead = page_refused window page s (dead_refused s.ended (is_stream s.terms.kind) s.terms.kind dead)

pub failure_dead : (s : State) → is_live s ≡ false → after_failure s ≡ s
failure_dead s dead = failure_refused s (dead_refused s.ended (is_stream s.terms.kind) s.terms.kind dead)

pub change_dead : (change : SocketChange) (s : State) → is_live s ≡ false → after_change change s ≡ s
change_dead change s dead = change_refused change s (dead_refused s.ended (is_socket s.terms.kind) s.terms.kind dead)

-- a hold of another kind

pub page_other : (window : List Item) (page : RecoveryPage) (s : State) → is_stream s.terms.kind ≡ false → after_page window page s ≡ s
page_other window page s other = page_refused window page s (other_refused s.ended (is_stream s.terms.kind) s.terms.kind other)

pub failure_other : (s : State) → is_stream s.terms.kind ≡ false → after_failure s ≡ s
failure_other s other = failure_refused s (other_refused s.ended (is_stream s.terms.kind) s.terms.kind other)

pub change_other : (change : SocketChange) (s : State) → is_socket s.terms.kind ≡ false → after_change change s ≡ s
change_other change s other = change_refused change s (other_refused s.ended (is_socket s.terms.kind) s.terms.kind other)
