-- What an Attach, a Take and a Detach do to a session's pass.
use Rattle.std.proofs.Common.{◌≡◌, ℕ, ◌+◌, ◌%◌, Result, Ok, Err, Option, Some, None, refl, subst, sym, inr, inl, arith}
use Rattle.std.specs.Prelude.{IfOk, IfErr, OnErr, ⊤}
use Rattle.gp_plain.specs.declared.event.Event.TheVariants.{Attach, Take, Detach}
use Rattle.gp_plain.specs.declared.event.HoldSpec.{HoldSpec}
use Rattle.gp_plain.specs.declared.reply.Taken.{Taken}
use Rattle.gp_plain.specs.declared.reply.Reply.TheVariants as reply
use Rattle.gp_hub.specs.declared.fault.HubFault.{HubFault}
use Rattle.gp_hub.specs.declared.fault.HubFault.TheVariants as hub
use Rattle.gp_hub.specs.Passes.{HubView, IsSame}
use Rattle.gp_hub.specs.Calls.{HasCause}
use Rattle.gp_hub.specs.Own.{HasMade, HasAttached, HasTaken, HasDetached, attach_reply}
use Rattle.gp_session.specs.declared.holding.LetGo.{LetGo}
use Rattle.gp_session.specs.Seats.{SeatView, MovedSeat, SeatRow}
use Rattle.gp_session.specs.Holding.{MetBusy, AttachedTo, TookFrom, LetsGo, HandsBackEvent, WantsNone, SaysGone, attached_by, took_by}
use Rattle.gp_session.proofs.Calling.{moved_served, row_served, free_served, moved_unserved, row_unserved}

attach_made : (p q : HubView) (spec : HoldSpec) (hold : Option ℕ) → HasAttached p q spec hold → HasMade p q (Attach spec) (attach_reply hold)
attach_made p q spec (Some number) a = a.made
attach_made p q spec None a = a.made

pub hands_back : (spec : HoldSpec) (found : ℕ) (answer : Result (Option ℕ) HubFault) → IfErr answer (HasCause (Attach spec) found) → IfErr answer (HandsBackEvent (Attach spec))
hands_back spec found (Ok hold) cause = cause
hands_back spec found (Err (hub.Busy event word)) cause = cause.0
hands_back spec found (Err (hub.Worn event)) cause = tt
hands_back spec found (Err (hub.NoMemory event)) cause = tt

-- a Detach never wants memory
pub wants_none : (hold found : ℕ) (answer : Result ⊤ HubFault) → IfErr answer (HasCause (Detach hold) found) → IfErr answer WantsNone
wants_none hold found (Ok done) cause = cause
wants_none hold found (Err (hub.Busy event word)) cause = tt
wants_none hold found (Err (hub.Worn event)) cause = tt
wants_none hold found (Err (hub.NoMemory event)) cause = cause.3 tt

module _ (s t : SeatView) (start : t.start ≡ s.start) (same : IsSame s.pass t.pass) (looks : t.pass.looks ≡ s.pass.looks + 1) where
  busy : t.pass.seen ≡ s.pass.seen → t.pass.found % 2 ≡ 1 → MetBusy s t
  busy seen odd = record { seen = seen; busy = record { looked = omega (arith, looks); odd = odd }; free = inr (inl odd) }

  -- an Attach
  module _ (spec : HoldSpec) where
    abbrev pub AttachAnswers : Result (Option ℕ) HubFault → Type 0
    AttachAnswers answer = IfOk answer (HasAttached s.pass t.pass spec) × OnErr answer (t.pass.seen ≡ s.pass.seen) × IfErr answer (HasCause (Attach spec) t.pass.found)

    pub attach_moved : (answer : Result (Option ℕ) HubFault) → AttachAnswers answer → MovedSeat s t
    attach_moved (Ok hold) a = moved_served s t start same looks (Attach spec) (attach_reply hold) (attach_made s.pass t.pass spec hold a.0)
    attach_moved (Err fault) a = moved_unserved s t start same looks a.1

    pub attach_row : (answer : Result (Option ℕ) HubFault) → AttachAnswers answer → SeatRow s → SeatRow t
    attach_row (Ok hold) a row = row_served s t start same looks (Attach spec) (attach_reply hold) (attach_made s.pass t.pass spec hold a.0) row
    attach_row (Err fault) a row = row_unserved s t start same looks a.1 row

    pub attach_says : (answer : Result (Option ℕ) HubFault) → AttachAnswers answer → AttachedTo s t spec (attached_by spec answer)
    attach_says (Ok (Some number)) a = record { served = a.0; free = free_served s t start same looks (Attach spec) (reply.Attached number) a.0.made }
    attach_says (Ok None) a = record { served = a.0; free = free_served s t start same looks (Attach spec) (reply.Full 4096) a.0.made }
    attach_says (Err (hub.Busy event word)) a = (refl, busy a.1 a.2.2)
    attach_says (Err (hub.Worn event)) a = record { seen = a.1; worn = (a.2.1, a.2.2) }
    attach_says (Err (hub.NoMemory event)) a = record { seen = a.1; free = inr (inr a.2.2) }

  -- a Take
  module _ (hold now : ℕ) where
    abbrev pub TakeAnswers : Result Taken HubFault → Type 0
    TakeAnswers answer = IfOk answer (HasTaken s.pass t.pass hold now) × OnErr answer (t.pass.seen ≡ s.pass.seen) × IfErr answer (HasCause (Take hold now) t.pass.found)

    pub take_moved : (answer : Result Taken HubFault) → TakeAnswers answer → MovedSeat s t
    take_moved (Ok taken) a = moved_served s t start same looks (Take hold now) (reply.Taken taken) a.0.made
    take_moved (Err fault) a = moved_unserved s t start same looks a.1

    pub take_row : (answer : Result Taken HubFault) → TakeAnswers answer → SeatRow s → SeatRow t
    take_row (Ok taken) a row = row_served s t start same looks (Take hold now) (reply.Taken taken) a.0.made row
    take_row (Err fault) a row = row_unserved s t start same looks a.1 row

    pub take_says : (answer : Result Taken HubFault) → TakeAnswers answer → TookFrom s t hold now (took_by answer)
    take_says (Ok taken) a = record { served = a.0; free = free_served s t start same looks (Take hold now) (reply.Taken taken) a.0.made }
    take_says (Err (hub.Busy event word)) a = busy a.1 a.2.2
    take_says (Err (hub.Worn event)) a = record { seen = a.1; worn = (a.2.1, a.2.2) }
    take_says (Err (hub.NoMemory event)) a = record { seen = a.1; free = inr (inr a.2.2) }

  -- a Detach
  module _ (hold : ℕ) where
    abbrev pub DetachAnswers : Result ⊤ HubFault → Type 0
    DetachAnswers answer = IfOk answer (λ done. HasDetached s.pass t.pass hold) × OnErr answer (t.pass.seen ≡ s.pass.seen) × IfErr answer (HasCause (Detach hold) t.pass.found)

    pub detach_moved : (answer : Result ⊤ HubFault) → DetachAnswers answer → MovedSeat s t
    detach_moved (Ok done) a = moved_served s t start same looks (Detach hold) reply.Done a.0.made
    detach_moved (Err fault) a = moved_unserved s t start same looks a.1

    pub detach_row : (answer : Result ⊤ HubFault) → DetachAnswers answer → SeatRow s → SeatRow t
    detach_row (Ok done) a row = row_served s t start same looks (Detach hold) reply.Done a.0.made row
    detach_row (Err fault) a row = row_unserved s t start same looks a.1 row

    pub detach_says : (answer : Result ⊤ HubFault) (says : LetGo) → DetachAnswers answer → SaysGone answer says → LetsGo s t hold says
    detach_says (Ok done) says a is = subst (LetsGo s t hold) (sym is) (record { served = a.0; free = free_served s t start same looks (Detach hold) reply.Done a.0.made })
    detach_says (Err (hub.Busy event word)) says a is = subst (LetsGo s t hold) (sym is) (busy a.1 a.2.2)
    detach_says (Err (hub.Worn event)) says a is = subst (LetsGo s t hold) (sym is) (record { seen = a.1; worn = (a.2.1, a.2.2) })
    detach_says (Err (hub.NoMemory event)) says a is = absurd is
