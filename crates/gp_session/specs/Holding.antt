-- A session's own holds: what an Attach, a Take and a Detach of its pass come to.
use Rattle.std.specs.Prelude.{ℕ, ◌≡◌, Result, Ok, Err, Option, Some, None, ⊤}
use Rattle.gp_plain.specs.declared.event.Event.{Event}
use Rattle.gp_plain.specs.declared.event.HoldSpec.{HoldSpec}
use Rattle.gp_plain.specs.declared.reply.Taken.{Taken}
use Rattle.gp_hub.specs.Own.{HasNewHold, HasNoPlace, HasTaken, HasDetached}
use Rattle.gp_hub.specs.declared.fault.HubFault.{HubFault}
use Rattle.gp_hub.specs.declared.fault.HubFault.TheVariants as hub
use Rattle.gp_session.specs.Seats.{SeatView, IsServed, IsWorn, Busied}
use Rattle.gp_session.specs.declared.holding.Attached.{Attached}
use Rattle.gp_session.specs.declared.holding.Attached.TheVariants as attached
use Rattle.gp_session.specs.declared.holding.Took.{Took}
use Rattle.gp_session.specs.declared.holding.Took.TheVariants as took
use Rattle.gp_session.specs.declared.holding.LetGo.{LetGo}
use Rattle.gp_session.specs.declared.holding.LetGo.TheVariants as gone

-- the hub served the call, and its turn was free
pub record Serves (t : SeatView) (Served : Type 0) : Type 0 where
  pub served : Served
  pub free : IsServed t

-- another call held the turn, and nothing has changed but the look
pub record MetBusy (s t : SeatView) : Type 0 where
  pub seen : t.pass.seen ≡ s.pass.seen
  pub busy : Busied s t
  pub free : IsServed t

-- the hub serves no more, and nothing has changed but the look
pub record MetWorn (s t : SeatView) : Type 0 where
  pub seen : t.pass.seen ≡ s.pass.seen
  pub worn : IsWorn t

-- memory was wanting, and nothing has changed but the look
pub record MetWant (s t : SeatView) : Type 0 where
  pub seen : t.pass.seen ≡ s.pass.seen
  pub free : IsServed t

-- an Attach made a hold of this number, or 4,096 are kept; or it wasn't served
abbrev pub AttachedTo : SeatView → SeatView → HoldSpec → Attached → Type 0
AttachedTo s t spec (attached.Hold number) = Serves t (HasNewHold s.pass t.pass spec number)
AttachedTo s t spec attached.Full = Serves t (HasNoPlace s.pass t.pass spec)
AttachedTo s t spec (attached.Busy back) = (back ≡ spec) × MetBusy s t
AttachedTo s t spec attached.Worn = MetWorn s t
AttachedTo s t spec attached.NoMemory = MetWant s t

-- a Take of the hold gave this, or it wasn't served
abbrev pub TookFrom : SeatView → SeatView → ℕ → ℕ → Took → Type 0
TookFrom s t hold now (took.Gave taken) = Serves t (HasTaken s.pass t.pass hold now taken)
TookFrom s t hold now took.Busy = MetBusy s t
TookFrom s t hold now took.Worn = MetWorn s t
TookFrom s t hold now took.NoMemory = MetWant s t

-- a Detach let the hold go, or it wasn't served. It never wants memory
abbrev pub LetsGo : SeatView → SeatView → ℕ → LetGo → Type 0
LetsGo s t hold gone.Gone = Serves t (HasDetached s.pass t.pass hold)
LetsGo s t hold gone.Busy = MetBusy s t
LetsGo s t hold gone.Worn = MetWorn s t

-- the hub hands the event back where it is busy
abbrev pub HandsBackEvent : Event → HubFault → Type 0
HandsBackEvent event (hub.Busy back word) = back ≡ event
HandsBackEvent event (hub.Worn back) = ⊤
HandsBackEvent event (hub.NoMemory back) = ⊤

-- what the hub's answers say
abbrev pub unattached_by : HoldSpec → HubFault → Attached
unattached_by spec (hub.Busy back word) = attached.Busy spec
unattached_by spec (hub.Worn back) = attached.Worn
unattached_by spec (hub.NoMemory back) = attached.NoMemory

abbrev pub attached_by : HoldSpec → Result (Option ℕ) HubFault → Attached
attached_by spec (Ok (Some number)) = attached.Hold number
attached_by spec (Ok None) = attached.Full
attached_by spec (Err fault) = unattached_by spec fault

abbrev pub untaken_by : HubFault → Took
untaken_by (hub.Busy back word) = took.Busy
untaken_by (hub.Worn back) = took.Worn
untaken_by (hub.NoMemory back) = took.NoMemory

abbrev pub took_by : Result Taken HubFault → Took
took_by (Ok taken) = took.Gave taken
took_by (Err fault) = untaken_by fault

-- memory isn't wanting
abbrev pub WantsNone : HubFault → Type 0
WantsNone (hub.Busy back word) = ⊤
WantsNone (hub.Worn back) = ⊤
WantsNone (hub.NoMemory back) = ⊥

abbrev pub SaysKept : HubFault → LetGo → Type 0
SaysKept (hub.Busy back word) answer = answer ≡ gone.Busy
SaysKept (hub.Worn back) answer = answer ≡ gone.Worn
SaysKept (hub.NoMemory back) answer = ⊥

abbrev pub SaysGone : Result ⊤ HubFault → LetGo → Type 0
SaysGone (Ok done) answer = answer ≡ gone.Gone
SaysGone (Err fault) answer = SaysKept fault answer
