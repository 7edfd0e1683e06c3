-- How a session attaches a hold.
use Rattle.std.specs.Prelude.{ℕ, ◌≡◌, ◌<◌, List, [], ◌∷◌, ◌++◌, Some, None}
use Rattle.gp_plain.specs.declared.event.HoldSpec.{HoldSpec}
use Rattle.gp_plain.specs.Reports.{TallyView, tally_of}
use Rattle.gp_hub.specs.Own.{HasNewHold, HasNoPlace, fresh_share}
use Rattle.gp_session.specs.Seats.{SeatView, IsServed}
use Rattle.gp_session.specs.Holding.{Serves, MetBusy, MetWorn}
use Rattle.gp_session.specs.declared.holding.Attached.{Attached}
use Rattle.gp_session.specs.declared.holding.Attached.TheVariants as attached
use Rattle.gp_session_hold.specs.Rows.{LastHold, none, kept, AttachRow, KeptView, IsKept}
use Rattle.gp_session_hold.specs.declared.attaching.Opened.{Opened}
use Rattle.gp_session_hold.specs.declared.attaching.Opened.TheVariants as opened

-- a hold that is kept, of which nothing was taken yet
pub record IsOpened (s t : SeatView) (spec : HoldSpec) (room : ℕ) (hold : KeptView) : Type 0 where
  pub served : Serves t (HasNewHold s.pass t.pass spec hold.number)
  pub counted : hold.tally ≡ tally_of spec []
  pub is : IsKept t hold (fresh_share s.pass.number spec)
  pub room_is : 0 < room

-- nothing was made for want of memory, of the hub or before it was asked
pub record WantsMemory (s t : SeatView) : Type 0 where
  pub seen : t.pass.seen ≡ s.pass.seen
  pub free : IsServed s → IsServed t

-- what an Attach came to, and for how many reports there is room then
abbrev pub OpensTo : SeatView → SeatView → HoldSpec → ℕ → Opened → Type 0
OpensTo s t spec room (opened.Kept hold) = IsOpened s t spec room hold
OpensTo s t spec room opened.Full = Serves t (HasNoPlace s.pass t.pass spec)
OpensTo s t spec room (opened.Busy back) = (back ≡ spec) × MetBusy s t
OpensTo s t spec room opened.Worn = MetWorn s t
OpensTo s t spec room opened.NoMemory = WantsMemory s t

-- the last hold behind it
abbrev pub last_opened : Opened → LastHold
last_opened (opened.Kept hold) = kept hold
last_opened opened.Full = none
last_opened (opened.Busy back) = none
last_opened opened.Worn = none
last_opened opened.NoMemory = none

-- the attaches behind it
abbrev pub AttachesTo : SeatView → List HoldSpec → HoldSpec → Opened → Type 0
AttachesTo t specs spec (opened.Kept hold) = AttachRow t (specs ++ spec ∷ []) None
AttachesTo t specs spec opened.Full = AttachRow t specs (Some spec)
AttachesTo t specs spec (opened.Busy back) = AttachRow t specs None
AttachesTo t specs spec opened.Worn = AttachRow t specs None
AttachesTo t specs spec opened.NoMemory = AttachRow t specs None

-- what the hub's answer to an Attach says, where this was counted
abbrev pub opened_by : TallyView → Attached → Opened
opened_by tally (attached.Hold number) = opened.Kept (record { number = number; tally = tally })
opened_by tally attached.Full = opened.Full
opened_by tally (attached.Busy back) = opened.Busy back
opened_by tally attached.Worn = opened.Worn
opened_by tally attached.NoMemory = opened.NoMemory
