-- How a session lets a hold go that it keeps.
use Rattle.std.specs.Prelude.{ℕ, Bool, None}
use Rattle.gp_plain.specs.declared.reply.EndCause.{EndCause}
use Rattle.gp_plain.specs.declared.reply.EndCause.TheVariants.{Closed, Detached, Gap, Unrecovered, Overflow, Answered, Retry, TimedOut}
use Rattle.gp_plain.specs.Others.{Share}
use Rattle.gp_hub.specs.Own.{share_gone}
use Rattle.gp_hub.specs.declared.outcome.SessionEnd.{SessionEnd}
use Rattle.gp_hub.specs.declared.outcome.SessionEnd.TheVariants.{Sent, Cut}
use Rattle.gp_session.specs.Seats.{SeatView}
use Rattle.gp_session.specs.declared.holding.LetGo.{LetGo}
use Rattle.gp_session.specs.declared.holding.LetGo.TheVariants.{Gone, Busy, Worn}
use Rattle.gp_session_hold.specs.Rows.{KeptView, IsKept, IsOver, LastHold, kept, over, OwnRow, DetachedRow}

-- the last hold behind a Detach
abbrev pub last_let_go : KeptView → LetGo → LastHold
last_let_go hold Gone = over hold None
last_let_go hold Busy = kept hold
last_let_go hold Worn = kept hold

-- the entries behind it
abbrev pub LeavesEntries : Bool → SeatView → ℕ → LetGo → Type 0
LeavesEntries paged t number Gone = DetachedRow paged t number
LeavesEntries paged t number Busy = OwnRow paged t
LeavesEntries paged t number Worn = OwnRow paged t

-- the hold behind it: it was let go with what was taken of it, and no end was told; or it is still kept
abbrev pub LeavesHold : SeatView → KeptView → Share → LetGo → Type 0
LeavesHold t hold share Gone = IsOver t hold None (share_gone share)
LeavesHold t hold share Busy = IsKept t hold share
LeavesHold t hold share Worn = IsKept t hold share

-- how a session ends whose stream has ended by a cause, all of which was sent with a head of this code: a close ends the answer, and
-- any other cause cuts it
abbrev pub stream_end : ℕ → EndCause → SessionEnd
stream_end code Closed = Sent code
stream_end code Detached = Cut Detached
stream_end code Gap = Cut Gap
stream_end code Unrecovered = Cut Unrecovered
stream_end code Overflow = Cut Overflow
stream_end code Answered = Cut Answered
stream_end code Retry = Cut Retry
stream_end code TimedOut = Cut TimedOut
