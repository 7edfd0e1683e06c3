-- What Takes give of a long poll.
use Rattle.std.specs.Prelude.{ℕ, ◌≡◌, ◌≢◌, Bool, true, List, [], ◌∷◌, ◌++◌, All, Option, Some, None, is_some, ⊤}
use Rattle.gp_plain.specs.declared.event.Entry.{Entry}
use Rattle.gp_plain.specs.declared.event.Event.TheVariants.{Take}
use Rattle.gp_plain.specs.declared.event.HoldSpec.{HoldSpec}
use Rattle.gp_plain.specs.declared.event.HoldSpec.TheVariants.{Response}
use Rattle.gp_plain.specs.declared.item.ResponsePart.{ResponsePart}
use Rattle.gp_plain.specs.declared.reply.EndCause.{EndCause}
use Rattle.gp_plain.specs.declared.reply.EndCause.TheVariants as cause
use Rattle.gp_plain.specs.declared.reply.HoldReport.{HoldReport}
use Rattle.gp_plain.specs.declared.reply.Piece.{Piece}
use Rattle.gp_plain.specs.declared.reply.Piece.TheVariants.{Answer as AnswerPiece}
use Rattle.gp_plain.specs.declared.reply.Taken.{Taken}
use Rattle.gp_plain.specs.Others.{Share}
use Rattle.gp_plain.specs.Kinds.{TakenFits, ends_response, may_end}
use Rattle.gp_hub.specs.Own.{HasTaken, mine}
use Rattle.gp_session.specs.Seats.{SeatView, MovedSeat, SeatRow, IsServed, IsWorn, Busied}
use Rattle.gp_session.specs.Holding.{MetBusy, MetWorn, MetWant}
use Rattle.gp_session_hold.specs.Rows.{KeptView, IsKept, IsOver, HoldsRow, EntriesRow, AttachRow, LastHold, kept, over}
use Rattle.gp_session_hold.specs.Puts.{Counts}
use Rattle.gp_session_hold.specs.Streams.{Gives as GaveMore, Idles}
use Rattle.gp_session_wait.specs.Views.{PollView}
use Rattle.gp_session_wait.specs.declared.seeking.End.{End}
use Rattle.gp_session_wait.specs.declared.seeking.End.TheVariants as end
use Rattle.gp_session_wait.specs.declared.seeking.Given.{Given}
use Rattle.gp_session_wait.specs.declared.seeking.Given.TheVariants as given
use Rattle.gp_session_wait.specs.declared.seeking.Turned.{Turned}
use Rattle.gp_session_wait.specs.declared.seeking.Turned.TheVariants as turned
use Rattle.gp_session_wait.specs.declared.seeking.Sought.{Sought}
use Rattle.gp_session_wait.specs.declared.seeking.Sought.TheVariants as sought

-- it is a long poll
pub record IsResponse (spec : HoldSpec) : Type 0 where
  pub channels : List (List ℕ)
  pub prev : Option (List ℕ)
  pub deadline : ℕ
  pub again : Bool
  pub is : spec ≡ Response channels prev deadline again

-- the session keeps the hold, which is a long poll
pub record Polls (v : PollView) (s : SeatView) : Type 0 where
  pub share : Share
  pub is : IsKept s v.hold share
  pub spec_is : share.spec ≡ v.spec
  pub response : IsResponse v.spec

-- the last of the pieces is this answer
pub record IsAnswer (pieces : List Piece) (part : ResponsePart) : Type 0 where
  pub front : List Piece
  pub to : Option (List ℕ)
  pub whole : pieces ≡ front ++ AnswerPiece to part ∷ []

-- the last of the ids is this one
pub record IsLast (ids : List (List ℕ)) (id : List ℕ) : Type 0 where
  pub front : List (List ℕ)
  pub whole : ids ≡ front ++ id ∷ []

abbrev pub cause_of : End → EndCause
cause_of (end.Answered part) = cause.Answered
cause_of end.TimedOut = cause.TimedOut
cause_of (end.Retry id) = cause.Retry
cause_of end.Overflow = cause.Overflow

-- where a long poll was answered, the answer is the last piece that was taken of it; and where its request is to be repeated, the id
-- behind which items were missed is the last that a Take gave
abbrev pub ToldBy : Share → End → Type 0
ToldBy share (end.Answered part) = IsAnswer share.taken part
ToldBy share end.TimedOut = ⊤
ToldBy share (end.Retry id) = IsLast share.recovers id
ToldBy share end.Overflow = ⊤

-- a Take told this end of the hold, which was let go
pub record IsToldEnd (v : PollView) (s : SeatView) (told : End) : Type 0 where
  pub share : Share
  pub is : IsOver s v.hold (Some (cause_of told)) share
  pub spec_is : share.spec ≡ v.spec
  pub cause_is : may_end v.spec (cause_of told) ≡ true
  pub by : ToldBy share told

-- one Take of a long poll

pub record FitsPoll (taken : Taken) : Type 0 where
  pub spec : HoldSpec
  pub response : IsResponse spec
  pub fits : TakenFits spec taken

-- an end that a Take tells of a long poll: with Answered it gives an answer, and with Retry an id
pub record CanEnd (c : EndCause) (recover : Option (List ℕ)) (answer : Option ResponsePart) : Type 0 where
  pub prev : Option (List ℕ)
  pub may : ends_response prev c ≡ true
  pub answers : c ≡ cause.Answered → is_some answer ≡ true
  pub recovers : c ≡ cause.Retry → is_some recover ≡ true

abbrev pub EndsBy : EndCause → Option (List ℕ) → Option ResponsePart → End → Type 0
EndsBy c recover answer (end.Answered part) = (c ≡ cause.Answered) × (answer ≡ Some part)
EndsBy c recover answer end.TimedOut = c ≡ cause.TimedOut
EndsBy c recover answer (end.Retry id) = (c ≡ cause.Retry) × (recover ≡ Some id)
EndsBy c recover answer end.Overflow = c ≡ cause.Overflow

-- what a Take gave with an end
abbrev pub EndsWith : Taken → End → Type 0
EndsWith taken (end.Answered part) = IsAnswer taken.pieces part
EndsWith taken end.TimedOut = ⊤
EndsWith taken (end.Retry id) = taken.recover ≡ Some id
EndsWith taken end.Overflow = ⊤

abbrev pub GivenAs : Taken → Given → Type 0
GivenAs taken given.Pieces = (taken.pieces ≢ []) × (taken.ended ≡ None)
GivenAs taken given.Nothing = (taken.pieces ≡ []) × (taken.ended ≡ None)
GivenAs taken (given.Ended told) = (taken.ended ≡ Some (cause_of told)) × EndsWith taken told

pub record Gives (h k : KeptView) (taken : Taken) (answer : Given) : Type 0 where
  pub counts : Counts h k taken.pieces
  pub says : GivenAs taken answer

-- of all pieces some were counted, and the others are left; where those that were counted end with an answer, it was found
pub record CountsSome (h k : KeptView) (all left : List Piece) (answer : Option ResponsePart) : Type 0 where
  pub done : List Piece
  pub split : all ≡ done ++ left
  pub counts : Counts h k done
  pub found : (part : ResponsePart) → IsAnswer done part → answer ≡ Some part

pub record TurnsWith (v u : PollView) (s t : SeatView) (now : ℕ) (answer : Given) : Type 0 where
  pub taken : Taken
  pub took : HasTaken s.pass t.pass v.hold.number now taken
  pub free : IsServed t
  pub gives : Gives v.hold u.hold taken answer

abbrev pub TurnsTo : PollView → PollView → SeatView → SeatView → ℕ → Turned → Type 0
TurnsTo v u s t now (turned.Gave answer) = TurnsWith v u s t now answer
TurnsTo v u s t now turned.Busy = MetBusy s t × (u ≡ v)
TurnsTo v u s t now turned.Worn = MetWorn s t × (u ≡ v)
TurnsTo v u s t now turned.NoMemory = MetWant s t × (u ≡ v)

pub record Turns (v u : PollView) (s t : SeatView) (now : ℕ) (answer : Turned) : Type 0 where
  pub spec : u.spec ≡ v.spec
  pub seat : MovedSeat s t
  pub row : SeatRow s → SeatRow t
  pub says : TurnsTo v u s t now answer

-- the Takes of a poll

-- all that the session asked of the hub since are Takes of the hold at this moment
pub record TakesAt (number now : ℕ) (s t : SeatView) : Type 0 where
  pub more : List Entry
  pub all : mine t.pass ≡ mine s.pass ++ more
  pub takes : All (λ (entry : Entry). entry.event ≡ Take number now) more

-- what they keep, whatever they come to
pub record Goes (v u : PollView) (s t : SeatView) (now : ℕ) : Type 0 where
  pub number : u.hold.number ≡ v.hold.number
  pub times : TakesAt v.hold.number now s t
  pub spec : u.spec ≡ v.spec
  pub seat : MovedSeat s t
  pub row : SeatRow s → SeatRow t
  pub entries : EntriesRow s → EntriesRow t
  pub attaches : (specs : List HoldSpec) (refused : Option HoldSpec) → AttachRow s specs refused → AttachRow t specs refused

-- the last hold of the session behind them
abbrev pub last_sought : KeptView → Sought → LastHold
last_sought hold sought.Idle = kept hold
last_sought hold sought.Sixteen = kept hold
last_sought hold sought.Busy = kept hold
last_sought hold sought.Worn = kept hold
last_sought hold sought.NoMemory = kept hold
last_sought hold (sought.Ended told) = over hold (Some (cause_of told))

-- the hub's word is one with which it serves, but at the end Worn
abbrev pub ServesAs : SeatView → SeatView → Sought → Type 0
ServesAs s t sought.Idle = IsServed s → IsServed t
ServesAs s t sought.Sixteen = IsServed s → IsServed t
ServesAs s t sought.Busy = IsServed s → IsServed t
ServesAs s t sought.Worn = IsWorn t
ServesAs s t sought.NoMemory = IsServed s → IsServed t
ServesAs s t (sought.Ended told) = IsServed s → IsServed t

-- what they come to, and why
abbrev pub SoughtAs : PollView → SeatView → SeatView → ℕ → Sought → Type 0
SoughtAs v s t now sought.Idle = Polls v t × Idles v.hold.number now s t
SoughtAs v s t now sought.Sixteen = Polls v t × GaveMore v.hold.number now s 16 t
SoughtAs v s t now sought.Busy = Polls v t × Busied s t
SoughtAs v s t now sought.Worn = Polls v t
SoughtAs v s t now sought.NoMemory = Polls v t
SoughtAs v s t now (sought.Ended told) = IsToldEnd v t told

pub record Seeks (v u : PollView) (s t : SeatView) (now : ℕ) (answer : Sought) : Type 0 where
  pub goes : Goes v u s t now
  pub holds : (reports : List HoldReport) → HoldsRow s reports (kept v.hold) → HoldsRow t reports (last_sought u.hold answer)
  pub serves : ServesAs s t answer
  pub says : SoughtAs u s t now answer

-- so many Takes gave pieces, and the hold is still kept
pub record Seeking (v u : PollView) (s t : SeatView) (now count : ℕ) : Type 0 where
  pub goes : Goes v u s t now
  pub holds : (reports : List HoldReport) → HoldsRow s reports (kept v.hold) → HoldsRow t reports (kept u.hold)
  pub free : IsServed s → IsServed t
  pub polls : Polls u t
  pub gave : GaveMore v.hold.number now s count t
