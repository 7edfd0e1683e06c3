-- A stream to a client: what it keeps true, and what one turn delivers.
use Rattle.std.specs.Prelude.{ℕ, ◌≡◌, ◌≢◌, ◌+◌, Bool, true, List, [], ◌∷◌, ◌++◌, Option, Some, None, ⊤}
use Rattle.std.specs.Option.{option_to_list}
use mathlib.Core.List.{IsPrefix}
use Rattle.gp_outside.specs.Counts.{Rose}
use Rattle.gp_plain.specs.declared.event.Event.{Event}
use Rattle.gp_plain.specs.declared.event.HoldSpec.{HoldSpec}
use Rattle.gp_plain.specs.declared.reply.EndCause.{EndCause}
use Rattle.gp_plain.specs.declared.reply.HoldReport.{HoldReport}
use Rattle.gp_plain.specs.declared.reply.Taken.{Taken}
use Rattle.gp_plain.specs.Others.{Share}
use Rattle.gp_plain.specs.Kinds.{may_end}
use Rattle.gp_hub.specs.Own.{HasTaken}
use Rattle.gp_asking.specs.Asking.{IsAsking}
use Rattle.gp_session.specs.Seats.{SeatView, MovedSeat, SeatRow, IsServed, IsWorn, Busied}
use Rattle.gp_session.specs.Wires.{WireView, MovedWire, Sent}
use Rattle.gp_session.specs.Holding.{MetBusy, MetWorn, MetWant}
use Rattle.gp_session.specs.Causes.{WriteWaited}
use Rattle.gp_session_hold.specs.Rows.{KeptView, IsKept, IsOver, HoldsRow, OwnRow, AttachRow, PagesRow, LastHold, kept, over, recovers_at, spec_at, stream_text}
use Rattle.gp_session_hold.specs.Puts.{Sends}
use Rattle.gp_session_hold.specs.declared.sending.Given.{Given}
use Rattle.gp_session_hold.specs.declared.sending.Given.TheVariants as given
use Rattle.gp_session_hold.specs.declared.stream.Streamed.{Streamed}
use Rattle.gp_session_hold.specs.declared.stream.Streamed.TheVariants as streamed
use Rattle.gp_session_hold.specs.declared.stream.Turned.{Turned}
use Rattle.gp_session_hold.specs.declared.stream.Turned.TheVariants as turned

-- a stream: its hold, whether it goes in chunks, and the head of its answer
pub record StreamView : Type 0 where
  pub hold : KeptView
  pub chunked : Bool
  pub head : List ℕ

-- the stream goes on: its hold is kept, and all that was taken of it is sent or waits
pub record Streams (v : StreamView) (w : WireView) (s : SeatView) : Type 0 where
  pub share : Share
  pub is : IsKept s v.hold share
  pub bytes : Sent w (stream_text v.chunked v.head share.taken None)

-- the stream has ended by a cause: all that was taken is sent or waits, with the last chunk where that is a close
pub record Finished (v : StreamView) (w : WireView) (s : SeatView) (cause : EndCause) : Type 0 where
  pub share : Share
  pub is : IsOver s v.hold (Some cause) share
  pub cause_is : may_end share.spec cause ≡ true
  pub bytes : Sent w (stream_text v.chunked v.head share.taken (Some cause))

-- memory was wanting for what was taken: a beginning of it is sent or waits. The hold is kept, or its end was told
abbrev pub IsStopped : SeatView → KeptView → Option EndCause → Share → Type 0
IsStopped s hold None share = IsKept s hold share
IsStopped s hold (Some cause) share = IsOver s hold (Some cause) share

pub record Stopped (v : StreamView) (w : WireView) (s : SeatView) (told : Option EndCause) : Type 0 where
  pub share : Share
  pub is : IsStopped s v.hold told share
  pub part : List ℕ
  pub is_part : IsPrefix part (stream_text v.chunked v.head share.taken told)
  pub bytes : Sent w part

-- so many Takes gave pieces, or told an id behind which items are missing, and no end; other calls may stand between them
pub data Gives (hold now : ℕ) (s : SeatView) : ℕ → SeatView → Type 0 where
  begins : Gives hold now s 0 s
  gives : (count : ℕ) (t u : SeatView) (taken : Taken) → Gives hold now s count t → HasTaken t.pass u.pass hold now taken → taken.pieces ≢ [] → taken.ended ≡ None → Gives hold now s (count + 1) u
  asks : (count : ℕ) (t u : SeatView) (taken : Taken) (from : List ℕ) → Gives hold now s count t → HasTaken t.pass u.pass hold now taken → taken.recover ≡ Some from → taken.ended ≡ None → Gives hold now s (count + 1) u
  moves : (count : ℕ) (t u : SeatView) → Gives hold now s count t → MovedSeat t u → Gives hold now s count u

-- the last Take gave no piece, no position to recover from, and no end
pub record Idles (hold now : ℕ) (s t : SeatView) : Type 0 where
  pub before : SeatView
  pub moved : MovedSeat s before
  pub taken : Taken
  pub took : HasTaken before.pass t.pass hold now taken
  pub pieces : taken.pieces ≡ []
  pub recover : taken.recover ≡ None
  pub open_is : taken.ended ≡ None

-- the last hold of the session behind a turn of its stream
abbrev pub last_of : KeptView → Streamed → LastHold
last_of hold streamed.Gave = kept hold
last_of hold streamed.Idle = kept hold
last_of hold (streamed.Missing from) = kept hold
last_of hold streamed.Unsent = kept hold
last_of hold streamed.Busy = kept hold
last_of hold (streamed.Ended cause) = over hold (Some cause)
last_of hold streamed.Gone = kept hold
last_of hold streamed.Worn = kept hold
last_of hold streamed.NoMemory = kept hold
last_of hold (streamed.Unput None) = kept hold
last_of hold (streamed.Unput (Some cause)) = over hold (Some cause)

-- one Take gave pieces, and neither an id behind which items are missing nor an end; or it told such an id
pub record GaveOnce (hold now : ℕ) (s t : SeatView) : Type 0 where
  pub taken : Taken
  pub took : HasTaken s.pass t.pass hold now taken
  pub some : taken.pieces ≢ []
  pub recover : taken.recover ≡ None
  pub open_is : taken.ended ≡ None

pub record AskedOnce (hold now : ℕ) (from : List ℕ) (s t : SeatView) : Type 0 where
  pub taken : Taken
  pub took : HasTaken s.pass t.pass hold now taken
  pub recover : taken.recover ≡ Some from
  pub open_is : taken.ended ≡ None

-- what a turn answers, and why
abbrev pub StreamedAs : StreamView → WireView → WireView → SeatView → SeatView → ℕ → Streamed → Type 0
StreamedAs v w x s t now streamed.Gave = Streams v x t × GaveOnce v.hold.number now s t
StreamedAs v w x s t now streamed.Idle = Streams v x t × (x.rest ≡ []) × Idles v.hold.number now s t
StreamedAs v w x s t now (streamed.Missing from) = Streams v x t × AskedOnce v.hold.number now from s t
StreamedAs v w x s t now streamed.Unsent = Streams v x t × (x.rest ≢ []) × WriteWaited w x
StreamedAs v w x s t now streamed.Busy = Streams v x t × Busied s t
StreamedAs v w x s t now (streamed.Ended cause) = Finished v x t cause
StreamedAs v w x s t now streamed.Gone = Streams v x t
StreamedAs v w x s t now streamed.Worn = Streams v x t × IsWorn t
StreamedAs v w x s t now streamed.NoMemory = Streams v x t
StreamedAs v w x s t now (streamed.Unput told) = Stopped v x t told

-- the hub's word is one with which it serves, but at the end Worn
abbrev pub ServesAs : SeatView → SeatView → Streamed → Type 0
ServesAs s t streamed.Gave = IsServed s → IsServed t
ServesAs s t streamed.Idle = IsServed s → IsServed t
ServesAs s t (streamed.Missing from) = IsServed s → IsServed t
ServesAs s t streamed.Unsent = IsServed s → IsServed t
ServesAs s t streamed.Busy = IsServed s → IsServed t
ServesAs s t (streamed.Ended cause) = IsServed s → IsServed t
ServesAs s t streamed.Gone = IsServed s → IsServed t
ServesAs s t streamed.Worn = IsWorn t
ServesAs s t streamed.NoMemory = IsServed s → IsServed t
ServesAs s t (streamed.Unput told) = IsServed s → IsServed t

-- the link has no new fault, but where it failed
abbrev pub SoundAs : WireView → WireView → Streamed → Type 0
SoundAs w x streamed.Gave = x.link.faults ≡ w.link.faults
SoundAs w x streamed.Idle = x.link.faults ≡ w.link.faults
SoundAs w x (streamed.Missing from) = x.link.faults ≡ w.link.faults
SoundAs w x streamed.Unsent = x.link.faults ≡ w.link.faults
SoundAs w x streamed.Busy = x.link.faults ≡ w.link.faults
SoundAs w x (streamed.Ended cause) = x.link.faults ≡ w.link.faults
SoundAs w x streamed.Gone = Rose w.link.faults x.link.faults
SoundAs w x streamed.Worn = x.link.faults ≡ w.link.faults
SoundAs w x streamed.NoMemory = x.link.faults ≡ w.link.faults
SoundAs w x (streamed.Unput told) = x.link.faults ≡ w.link.faults

-- the ids behind which items are missing: one more where the turn tells it, and at most one at an end, or where not all that was given is put
abbrev pub MissesAs : List (List ℕ) → List (List ℕ) → Streamed → Type 0
MissesAs was is streamed.Gave = is ≡ was
MissesAs was is streamed.Idle = is ≡ was
MissesAs was is (streamed.Missing from) = is ≡ was ++ from ∷ []
MissesAs was is streamed.Unsent = is ≡ was
MissesAs was is streamed.Busy = is ≡ was
MissesAs was is (streamed.Ended cause) = (more : Option (List ℕ)) × (is ≡ was ++ option_to_list more)
MissesAs was is streamed.Gone = is ≡ was
MissesAs was is streamed.Worn = is ≡ was
MissesAs was is streamed.NoMemory = is ≡ was
MissesAs was is (streamed.Unput told) = (more : Option (List ℕ)) × (is ≡ was ++ option_to_list more)

-- while a page is asked for, no turn tells another such id
abbrev pub AsksAs : SeatView → SeatView → ℕ → Streamed → Type 0
AsksAs s t hold streamed.Gave = IsAsking s.pass hold → IsAsking t.pass hold
AsksAs s t hold streamed.Idle = IsAsking s.pass hold → IsAsking t.pass hold
AsksAs s t hold (streamed.Missing from) = (IsAsking s.pass hold → ⊥) × IsAsking t.pass hold
AsksAs s t hold streamed.Unsent = IsAsking s.pass hold → IsAsking t.pass hold
AsksAs s t hold streamed.Busy = IsAsking s.pass hold → IsAsking t.pass hold
AsksAs s t hold (streamed.Ended cause) = ⊤
AsksAs s t hold streamed.Gone = ⊤
AsksAs s t hold streamed.Worn = ⊤
AsksAs s t hold streamed.NoMemory = ⊤
AsksAs s t hold (streamed.Unput told) = ⊤

-- what a turn of a stream keeps, whatever it answers
pub record Goes (v u : StreamView) (w x : WireView) (s t : SeatView) : Type 0 where
  pub number : u.hold.number ≡ v.hold.number
  pub chunked : u.chunked ≡ v.chunked
  pub head : u.head ≡ v.head
  pub wire : MovedWire w x
  pub received : x.link.received ≡ w.link.received
  pub ends : x.link.ends ≡ w.link.ends
  pub seat : MovedSeat s t
  pub row : SeatRow s → SeatRow t
  pub entries : (paged : Bool) → OwnRow paged s → OwnRow paged t
  pub attaches : (specs : List HoldSpec) (refused : Option HoldSpec) → AttachRow s specs refused → AttachRow t specs refused
  pub pages : (pages : List Event) → PagesRow s pages → PagesRow t pages
  pub spec : spec_at t v.hold.number ≡ spec_at s v.hold.number

pub record Delivers (v u : StreamView) (w x : WireView) (s t : SeatView) (now : ℕ) (answer : Streamed) : Type 0 where
  pub goes : Goes v u w x s t
  pub holds : (reports : List HoldReport) → HoldsRow s reports (kept v.hold) → HoldsRow t reports (last_of u.hold answer)
  pub serves : ServesAs s t answer
  pub sound : SoundAs w x answer
  pub misses : MissesAs (recovers_at s v.hold.number) (recovers_at t v.hold.number) answer
  pub asks : AsksAs s t v.hold.number answer
  pub says : StreamedAs u w x s t now answer

-- one Take, and what became of it
pub record TurnsWith (v u : StreamView) (w x : WireView) (s t : SeatView) (now : ℕ) (answer : Given) : Type 0 where
  pub taken : Taken
  pub took : HasTaken s.pass t.pass v.hold.number now taken
  pub free : IsServed t
  pub sends : Sends w x v.chunked v.hold u.hold taken answer

abbrev pub TurnsTo : StreamView → StreamView → WireView → WireView → SeatView → SeatView → ℕ → Turned → Type 0
TurnsTo v u w x s t now (turned.Gave answer) = TurnsWith v u w x s t now answer
TurnsTo v u w x s t now turned.Busy = MetBusy s t × (u ≡ v) × (x ≡ w)
TurnsTo v u w x s t now turned.Worn = MetWorn s t × (u ≡ v) × (x ≡ w)
TurnsTo v u w x s t now turned.NoMemory = MetWant s t × (u ≡ v) × (x ≡ w)

pub record Turns (v u : StreamView) (w x : WireView) (s t : SeatView) (now : ℕ) (answer : Turned) : Type 0 where
  pub chunked : u.chunked ≡ v.chunked
  pub head : u.head ≡ v.head
  pub seat : MovedSeat s t
  pub row : SeatRow s → SeatRow t
  pub says : TurnsTo v u w x s t now answer

-- what it comes to, where all that waited before was sent
abbrev pub answered_by : Turned → Streamed
answered_by (turned.Gave given.Pieces) = streamed.Gave
answered_by (turned.Gave given.Nothing) = streamed.Idle
answered_by (turned.Gave (given.Missing from)) = streamed.Missing from
answered_by (turned.Gave (given.End cause)) = streamed.Ended cause
answered_by (turned.Gave (given.Unput told)) = streamed.Unput told
answered_by turned.Busy = streamed.Busy
answered_by turned.Worn = streamed.Worn
answered_by turned.NoMemory = streamed.NoMemory

-- all that waited is sent, and the stream goes on
pub record Flushed (v : StreamView) (w x : WireView) (s : SeatView) : Type 0 where
  pub wire : MovedWire w x
  pub received : x.link.received ≡ w.link.received
  pub ends : x.link.ends ≡ w.link.ends
  pub sound : x.link.faults ≡ w.link.faults
  pub empty : x.rest ≡ []
  pub streams : Streams v x s
