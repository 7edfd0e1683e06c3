-- A long poll that waits for its answer: what it keeps true, and what a poll of it answers.
use Rattle.std.specs.Prelude.{ℕ, ◌≡◌, ◌+◌, ◌<◌, ◌≤◌, ◌⊎◌, Bool, true, nat_lt, List, [], ◌∷◌, Option, Some, None, is_some, ⊤}
use Rattle.gp_outside.specs.Counts.{grown}
use Rattle.gp_plain.specs.declared.event.HoldSpec.{HoldSpec}
use Rattle.gp_plain.specs.declared.event.HoldSpec.TheVariants.{Response}
use Rattle.gp_plain.specs.declared.item.ResponsePart.{ResponsePart}
use Rattle.gp_plain.specs.declared.reply.EndCause.{EndCause}
use Rattle.gp_plain.specs.declared.reply.EndCause.TheVariants.{Closed, Detached, Gap, Unrecovered, Overflow, Answered, Retry, TimedOut}
use Rattle.gp_plain.specs.declared.reply.HoldReport.{HoldReport}
use Rattle.gp_plain.specs.Others.{Share}
use Rattle.gp_plain.specs.Kinds.{may_end}
use Rattle.gp_intake.specs.Polls.{IsGone}
use Rattle.gp_session.specs.Seats.{SeatView, MovedSeat, SeatRow, IsServed, IsWorn, Busied}
use Rattle.gp_session.specs.Wires.{WireView, MovedWire, Sent}
use Rattle.gp_session_hold.specs.Rows.{KeptView, IsKept, IsOver, HoldsRow, EntriesRow, AttachRow, LastHold, kept, over}
use Rattle.gp_session_hold.specs.Puts.{PutsBehind}
use Rattle.gp_session_hold.specs.Streams.{Gives, Idles}
use Rattle.gp_session_hold.specs.Polls.{StreamPends}
use Rattle.gp_session_wait.specs.Answers.{answer_of, answer_text}
use Rattle.gp_session_wait.specs.Seeks.{Polls, TakesAt, IsAnswer, IsLast}
use Rattle.gp_session_wait.specs.Views.{PollView, WaitView}
use Rattle.gp_session_wait.specs.declared.answer.Answer.{Answer}
use Rattle.gp_session_wait.specs.declared.seeking.End.{End}
use Rattle.gp_session_wait.specs.declared.seeking.End.TheVariants as end
use Rattle.gp_session_wait.specs.declared.wait.Repeat.{Repeat}
use Rattle.gp_session_wait.specs.declared.wait.Polled.{Polled}
use Rattle.gp_session_wait.specs.declared.wait.Polled.TheVariants as polled

-- how often a request is repeated at most
abbrev pub most_repeats : ℕ
most_repeats = 8

abbrev pub poll_of : WaitView → PollView
poll_of v = record { hold = v.hold; spec = v.spec }

-- the hold of a repeated request is told so
abbrev pub is_again : ℕ → Bool
is_again repeats = nat_lt 0 repeats

-- a repeat tells the last item of the only channel of a hold with a previous id
abbrev pub channel_of : List (List ℕ) → Option (List ℕ) → Option (List ℕ)
channel_of [] prev = None
channel_of (channel ∷ channels) None = None
channel_of (channel ∷ channels) (Some prev) = Some channel

-- what it was attached with, and what a repeat of it tells
pub record HasForm (v : WaitView) : Type 0 where
  pub channels : List (List ℕ)
  pub prev : Option (List ℕ)
  pub deadline : ℕ
  pub spec_is : v.spec ≡ Response channels prev deadline (is_again v.repeats)
  pub channel_is : v.channel ≡ channel_of channels prev
  pub has : is_some v.channel ≡ is_some prev
  pub few : v.repeats ≤ most_repeats

-- it waits: its hold is kept, and nothing is sent
pub record Waits (v : WaitView) (w : WireView) (s : SeatView) : Type 0 where
  pub polls : Polls (poll_of v) s
  pub form : HasForm v
  pub bytes : Sent w []

-- which answer is sent, by the end that a Take told: that of the item that came; and the origin's own at the deadline, and where the
-- request was repeated as often as may be. No other end has an answer
abbrev pub IsChosen : WaitView → EndCause → Share → Answer → Type 0
IsChosen v Answered share answer = (part : ResponsePart) × IsAnswer share.taken part × (answer ≡ answer_of part)
IsChosen v TimedOut share answer = answer ≡ v.own
IsChosen v Retry share answer = (v.repeats ≡ most_repeats) × (answer ≡ v.own)
IsChosen v Overflow share answer = ⊥
IsChosen v Closed share answer = ⊥
IsChosen v Detached share answer = ⊥
IsChosen v Gap share answer = ⊥
IsChosen v Unrecovered share answer = ⊥

-- a Take told this end of the hold
pub record HasEnded (v : WaitView) (t : SeatView) (hold : KeptView) (cause : EndCause) (share : Share) : Type 0 where
  pub is : IsOver t hold (Some cause) share
  pub spec_is : share.spec ≡ v.spec
  pub cause_is : may_end v.spec cause ≡ true

-- the answer is sent or waits, all of it
pub record IsAnswered (v : WaitView) (x : WireView) (t : SeatView) (hold : KeptView) (cause : EndCause) (code : ℕ) : Type 0 where
  pub share : Share
  pub ended : HasEnded v t hold cause share
  pub answer : Answer
  pub chosen : IsChosen v cause share answer
  pub code_is : code ≡ answer.code
  pub bytes : Sent x (answer_text answer)

-- there was an answer, but no memory for it, and nothing is sent
pub record IsUnput (v : WaitView) (x : WireView) (t : SeatView) (hold : KeptView) (cause : EndCause) : Type 0 where
  pub share : Share
  pub ended : HasEnded v t hold cause share
  pub answer : Answer
  pub chosen : IsChosen v cause share answer
  pub bytes : Sent x []

-- a repeat tells the channel and the id behind which items were missed
pub record IsRepeatOf (v : WaitView) (id : List ℕ) (r : Repeat) : Type 0 where
  pub hold : r.hold ≡ v.hold
  pub channel : v.channel ≡ Some r.last.channel
  pub id_is : r.last.id ≡ id
  pub count : r.count ≡ v.repeats + 1

-- the request is to be repeated, and nothing is sent
pub record IsRetried (v : WaitView) (x : WireView) (t : SeatView) (r : Repeat) : Type 0 where
  pub share : Share
  pub ended : HasEnded v t r.hold Retry share
  pub few : v.repeats < most_repeats
  pub channel : v.channel ≡ Some r.last.channel
  pub id_is : IsLast share.recovers r.last.id
  pub count : r.count ≡ v.repeats + 1
  pub bytes : Sent x []

pub record IsOverflowed (v : WaitView) (x : WireView) (t : SeatView) (hold : KeptView) : Type 0 where
  pub share : Share
  pub ended : HasEnded v t hold Overflow share
  pub bytes : Sent x []

-- the hold is still kept, and nothing is sent
pub record IsStillKept (v : WaitView) (x : WireView) (t : SeatView) (hold : KeptView) : Type 0 where
  pub share : Share
  pub is : IsKept t hold share
  pub spec_is : share.spec ≡ v.spec
  pub bytes : Sent x []

-- the same long poll, of which more may be counted
pub record IsSameWait (v u : WaitView) : Type 0 where
  pub number : u.hold.number ≡ v.hold.number
  pub spec : u.spec ≡ v.spec
  pub own : u.own ≡ v.own
  pub channel : u.channel ≡ v.channel
  pub repeats : u.repeats ≡ v.repeats

-- the hold that an answer has
abbrev pub hold_of : Polled → KeptView
hold_of (polled.Waits u) = u.hold
hold_of (polled.Answered hold cause code) = hold
hold_of (polled.Retry r) = r.hold
hold_of (polled.Overflow hold) = hold
hold_of (polled.Gone hold) = hold
hold_of (polled.Worn hold) = hold
hold_of (polled.NoMemory hold) = hold
hold_of (polled.Unput hold cause) = hold

-- the last hold of the session behind a poll
abbrev pub last_polled : Polled → LastHold
last_polled (polled.Waits u) = kept u.hold
last_polled (polled.Answered hold cause code) = over hold (Some cause)
last_polled (polled.Retry r) = over r.hold (Some Retry)
last_polled (polled.Overflow hold) = over hold (Some Overflow)
last_polled (polled.Gone hold) = kept hold
last_polled (polled.Worn hold) = kept hold
last_polled (polled.NoMemory hold) = kept hold
last_polled (polled.Unput hold cause) = over hold (Some cause)

-- the hub's word is one with which it serves, but at the end Worn
abbrev pub PolledServes : SeatView → SeatView → Polled → Type 0
PolledServes s t (polled.Waits u) = IsServed s → IsServed t
PolledServes s t (polled.Answered hold cause code) = IsServed s → IsServed t
PolledServes s t (polled.Retry r) = IsServed s → IsServed t
PolledServes s t (polled.Overflow hold) = IsServed s → IsServed t
PolledServes s t (polled.Gone hold) = IsServed s → IsServed t
PolledServes s t (polled.Worn hold) = IsWorn t
PolledServes s t (polled.NoMemory hold) = IsServed s → IsServed t
PolledServes s t (polled.Unput hold cause) = IsServed s → IsServed t

-- what an answer says, where it waits so, or is gone so
abbrev pub SaysOf : WaitView → WireView → SeatView → (WaitView → Type 0) → Type 0 → Polled → Type 0
SaysOf v x t Waiting Gone (polled.Waits u) = Waiting u
SaysOf v x t Waiting Gone (polled.Answered hold cause code) = IsAnswered v x t hold cause code
SaysOf v x t Waiting Gone (polled.Retry r) = IsRetried v x t r
SaysOf v x t Waiting Gone (polled.Overflow hold) = IsOverflowed v x t hold
SaysOf v x t Waiting Gone (polled.Gone hold) = IsStillKept v x t hold × Gone
SaysOf v x t Waiting Gone (polled.Worn hold) = IsStillKept v x t hold
SaysOf v x t Waiting Gone (polled.NoMemory hold) = IsStillKept v x t hold
SaysOf v x t Waiting Gone (polled.Unput hold cause) = IsUnput v x t hold cause

-- a poll that waits has a cause for each activity that is open
pub record WaitsOn (v : WaitView) (w x : WireView) (s t : SeatView) (now : ℕ) (heard : List ℕ) (u : WaitView) : Type 0 where
  pub same : IsSameWait v u
  pub waits : Waits u x t
  pub pends : StreamPends v.hold.number now w x s t heard

-- what a poll keeps, what it heard, and what it answers
pub record PollsWait (v : WaitView) (w x : WireView) (s t : SeatView) (now : ℕ) (answer : Polled) : Type 0 where
  pub number : (hold_of answer).number ≡ v.hold.number
  pub wire : MovedWire w x
  pub heard : List ℕ
  pub received : x.link.received ≡ grown w.link.received heard
  pub times : TakesAt v.hold.number now s t
  pub seat : MovedSeat s t
  pub row : SeatRow s → SeatRow t
  pub entries : EntriesRow s → EntriesRow t
  pub attaches : (specs : List HoldSpec) (refused : Option HoldSpec) → AttachRow s specs refused → AttachRow t specs refused
  pub holds : (reports : List HoldReport) → HoldsRow s reports (kept v.hold) → HoldsRow t reports (last_polled answer)
  pub serves : PolledServes s t answer
  pub says : SaysOf v x t (WaitsOn v w x s t now heard) (IsGone w.link x.link) answer

-- the moves of a poll

-- all of an answer is put, or nothing
abbrev pub AnswersAs : WireView → WireView → KeptView → EndCause → Answer → Polled → Type 0
AnswersAs w x hold cause answer result =
    ((result ≡ polled.Answered hold cause answer.code) × PutsBehind w x (answer_text answer)) ⊎ ((result ≡ polled.Unput hold cause) × PutsBehind w x [])

abbrev pub RepeatsAs : WaitView → List ℕ → Polled → Type 0
RepeatsAs v id result = (r : Repeat) × (result ≡ polled.Retry r) × IsRepeatOf v id r

-- the request is repeated, or it was repeated as often as may be
abbrev pub RetriesTo : WaitView → WireView → WireView → List ℕ → Polled → Type 0
RetriesTo v w x id result =
    ((v.repeats < most_repeats) × (x ≡ w) × RepeatsAs v id result) ⊎ ((v.repeats ≡ most_repeats) × AnswersAs w x v.hold Retry v.own result)

-- a retry has a channel to tell of
abbrev pub CanEndWith : WaitView → End → Type 0
CanEndWith v (end.Answered part) = ⊤
CanEndWith v end.TimedOut = ⊤
CanEndWith v (end.Retry id) = (v.repeats ≤ most_repeats) × (is_some v.channel ≡ true)
CanEndWith v end.Overflow = ⊤

abbrev pub EndsTo : WaitView → WireView → WireView → End → Polled → Type 0
EndsTo v w x (end.Answered part) result = AnswersAs w x v.hold Answered (answer_of part) result
EndsTo v w x end.TimedOut result = AnswersAs w x v.hold TimedOut v.own result
EndsTo v w x (end.Retry id) result = RetriesTo v w x id result
EndsTo v w x end.Overflow result = (result ≡ polled.Overflow v.hold) × (x ≡ w)

-- why Takes came to nothing
pub data Pauses (number now : ℕ) (s t : SeatView) : Type 0 where
  busy : Busied s t → Pauses number now s t
  gave : Gives number now s 16 t → Pauses number now s t
  idle : Idles number now s t → Pauses number now s t

pub record Looking (v : WaitView) (x : WireView) (s t : SeatView) (now : ℕ) (u : WaitView) : Type 0 where
  pub same : IsSameWait v u
  pub waits : Waits u x t
  pub pauses : Pauses v.hold.number now s t

-- the Takes of a poll, and what became of them
pub record Looks (v : WaitView) (w x : WireView) (s t : SeatView) (now : ℕ) (answer : Polled) : Type 0 where
  pub number : (hold_of answer).number ≡ v.hold.number
  pub more : List ℕ
  pub puts : PutsBehind w x more
  pub times : TakesAt v.hold.number now s t
  pub seat : MovedSeat s t
  pub row : SeatRow s → SeatRow t
  pub entries : EntriesRow s → EntriesRow t
  pub attaches : (specs : List HoldSpec) (refused : Option HoldSpec) → AttachRow s specs refused → AttachRow t specs refused
  pub holds : (reports : List HoldReport) → HoldsRow s reports (kept v.hold) → HoldsRow t reports (last_polled answer)
  pub serves : PolledServes s t answer
  pub says : SaysOf v x t (Looking v x s t now) ⊥ answer
