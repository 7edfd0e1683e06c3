-- What a session says of its ends once its origin's answer asks for a hold, where a move leads, why it waits, and how it ends. All is said
-- since the session began.
use Rattle.std.specs.Prelude.{◌≡◌, ◌≢◌, ℕ, ◌+◌, ◌<◌, ◌⊎◌, Bool, true, false, List, [], length, All, Option, Some, None, ⊤}
use mathlib.Core.List.{IsPrefix}
use Rattle.gp_plain.specs.Fit.{fits}
use Rattle.gp_plain.specs.Others.{Share}
use Rattle.gp_plain.specs.declared.event.Event.TheVariants.{Attach}
use Rattle.gp_plain.specs.declared.event.HoldSpec.{HoldSpec}
use Rattle.gp_plain.specs.declared.reply.EndCause.{EndCause}
use Rattle.gp_outside.specs.Counts.{grown}
use Rattle.gp_hub.specs.declared.outcome.SessionEnd.{SessionEnd}
use Rattle.gp_hub.specs.declared.outcome.SessionEnd.TheVariants.{Sent as WasSent, Cut, ClientGone, Worn, NoMemory}
use Rattle.gp_hub.specs.declared.outcome.Why.{Why}
use Rattle.gp_hub.specs.declared.outcome.Why.TheVariants as why
use Rattle.gp_again.specs.Views.{AgainView}
use Rattle.gp_session.specs.Causes.{WriteWaited, HasFailed, HasEnded}
use Rattle.gp_session.specs.Lines.{Aim, LineView, MovedLine}
use Rattle.gp_session.specs.Seats.{SeatView, MovedSeat, SeatRow, IsServed, IsWorn, Busied}
use Rattle.gp_session.specs.Wires.{WireView, MovedWire, BytesRow, Sent, exactly}
use Rattle.gp_session_hold.specs.Leaves.{stream_end}
use Rattle.gp_session_hold.specs.Polls.{StreamPends}
use Rattle.gp_session_hold.specs.Rows.{KeptView, IsKept, IsOver, IsReleased, none, kept, over, holds_of, reports_of, HoldsRow, OwnRow, PagedRow, PagesRow, DetachedRow, stream_text}
use Rattle.gp_session_hold.specs.Streams.{StreamView, Streams, Finished, Stopped}
use Rattle.gp_session_recover.specs.Polls.{TalkWaitedAt}
use Rattle.gp_session_recover.specs.Quests.{Quest}
use Rattle.gp_session_recover.specs.Polls.{RecoversOn}
use Rattle.gp_session_recover.specs.Rows.{Closed, RecoveringView, Recovers, sides}
use Rattle.gp_session_recover.specs.declared.talk.Talk.TheVariants.{None as NoTalk}
use Rattle.gp_session_wait.specs.Waits.{most_repeats}
use Rattle.gp_session_http.specs.declared.asking.Asking.{Asking as AskingStage}
use Rattle.gp_session_http.specs.declared.attaching.Attaching.{Attaching as AttachingStage}
use Rattle.gp_session_http.specs.declared.declining.Declining.{Declining as DecliningStage}
use Rattle.gp_session_http.specs.declared.streaming.Streaming.{Streaming as StreamingStage}
use Rattle.gp_session_http.specs.declared.closing.Closing.{Closing as ClosingStage}
use Rattle.gp_session_http.specs.declared.leaving.Leaving.{Leaving as LeavingStage}
use Rattle.gp_session_http.specs.declared.leaving.Parting.{Parting}
use Rattle.gp_session_http.specs.declared.leaving.Parting.TheVariants.{Gone, Wanting}
use Rattle.gp_session_http.specs.declared.grant.Grant.{Grant}
use Rattle.gp_session_http.specs.declared.waiting.Waiting.{Waiting as WaitingStage}
use Rattle.gp_session_http.specs.declared.held.Held.{Held}
use Rattle.gp_session_http.specs.declared.held.Held.TheVariants.{Attaching, Declining, Streaming, Closing, Leaving, Beginning, Denying, Waiting, Answering, Departing}
use Rattle.gp_session_http.specs.declared.held.HeldNext.{HeldNext}
use Rattle.gp_session_http.specs.declared.held.HeldNext.TheVariants.{Go, Wait, Again, End}
use Rattle.gp_session_http.specs.declared.poll.Poll.{Poll}
use Rattle.gp_session_http.specs.declared.stage.Ended.{Ended}
use Rattle.gp_session_http.specs.declared.stage.Stage.TheVariants.{Asking}
use Rattle.gp_session_http.specs.Grants.{IsGrant, AsksFor, source_of, stream_head}
use Rattle.gp_session_http.specs.Turns.{Turn}
use Rattle.gp_session_http.specs.Trace.{Told}
use Rattle.gp_session_http.specs.Heard.{Heard, IsAlone, IsUnattached, aims_with, IsDeclined, HasAttached, IsLastHold, full_text, end_of}
use Rattle.gp_session_http.specs.LongPolls.{Polling, PollEnds, BeginningTold, DenyingTold, WaitingTold, AnsweringTold, DepartingTold}
use Rattle.gp_session_http.specs.Views.{LiveView, Goes}

-- Rows that all stages of a stream have: the answer asks for it
pub record Granting (l : LiveView) (g : Grant) : Type 0 where
  pub heard : Heard l g.asked.value g.exchange.value g.answer.value
  pub is : IsGrant g

-- the stream of a hold, with the answer's framing and head
abbrev pub stream_of : Grant → KeptView → StreamView
stream_of g hold = record { hold = hold; chunked = g.chunked; head = stream_head g }

-- Row: the talks. There were those of the turns before and of the answer
abbrev pub aims_for : (l : LiveView) (g : Grant) → Granting l g → List Aim
aims_for l g rows = aims_with rows.heard.turns g.exchange.value rows.heard.content

abbrev pub Alone : (l : LiveView) (g : Grant) → Granting l g → Type 0
Alone l g rows = IsAlone l g.asked.value g.exchange.value g.answer.value rows.heard

-- Rows: the talks and the pages. Behind those, the stream asks for what it missed
pub record Recalls (l : LiveView) (g : Grant) (rows : Granting l g) (v : RecoveringView) : Type 0 where
  pub spec : HoldSpec
  pub spec_is : AsksFor g spec
  pub qs : List Quest
  pub row : Recovers l.charter.signer (source_of g spec) (aims_for l g rows) qs (sides v l.wire l.line l.seat)

-- or it has asked, and all of its talks are over
pub record Recalled (l : LiveView) (g : Grant) (rows : Granting l g) (hold : ℕ) : Type 0 where
  pub spec : HoldSpec
  pub spec_is : AsksFor g spec
  pub qs : List Quest
  pub row : Closed l.charter.signer (source_of g spec) (aims_for l g rows) qs hold l.line l.seat

pub record AttachingTold (l : LiveView) (s : AttachingStage) : Type 0 where
  pub rows : Granting l s.grant
  pub alone : Alone l s.grant rows
  pub is : IsUnattached l rows.heard.turns
  pub served : IsServed l.seat
  pub spec_is : AsksFor s.grant s.spec
  pub fit : fits (Attach s.spec) ≡ true
  pub head : s.head ≡ stream_head s.grant
  pub again : s.again ≡ source_of s.grant s.spec

pub record DecliningTold (l : LiveView) (s : DecliningStage) : Type 0 where
  pub rows : Granting l s.grant
  pub alone : Alone l s.grant rows
  pub is : IsDeclined l rows.heard.turns (AsksFor s.grant)
  pub served : IsServed l.seat
  pub bytes : BytesRow l.wire (exactly full_text)

-- a hold is kept, and there is room for its report
pub record Keeps (l : LiveView) (g : Grant) (hold : KeptView) : Type 0 where
  pub rows : Granting l g
  pub attached : HasAttached l rows.heard.turns (AsksFor g)
  pub entries : PagedRow l.seat
  pub holds : HoldsRow l.seat l.reports.items (kept hold)
  pub room : 0 < l.reports.spare

-- all that was taken of it is sent or waits
pub record StreamingTold (l : LiveView) (s : StreamingStage) : Type 0 where
  pub keeps : Keeps l s.grant s.recovering.stream.hold
  pub served : IsServed l.seat
  pub framed : s.recovering.stream ≡ stream_of s.grant s.recovering.stream.hold
  pub streams : Streams s.recovering.stream l.wire l.seat
  pub recalls : Recalls l s.grant keeps.rows s.recovering

-- it is let go, since the client is gone, or memory is wanting: then a beginning of what was taken is sent or waits
abbrev pub LeavesAs : Parting → LiveView → StreamView → Type 0
LeavesAs Gone l v = Streams v l.wire l.seat × (HasFailed l.wire ⊎ HasEnded l.wire)
LeavesAs Wanting l v = Stopped v l.wire l.seat None

pub record LeavingTold (l : LiveView) (s : LeavingStage) : Type 0 where
  pub keeps : Keeps l s.grant s.hold
  pub served : IsServed l.seat
  pub leaves : LeavesAs s.parting l (stream_of s.grant s.hold)
  pub recalled : Recalled l s.grant keeps.rows s.hold.number

-- its end was told, and it is reported
pub record IsClosed (l : LiveView) (turns : List Turn) (g : Grant) (hold : KeptView) (cause : EndCause) : Type 0 where
  pub attached : HasAttached l turns (AsksFor g)
  pub own : IsLastHold l hold
  pub entries : PagedRow l.seat
  pub holds : HoldsRow l.seat l.reports.items none
  pub finished : Finished (stream_of g hold) l.wire l.seat cause

pub record ClosingTold (l : LiveView) (s : ClosingStage) : Type 0 where
  pub rows : Granting l s.grant
  pub served : IsServed l.seat
  pub is : IsClosed l rows.heard.turns s.grant s.hold.value s.cause
  pub recalled : Recalled l s.grant rows s.hold.value.number

abbrev pub HeldTold : LiveView → Held → Type 0
HeldTold l (Attaching s) = AttachingTold l s
HeldTold l (Declining s) = DecliningTold l s
HeldTold l (Streaming s) = StreamingTold l s
HeldTold l (Closing s) = ClosingTold l s
HeldTold l (Leaving s) = LeavingTold l s
HeldTold l (Beginning s) = BeginningTold l s
HeldTold l (Denying s) = DenyingTold l s
HeldTold l (Waiting s) = WaitingTold l s
HeldTold l (Answering s) = AnsweringTold l s
HeldTold l (Departing s) = DepartingTold l s

-- how many moves that go on may follow, at the most
abbrev pub held_rank : Held → ℕ
held_rank (Attaching s) = 3
held_rank (Declining s) = 1
held_rank (Streaming s) = 2
held_rank (Closing s) = 1
held_rank (Leaving s) = 1
held_rank (Beginning s) = 5
held_rank (Denying s) = 1
held_rank (Waiting s) = 4
held_rank (Answering s) = 1
held_rank (Departing s) = 1

-- bytes wait for the client, and its link took no more
pub record Unsent (v w : LiveView) : Type 0 where
  pub some : w.wire.rest ≢ []
  pub waited : WriteWaited v.wire w.wire

-- in its last part this poll heard the client, and delivered what the hold gave, at the poll's moment
pub record StreamWaited (v w : LiveView) (number : ℕ) : Type 0 where
  pub wire : WireView
  pub seat : SeatView
  pub moved_wire : MovedWire v.wire wire
  pub moved_seat : MovedSeat v.seat seat
  pub now : ℕ
  pub moment : w.watch.moment ≡ Some now
  pub last : w.watch.clock.last ≡ now
  pub heard : List ℕ
  pub received : w.wire.link.received ≡ grown wire.link.received heard
  pub pends : StreamPends number now wire w.wire seat w.seat heard

-- and an open talk with the origin that is asked for a page waits, unless another call holds the hub's turn
pub record RecoveringWaited (v w : LiveView) (s : StreamingStage) : Type 0 where
  pub waited : StreamWaited v w s.recovering.stream.hold.number
  pub line : LineView
  pub moved_line : MovedLine v.line line
  pub talk : Busied waited.seat w.seat ⊎ TalkWaitedAt s.recovering.talk line w.line

-- why a session waits
abbrev pub HeldPends : LiveView → LiveView → Held → Type 0
HeldPends v w (Attaching s) = Busied v.seat w.seat
HeldPends v w (Declining s) = Unsent v w
HeldPends v w (Streaming s) = RecoveringWaited v w s
HeldPends v w (Closing s) = Unsent v w
HeldPends v w (Leaving s) = Busied v.seat w.seat
HeldPends v w (Beginning s) = Busied v.seat w.seat
HeldPends v w (Denying s) = Unsent v w
HeldPends v w (Waiting s) = StreamWaited v w s.wait.hold.number
HeldPends v w (Answering s) = Unsent v w
HeldPends v w (Departing s) = Busied v.seat w.seat

-- a Detach is made only at the end, where the client is gone or memory is wanting; a stream may bring pages
abbrev pub EntriesAtEnd : Bool → SessionEnd → SeatView → Type 0
EntriesAtEnd paged (WasSent code) s = OwnRow paged s
EntriesAtEnd paged (Cut cause) s = OwnRow paged s
EntriesAtEnd paged ClientGone s = OwnRow paged s ⊎ ((hold : ℕ) × DetachedRow paged s hold)
EntriesAtEnd paged Worn s = OwnRow paged s
EntriesAtEnd paged NoMemory s = OwnRow paged s ⊎ ((hold : ℕ) × DetachedRow paged s hold)

-- a hold was let go of which no end was told, with all that was taken of it sent or waiting, or a beginning where memory was wanting
pub record LeftWhole (l : LiveView) (g : Grant) (hold : KeptView) : Type 0 where
  pub share : Share
  pub is : IsOver l.seat hold None share
  pub bytes : Sent l.wire (stream_text g.chunked (stream_head g) share.taken None)
  pub gone : HasFailed l.wire ⊎ HasEnded l.wire

pub record LeftInPart (l : LiveView) (g : Grant) (hold : KeptView) : Type 0 where
  pub share : Share
  pub is : IsOver l.seat hold None share
  pub part : List ℕ
  pub is_part : IsPrefix part (stream_text g.chunked (stream_head g) share.taken None)
  pub bytes : Sent l.wire part

abbrev pub LeftAs : Parting → LiveView → Grant → KeptView → Type 0
LeftAs Gone l g hold = LeftWhole l g hold
LeftAs Wanting l g hold = LeftInPart l g hold

-- an end of a hold was told, and memory was wanting for what the last Take gave
pub record IsUnput (l : LiveView) (turns : List Turn) (g : Grant) (hold : KeptView) (cause : EndCause) : Type 0 where
  pub attached : HasAttached l turns (AsksFor g)
  pub own : IsLastHold l hold
  pub stopped : Stopped (stream_of g hold) l.wire l.seat (Some cause)

-- why a session ends so: no hold was made, and its refusal was sent, or the client is gone, or memory is wanting; nothing was attached,
-- for want of memory or since the hub serves no more; an end of the hold was told, and all was sent, or the client is gone, or memory was
-- wanting for what the last Take gave; the hub serves no more, and the hold stays; or the hold was let go
pub data HeldEnds (l : LiveView) (turns : List Turn) (g : Grant) : SessionEnd → Why → Type 0 where
  full_sent : IsDeclined l turns (AsksFor g) → BytesRow l.wire (exactly full_text) → l.wire.rest ≡ [] → HeldEnds l turns g (WasSent 503) why.Full
  full_gone : IsDeclined l turns (AsksFor g) → BytesRow l.wire (exactly full_text) → HasFailed l.wire → HeldEnds l turns g ClientGone why.Full
  full_wanting : IsDeclined l turns (AsksFor g) → BytesRow l.wire (exactly []) → HeldEnds l turns g NoMemory why.Full
  unattached_wanting : IsUnattached l turns → HeldEnds l turns g NoMemory why.Nothing
  unattached_worn : IsUnattached l turns → IsWorn l.seat → HeldEnds l turns g Worn why.Nothing
  told_sent : (hold : KeptView) (cause : EndCause) → IsClosed l turns g hold cause → l.wire.rest ≡ [] → HeldEnds l turns g (stream_end g.code cause) why.Nothing
  told_gone : (hold : KeptView) (cause : EndCause) → IsClosed l turns g hold cause → HasFailed l.wire → HeldEnds l turns g ClientGone why.Nothing
  told_wanting : (hold : KeptView) (cause : EndCause) → IsUnput l turns g hold cause → HeldEnds l turns g NoMemory why.Nothing
  kept_worn : (hold : KeptView) → HasAttached l turns (AsksFor g) → IsLastHold l hold → Streams (stream_of g hold) l.wire l.seat → IsWorn l.seat → HeldEnds l turns g Worn why.Nothing
  leaving_worn : (hold : KeptView) (parting : Parting) → HasAttached l turns (AsksFor g) → IsLastHold l hold → LeavesAs parting l (stream_of g hold) → IsWorn l.seat → HeldEnds l turns g Worn why.Nothing
  let_go : (hold : KeptView) (parting : Parting) → HasAttached l turns (AsksFor g) → IsLastHold l hold → DetachedRow true l.seat hold.number → LeftAs parting l g hold → HeldEnds l turns g (end_of parting) why.Nothing

-- what was asked of origins: nothing behind the answer, and no page was brought; or what the last hold missed
pub data HasRecalled (l : LiveView) (g : Grant) (rows : Granting l g) : Type 0 where
  alone : Alone l g rows → PagesRow l.seat [] → HasRecalled l g rows
  recalled : (hold : KeptView) → IsLastHold l hold → Recalled l g rows hold.number → HasRecalled l g rows

-- the answer asked for a stream, or for a long poll
pub record StreamFinishes (l : LiveView) (ended : Ended) : Type 0 where
  pub grant : Grant
  pub rows : Granting l grant
  pub entries : EntriesAtEnd true ended.end l.seat
  pub talks : HasRecalled l grant rows
  pub says : HeldEnds l rows.heard.turns grant ended.end ended.why

pub record PollFinishes (l : LiveView) (ended : Ended) : Type 0 where
  pub poll : Poll
  pub rows : Polling l poll
  pub entries : EntriesAtEnd false ended.end l.seat
  pub says : PollEnds l rows.heard.turns poll ended.end ended.why

-- the rows at the end: each hold of the session's was reported, and none is kept unless the hub serves no more
pub record HeldFinishes (l : LiveView) (ended : Ended) : Type 0 where
  pub seat : SeatRow l.seat
  pub reported : l.reports.items ≡ reports_of (holds_of l.seat)
  pub released : ended.end ≢ Worn → All IsReleased (holds_of l.seat)
  pub by : StreamFinishes l ended ⊎ PollFinishes l ended

-- a stream that has asked for nothing yet
pub record IsFreshStream (l : LiveView) (s : StreamingStage) : Type 0 where
  pub untalked : s.recovering.talk ≡ NoTalk
  pub source : Option AgainView
  pub aims : List Aim
  pub row : Recovers l.charter.signer source aims [] (sides s.recovering l.wire l.line l.seat)

-- a stream whose hold is attached has asked for nothing yet; the deadline of a long poll whose hold is attached is by the poll's moment, and
-- the hold isn't reported yet
abbrev pub GoesTo : LiveView → LiveView → Held → Type 0
GoesTo v w (Attaching s) = ⊤
GoesTo v w (Declining s) = ⊤
GoesTo v w (Streaming s) = IsFreshStream w s
GoesTo v w (Closing s) = ⊤
GoesTo v w (Leaving s) = ⊤
GoesTo v w (Beginning s) = ⊥
GoesTo v w (Denying s) = ⊤
GoesTo v w (Waiting s) = (w.reports.items ≡ v.reports.items) × (w.watch.moment ≡ Some s.since.value)
GoesTo v w (Answering s) = ⊤
GoesTo v w (Departing s) = ⊤

-- the origin is asked again, at most 8 times, with a token of the poll's moment, and the hold that has ended is reported
pub record AsksAgain (v w : LiveView) (s : AskingStage) : Type 0 where
  pub told : Told w (Asking s)
  pub timed : w.watch.moment ≡ Some s.asked.moment
  pub count : length w.reports.items ≡ length v.reports.items + 1
  pub few : length v.reports.items < most_repeats

-- where a move leads
abbrev pub HeldLeadsTo : LiveView → LiveView → ℕ → HeldNext → Type 0
HeldLeadsTo v w n (Go stage) = HeldTold w stage × (held_rank stage < n) × GoesTo v w stage
HeldLeadsTo v w n (Wait stage) = HeldTold w stage × HeldPends v w stage × (held_rank stage ≡ n)
HeldLeadsTo v w n (Again stage) = AsksAgain v w stage × (3 < n)
HeldLeadsTo v w n (End ended) = HeldFinishes w ended

pub record HeldLeads (v w : LiveView) (n : ℕ) (next : HeldNext) : Type 0 where
  pub moved : Goes v w
  pub to : HeldLeadsTo v w n next

-- a move that the poll doesn't wait behind
abbrev pub IsOnward : HeldNext → Type 0
IsOnward (Go next) = ⊤
IsOnward (Wait next) = ⊥
IsOnward (Again next) = ⊤
IsOnward (End ended) = ⊤

-- a poll of a stream begins talks by its own moment alone
pub record StreamTimed (v w : LiveView) (s next : StreamingStage) : Type 0 where
  pub now : ℕ
  pub moment : w.watch.moment ≡ Some now
  pub recovers : (source : Option AgainView) (aims : List Aim) (qs : List Quest) → Recovers v.charter.signer source aims qs (sides s.recovering v.wire v.line v.seat)
      → RecoversOn v.charter.signer source aims qs now (sides s.recovering v.wire v.line v.seat) (sides next.recovering w.wire w.line w.seat)

-- a long poll that waits on is the same, and was attached when it was
pub record PollTimed (s next : WaitingStage) : Type 0 where
  pub number : next.wait.hold.number ≡ s.wait.hold.number
  pub since : next.since ≡ s.since

abbrev pub StreamWaits : LiveView → LiveView → StreamingStage → Held → Type 0
StreamWaits v w s (Attaching t) = ⊤
StreamWaits v w s (Declining t) = ⊤
StreamWaits v w s (Streaming t) = StreamTimed v w s t
StreamWaits v w s (Closing t) = ⊤
StreamWaits v w s (Leaving t) = ⊤
StreamWaits v w s (Beginning t) = ⊤
StreamWaits v w s (Denying t) = ⊤
StreamWaits v w s (Waiting t) = ⊤
StreamWaits v w s (Answering t) = ⊤
StreamWaits v w s (Departing t) = ⊤

abbrev pub StreamTimes : LiveView → LiveView → StreamingStage → HeldNext → Type 0
StreamTimes v w s (Go next) = ⊤
StreamTimes v w s (Wait next) = StreamWaits v w s next
StreamTimes v w s (Again next) = ⊤
StreamTimes v w s (End ended) = ⊤

abbrev pub PollWaitsOn : WaitingStage → Held → Type 0
PollWaitsOn s (Attaching t) = ⊤
PollWaitsOn s (Declining t) = ⊤
PollWaitsOn s (Streaming t) = ⊤
PollWaitsOn s (Closing t) = ⊤
PollWaitsOn s (Leaving t) = ⊤
PollWaitsOn s (Beginning t) = ⊤
PollWaitsOn s (Denying t) = ⊤
PollWaitsOn s (Waiting t) = PollTimed s t
PollWaitsOn s (Answering t) = ⊤
PollWaitsOn s (Departing t) = ⊤

abbrev pub PollTimes : WaitingStage → HeldNext → Type 0
PollTimes s (Go next) = ⊤
PollTimes s (Wait next) = PollWaitsOn s next
PollTimes s (Again next) = ⊤
PollTimes s (End ended) = ⊤

abbrev pub HeldTimes : LiveView → LiveView → Held → HeldNext → Type 0
HeldTimes v w (Attaching s) next = ⊤
HeldTimes v w (Declining s) next = ⊤
HeldTimes v w (Streaming s) next = StreamTimes v w s next
HeldTimes v w (Closing s) next = ⊤
HeldTimes v w (Leaving s) next = ⊤
HeldTimes v w (Beginning s) next = ⊤
HeldTimes v w (Denying s) next = ⊤
HeldTimes v w (Waiting s) next = PollTimes s next
HeldTimes v w (Answering s) next = ⊤
HeldTimes v w (Departing s) next = ⊤

-- the hold was attached, and nothing was said or asked yet
pub record IsAttachedAt (l : LiveView) (g : Grant) (head : List ℕ) (again : Option AgainView) (hold : KeptView) : Type 0 where
  pub keeps : Keeps l g hold
  pub alone : Alone l g keeps.rows
  pub served : IsServed l.seat
  pub head_is : head ≡ stream_head g
  pub share : Share
  pub is : IsKept l.seat hold share
  pub untaken : share.taken ≡ []
  pub unmissed : share.recovers ≡ []
  pub spec_is : AsksFor g share.spec
  pub again_is : again ≡ source_of g share.spec
  pub pages : PagesRow l.seat []
  pub bytes : BytesRow l.wire (exactly [])

-- no hold was made, and nothing was said yet
pub record IsDeclinedAt (l : LiveView) (g : Grant) : Type 0 where
  pub rows : Granting l g
  pub alone : Alone l g rows
  pub is : IsDeclined l rows.heard.turns (AsksFor g)
  pub served : IsServed l.seat
  pub bytes : BytesRow l.wire (exactly [])

-- an end of the hold was told, and it isn't reported yet
pub record HasClosed (l : LiveView) (s : StreamingStage) (cause : EndCause) : Type 0 where
  pub rows : Granting l s.grant
  pub attached : HasAttached l rows.heard.turns (AsksFor s.grant)
  pub entries : PagedRow l.seat
  pub holds : HoldsRow l.seat l.reports.items (over s.recovering.stream.hold (Some cause))
  pub room : 0 < l.reports.spare
  pub served : IsServed l.seat
  pub framed : s.recovering.stream ≡ stream_of s.grant s.recovering.stream.hold
  pub finished : Finished s.recovering.stream l.wire l.seat cause
  pub recalled : Recalled l s.grant rows s.recovering.stream.hold.number

-- the hub serves no more, and the hold stays; or an end of it was told, and memory was wanting for what was given
pub record StopsWorn (l : LiveView) (s : StreamingStage) : Type 0 where
  pub keeps : Keeps l s.grant s.recovering.stream.hold
  pub streams : Streams s.recovering.stream l.wire l.seat
  pub worn : IsWorn l.seat
  pub recalled : Recalled l s.grant keeps.rows s.recovering.stream.hold.number

pub record StopsTold (l : LiveView) (s : StreamingStage) (cause : EndCause) : Type 0 where
  pub rows : Granting l s.grant
  pub attached : HasAttached l rows.heard.turns (AsksFor s.grant)
  pub entries : PagedRow l.seat
  pub holds : HoldsRow l.seat l.reports.items (over s.recovering.stream.hold (Some cause))
  pub room : 0 < l.reports.spare
  pub stopped : Stopped s.recovering.stream l.wire l.seat (Some cause)
  pub recalled : Recalled l s.grant rows s.recovering.stream.hold.number

pub data StopsBy (l : LiveView) (s : StreamingStage) : Option EndCause → SessionEnd → Type 0 where
  worn : StopsWorn l s → StopsBy l s None Worn
  told : (cause : EndCause) → StopsTold l s cause → StopsBy l s (Some cause) NoMemory

pub record HasStoppedAt (l : LiveView) (s : StreamingStage) (end_told : Option EndCause) (end : SessionEnd) : Type 0 where
  pub framed : s.recovering.stream ≡ stream_of s.grant s.recovering.stream.hold
  pub stops : StopsBy l s end_told end

-- the hold was let go, or the hub serves no more
pub record HasDetached (l : LiveView) (s : LeavingStage) : Type 0 where
  pub rows : Granting l s.grant
  pub attached : HasAttached l rows.heard.turns (AsksFor s.grant)
  pub detached : DetachedRow true l.seat s.hold.number
  pub holds : HoldsRow l.seat l.reports.items (over s.hold None)
  pub room : 0 < l.reports.spare
  pub left : LeftAs s.parting l s.grant s.hold
  pub recalled : Recalled l s.grant rows s.hold.number

pub record StaysWorn (l : LiveView) (s : LeavingStage) : Type 0 where
  pub keeps : Keeps l s.grant s.hold
  pub leaves : LeavesAs s.parting l (stream_of s.grant s.hold)
  pub worn : IsWorn l.seat
  pub recalled : Recalled l s.grant keeps.rows s.hold.number

pub data HasLeft (l : LiveView) (s : LeavingStage) : SessionEnd → Type 0 where
  went : HasDetached l s → HasLeft l s (end_of s.parting)
  stays : StaysWorn l s → HasLeft l s Worn
