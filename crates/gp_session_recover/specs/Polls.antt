-- What a poll of a stream answers that asks for what it missed, and why it waits.
use Rattle.std.specs.Prelude.{ℕ, ◌≡◌, ◌≢◌, ◌⊎◌, true, List, [], ◌++◌, All, Option, Some, None, ⊤}
use Rattle.std.specs.Option.{option_to_list}
use Rattle.gp_outside.specs.Counts.{Rose, grown}
use Rattle.gp_plain.specs.declared.event.HoldSpec.{HoldSpec}
use Rattle.gp_plain.specs.declared.http.Signer.{Signer}
use Rattle.gp_plain.specs.declared.reply.HoldReport.{HoldReport}
use Rattle.gp_exchange.specs.Answers.{Waits}
use Rattle.gp_recover.specs.Views.{place_of}
use Rattle.gp_again.specs.Views.{AgainView}
use Rattle.gp_hub.specs.Own.{HasFailed, HasPaged}
use Rattle.gp_hub.specs.declared.own.FailedReply.{FailedReply}
use Rattle.gp_hub.specs.declared.own.PageReply.{PageReply}
use Rattle.gp_intake.specs.Polls.{IsGone}
use Rattle.gp_session.specs.Causes.{WriteWaited}
use Rattle.gp_session.specs.Holding.{MetBusy, MetWant, MetWorn, Serves}
use Rattle.gp_session.specs.Lines.{Aim, LineView, MovedLine}
use Rattle.gp_session.specs.Paging.{recovery_page}
use Rattle.gp_session.specs.Seats.{Busied, IsServed, IsWorn, MovedSeat, SeatRow, SeatView}
use Rattle.gp_session.specs.Wires.{MovedWire, WireView}
use Rattle.gp_session_hold.specs.Polls.{StreamPends}
use Rattle.gp_session_hold.specs.Rows.{AttachRow, PagedRow, HoldsRow, KeptView, LastHold, kept, over}
use Rattle.gp_session_hold.specs.Streams.{Finished, Gives, Idles, Stopped, Streams}
use Rattle.gp_session_recover.specs.Quests.{Quest, moments_of}
use Rattle.gp_session_recover.specs.Rows.{Begun, Closed, RecoveringView, Recovers, Sides, hold_of, moment_open}
use Rattle.gp_session_recover.specs.declared.bringing.Brought.{Brought}
use Rattle.gp_session_recover.specs.declared.bringing.Brought.TheVariants as brought
use Rattle.gp_session_recover.specs.declared.polling.StreamPolled.{StreamPolled}
use Rattle.gp_session_recover.specs.declared.polling.StreamPolled.TheVariants as polled
use Rattle.gp_session_recover.specs.declared.talk.Talk.{Talk}
use Rattle.gp_session_recover.specs.declared.talk.Talk.TheVariants.{None as NoTalk, Open, Page, Failed}
use Rattle.gp_session_recover.specs.declared.turning.Stepped.{Stepped}
use Rattle.gp_session_recover.specs.declared.turning.Stepped.TheVariants as stepped

-- what every move keeps
pub record Goes (a b : Sides) : Type 0 where
  pub number : hold_of b ≡ hold_of a
  pub chunked : b.is.stream.chunked ≡ a.is.stream.chunked
  pub head : b.is.stream.head ≡ a.is.stream.head
  pub wire : MovedWire a.wire b.wire
  pub received : b.wire.link.received ≡ a.wire.link.received
  pub ends : b.wire.link.ends ≡ a.wire.link.ends
  pub line : MovedLine a.line b.line
  pub seat : MovedSeat a.seat b.seat
  pub row : SeatRow a.seat → SeatRow b.seat
  pub entries : PagedRow a.seat → PagedRow b.seat
  pub attaches : (specs : List HoldSpec) (refused : Option HoldSpec) → AttachRow a.seat specs refused → AttachRow b.seat specs refused

-- more moments were used, each of which is this one
pub record Timed (now : ℕ) (was is : List ℕ) : Type 0 where
  pub more : List ℕ
  pub grown_is : is ≡ was ++ more
  pub now_is : All (λ (moment : ℕ). moment ≡ now) more

abbrev pub moments_at : List Quest → Sides → List ℕ
moments_at qs a = moments_of qs ++ moment_open a.is.talk

-- the rows of the recoveries go on: there may be more quests, each begun at this moment but for that of a talk that was open
pub record RecoversOn (signer : Signer) (source : Option AgainView) (aims : List Aim) (qs : List Quest) (now : ℕ) (a b : Sides) : Type 0 where
  pub more : List Quest
  pub row : Recovers signer source aims (qs ++ more) b
  pub timed : Timed now (moments_at qs a) (moments_at (qs ++ more) b)

pub record ClosedOn (signer : Signer) (source : Option AgainView) (aims : List Aim) (qs : List Quest) (now : ℕ) (a b : Sides) : Type 0 where
  pub more : List Quest
  pub row : Closed signer source aims (qs ++ more) (hold_of b) b.line b.seat
  pub dropped : Option ℕ
  pub timed : Timed now (moments_at qs a) (moments_of (qs ++ more) ++ option_to_list dropped)

-- the stream goes on
pub record Stays (signer : Signer) (now : ℕ) (a b : Sides) : Type 0 where
  pub goes : Goes a b
  pub holds : (reports : List HoldReport) → HoldsRow a.seat reports (kept a.is.stream.hold) → HoldsRow b.seat reports (kept b.is.stream.hold)
  pub free : IsServed a.seat → IsServed b.seat
  pub sound : b.wire.link.faults ≡ a.wire.link.faults
  pub streams : Streams b.is.stream b.wire b.seat
  pub recovers : (source : Option AgainView) (aims : List Aim) (qs : List Quest) → Recovers signer source aims qs a → RecoversOn signer source aims qs now a b

-- so many Takes gave pieces, or told an id
pub record Running (signer : Signer) (now : ℕ) (a b : Sides) (count : ℕ) : Type 0 where
  pub stays : Stays signer now a b
  pub gave : Gives (hold_of a) now a.seat count b.seat

-- no recovery is over of which the hub wasn't told, and the dialer waited for what an open talk expects
abbrev pub TalkWaitedAt : Talk → LineView → LineView → Type 0
TalkWaitedAt NoTalk l m = ⊤
TalkWaitedAt (Open t) l m = Waits (place_of t.recovery) l.dial m.dial
TalkWaitedAt (Page page) l m = ⊥
TalkWaitedAt Failed l m = ⊥

abbrev pub TalkWaited : Sides → Sides → Type 0
TalkWaited a b = TalkWaitedAt b.is.talk a.line b.line

-- the last hold of the session behind a poll
abbrev pub last_polled : KeptView → StreamPolled → LastHold
last_polled hold polled.Pending = kept hold
last_polled hold (polled.Ended cause) = over hold (Some cause)
last_polled hold polled.Gone = kept hold
last_polled hold polled.Worn = kept hold
last_polled hold polled.NoMemory = kept hold
last_polled hold (polled.Unput None) = kept hold
last_polled hold (polled.Unput (Some cause)) = over hold (Some cause)

abbrev pub PolledServes : SeatView → SeatView → StreamPolled → Type 0
PolledServes s t polled.Pending = IsServed s → IsServed t
PolledServes s t (polled.Ended cause) = IsServed s → IsServed t
PolledServes s t polled.Gone = IsServed s → IsServed t
PolledServes s t polled.Worn = IsWorn t
PolledServes s t polled.NoMemory = IsServed s → IsServed t
PolledServes s t (polled.Unput told) = IsServed s → IsServed t

-- the link failed where the client is gone
abbrev pub HaltSounds : WireView → WireView → StreamPolled → Type 0
HaltSounds w x polled.Pending = ⊤
HaltSounds w x (polled.Ended cause) = ⊤
HaltSounds w x polled.Gone = Rose w.link.faults x.link.faults
HaltSounds w x polled.Worn = ⊤
HaltSounds w x polled.NoMemory = ⊤
HaltSounds w x (polled.Unput told) = ⊤

abbrev pub HaltsAs : Sides → StreamPolled → Type 0
HaltsAs b polled.Pending = ⊥
HaltsAs b (polled.Ended cause) = Finished b.is.stream b.wire b.seat cause
HaltsAs b polled.Gone = Streams b.is.stream b.wire b.seat
HaltsAs b polled.Worn = Streams b.is.stream b.wire b.seat
HaltsAs b polled.NoMemory = Streams b.is.stream b.wire b.seat
HaltsAs b (polled.Unput told) = Stopped b.is.stream b.wire b.seat told

-- the stream goes on no more, and its talk is hung up
pub record Halts (signer : Signer) (now : ℕ) (a b : Sides) (answer : StreamPolled) : Type 0 where
  pub goes : Goes a b
  pub holds : (reports : List HoldReport) → HoldsRow a.seat reports (kept a.is.stream.hold) → HoldsRow b.seat reports (last_polled b.is.stream.hold answer)
  pub serves : PolledServes a.seat b.seat answer
  pub sound : HaltSounds a.wire b.wire answer
  pub closed : (source : Option AgainView) (aims : List Aim) (qs : List Quest) → Recovers signer source aims qs a → ClosedOn signer source aims qs now a b
  pub says : HaltsAs b answer

-- ---- steps

-- what telling the hub came to: it answered, or it wasn't served
abbrev pub BringsPage : RecoveringView → RecoveringView → SeatView → SeatView → Talk → Brought → (Type 0) → Type 0
BringsPage v u s t talk brought.Goes Told = (u.talk ≡ NoTalk) × Serves t Told
BringsPage v u s t talk brought.Busy Told = (u.talk ≡ talk) × MetBusy s t
BringsPage v u s t talk brought.Worn Told = (u.talk ≡ NoTalk) × MetWorn s t
BringsPage v u s t talk brought.NoMemory Told = (u.talk ≡ NoTalk) × MetWant s t

pub record BringsOne (v u : RecoveringView) (s t : SeatView) (talk : Talk) (answer : Brought) (Told : Type 0) : Type 0 where
  pub stream : u.stream ≡ v.stream
  pub again : u.again ≡ v.again
  pub moved : MovedSeat s t
  pub row : SeatRow s → SeatRow t
  pub says : BringsPage v u s t talk answer Told

-- nothing was to be told
pub record Unbrought (v u : RecoveringView) (s t : SeatView) (answer : Brought) : Type 0 where
  pub talk : u.talk ≡ v.talk
  pub seat : t ≡ s
  pub answer_is : answer ≡ brought.Goes

abbrev pub BringsAs : Talk → RecoveringView → RecoveringView → SeatView → SeatView → Brought → Type 0
BringsAs NoTalk v u s t answer = Unbrought v u s t answer
BringsAs (Open talk) v u s t answer = Unbrought v u s t answer
BringsAs (Page page) v u s t answer = BringsPage v u s t (Page page) answer ((reply : PageReply) × HasPaged s.pass t.pass v.stream.hold.number (recovery_page page) reply)
BringsAs Failed v u s t answer = BringsPage v u s t Failed answer ((reply : FailedReply) × HasFailed s.pass t.pass v.stream.hold.number reply)

pub record Brings (v u : RecoveringView) (s t : SeatView) (answer : Brought) : Type 0 where
  pub stream : u.stream ≡ v.stream
  pub again : u.again ≡ v.again
  pub moved : MovedSeat s t
  pub row : SeatRow s → SeatRow t
  pub says : BringsAs v.talk v u s t answer

-- what settling a talk came to: nothing is over of which the hub wasn't told; or the hub is busy; or the stream goes on no more
abbrev pub SettlesAs : Signer → ℕ → Sides → Sides → Brought → Type 0
SettlesAs signer now a b brought.Goes = Stays signer now a b × TalkWaited a b
SettlesAs signer now a b brought.Busy = Stays signer now a b × Busied a.seat b.seat
SettlesAs signer now a b brought.Worn = Halts signer now a b polled.Worn
SettlesAs signer now a b brought.NoMemory = Halts signer now a b polled.NoMemory

-- a talk was begun; or memory is wanting, and nothing has changed
abbrev pub AsksTo : RecoveringView → RecoveringView → LineView → LineView → Signer → ℕ → List ℕ → Stepped → Type 0
AsksTo v u l m signer now from stepped.More = Begun v u signer now from true × (m ≡ l)
AsksTo v u l m signer now from stepped.Idle = ⊥
AsksTo v u l m signer now from stepped.Unsent = ⊥
AsksTo v u l m signer now from stepped.Busy = ⊥
AsksTo v u l m signer now from (stepped.Ends answer) = (answer ≡ polled.NoMemory) × (u ≡ v) × (m ≡ l)

-- one turn, which leaves the talk as it is, unless it tells an id
pub record TurnStays (signer : Signer) (now : ℕ) (a b : Sides) : Type 0 where
  pub stays : Stays signer now a b
  pub talk : b.is.talk ≡ a.is.talk
  pub line : b.line ≡ a.line

abbrev pub TurnsAs : Signer → ℕ → Sides → Sides → Stepped → Type 0
TurnsAs signer now a b stepped.More = Running signer now a b 1
TurnsAs signer now a b stepped.Idle = TurnStays signer now a b × (b.wire.rest ≡ []) × Idles (hold_of a) now a.seat b.seat
TurnsAs signer now a b stepped.Unsent = TurnStays signer now a b × (b.wire.rest ≢ []) × WriteWaited a.wire b.wire
TurnsAs signer now a b stepped.Busy = TurnStays signer now a b × Busied a.seat b.seat
TurnsAs signer now a b (stepped.Ends answer) = Halts signer now a b answer

-- one turn behind what is settled: it gave pieces or told an id; or nothing waits, and a Take gave nothing; or bytes wait for the link; or the hub is busy; or
-- the stream goes on no more
abbrev pub StepsAs : Signer → ℕ → Sides → Sides → Stepped → Type 0
StepsAs signer now a b stepped.More = Running signer now a b 1
StepsAs signer now a b stepped.Idle = Stays signer now a b × TalkWaited a b × (b.wire.rest ≡ []) × Idles (hold_of a) now a.seat b.seat
StepsAs signer now a b stepped.Unsent = Stays signer now a b × TalkWaited a b × (b.wire.rest ≢ []) × WriteWaited a.wire b.wire
StepsAs signer now a b stepped.Busy = Stays signer now a b × Busied a.seat b.seat
StepsAs signer now a b (stepped.Ends answer) = Halts signer now a b answer

-- all turns of a poll
pub data Why (now : ℕ) (a b : Sides) : Type 0 where
  busy : Busied a.seat b.seat → Why now a b
  idle : TalkWaited a b → b.wire.rest ≡ [] → Idles (hold_of a) now a.seat b.seat → Why now a b
  unsent : TalkWaited a b → b.wire.rest ≢ [] → WriteWaited a.wire b.wire → Why now a b
  sixteen : TalkWaited a b → Gives (hold_of a) now a.seat 16 b.seat → Why now a b

abbrev pub RunsAs : Signer → ℕ → Sides → Sides → StreamPolled → Type 0
RunsAs signer now a b polled.Pending = Stays signer now a b × Why now a b
RunsAs signer now a b (polled.Ended cause) = Halts signer now a b (polled.Ended cause)
RunsAs signer now a b polled.Gone = Halts signer now a b polled.Gone
RunsAs signer now a b polled.Worn = Halts signer now a b polled.Worn
RunsAs signer now a b polled.NoMemory = Halts signer now a b polled.NoMemory
RunsAs signer now a b (polled.Unput told) = Halts signer now a b (polled.Unput told)

-- ---- a poll

-- why it waits: another call holds the turn; or the stream has its cause, and so has an open talk
abbrev pub Pends : ℕ → Sides → Sides → List ℕ → Type 0
Pends now a b heard = StreamPends (hold_of a) now a.wire b.wire a.seat b.seat heard × (Busied a.seat b.seat ⊎ TalkWaited a b)

-- what a poll keeps, whatever it heard
pub record Hears (a b : Sides) : Type 0 where
  pub number : hold_of b ≡ hold_of a
  pub chunked : b.is.stream.chunked ≡ a.is.stream.chunked
  pub head : b.is.stream.head ≡ a.is.stream.head
  pub wire : MovedWire a.wire b.wire
  pub heard : List ℕ
  pub received : b.wire.link.received ≡ grown a.wire.link.received heard
  pub line : MovedLine a.line b.line
  pub seat : MovedSeat a.seat b.seat
  pub row : SeatRow a.seat → SeatRow b.seat
  pub entries : PagedRow a.seat → PagedRow b.seat
  pub attaches : (specs : List HoldSpec) (refused : Option HoldSpec) → AttachRow a.seat specs refused → AttachRow b.seat specs refused

-- it waits, and the stream goes on
pub record PollWaits (signer : Signer) (now : ℕ) (a b : Sides) (heard : List ℕ) : Type 0 where
  pub free : IsServed a.seat → IsServed b.seat
  pub streams : Streams b.is.stream b.wire b.seat
  pub recovers : (source : Option AgainView) (aims : List Aim) (qs : List Quest) → Recovers signer source aims qs a → RecoversOn signer source aims qs now a b
  pub pends : Pends now a b heard

abbrev pub PollHaltsAs : Sides → Sides → StreamPolled → Type 0
PollHaltsAs a b polled.Pending = ⊥
PollHaltsAs a b (polled.Ended cause) = Finished b.is.stream b.wire b.seat cause
PollHaltsAs a b polled.Gone = Streams b.is.stream b.wire b.seat × IsGone a.wire.link b.wire.link
PollHaltsAs a b polled.Worn = Streams b.is.stream b.wire b.seat
PollHaltsAs a b polled.NoMemory = Streams b.is.stream b.wire b.seat
PollHaltsAs a b (polled.Unput told) = Stopped b.is.stream b.wire b.seat told

-- it goes on no more: its talk is hung up
pub record PollHalts (signer : Signer) (now : ℕ) (a b : Sides) (answer : StreamPolled) : Type 0 where
  pub serves : PolledServes a.seat b.seat answer
  pub closed : (source : Option AgainView) (aims : List Aim) (qs : List Quest) → Recovers signer source aims qs a → ClosedOn signer source aims qs now a b
  pub says : PollHaltsAs a b answer

abbrev pub PolledAs : Signer → ℕ → Sides → Sides → List ℕ → StreamPolled → Type 0
PolledAs signer now a b heard polled.Pending = PollWaits signer now a b heard
PolledAs signer now a b heard (polled.Ended cause) = PollHalts signer now a b (polled.Ended cause)
PolledAs signer now a b heard polled.Gone = PollHalts signer now a b polled.Gone
PolledAs signer now a b heard polled.Worn = PollHalts signer now a b polled.Worn
PolledAs signer now a b heard polled.NoMemory = PollHalts signer now a b polled.NoMemory
PolledAs signer now a b heard (polled.Unput told) = PollHalts signer now a b (polled.Unput told)

pub record PollsStream (signer : Signer) (now : ℕ) (a b : Sides) (answer : StreamPolled) : Type 0 where
  pub hears : Hears a b
  pub holds : (reports : List HoldReport) → HoldsRow a.seat reports (kept a.is.stream.hold) → HoldsRow b.seat reports (last_polled b.is.stream.hold answer)
  pub says : PolledAs signer now a b hears.heard answer
