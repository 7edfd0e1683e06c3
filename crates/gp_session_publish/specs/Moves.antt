-- Where a move leads, why a session waits, and how it ends.
use Rattle.std.specs.Prelude.{◌≡◌, ◌≢◌, ℕ, ◌+◌, ◌<◌, ◌^◌, ◌⊎◌, List, [], ◌∷◌, ◌++◌, length, map, All, Option, None, option_to_list, ⊤}
use Rattle.gp_plain.specs.declared.item.Item.{Item}
use Rattle.gp_plain.specs.Others.{shares}
use Rattle.gp_outside.specs.Links.{LinkLater}
use Rattle.gp_hub.specs.declared.outcome.SessionEnd.{SessionEnd}
use Rattle.gp_hub.specs.declared.outcome.SessionEnd.TheVariants.{Sent, Cut, ClientGone, Worn, NoMemory}
use Rattle.gp_hub.specs.declared.outcome.Why.{Why}
use Rattle.gp_hub.specs.declared.outcome.Why.TheVariants as why
use Rattle.gp_hub.specs.Own.{mine}
use Rattle.gp_answer.specs.Refusals.{code_of}
use Rattle.gp_intake.specs.declared.body.Whole.{Whole}
use Rattle.gp_intake.specs.Requests.{HeadedView, IsHeaded}
use Rattle.gp_intake.specs.Bodies.{IsOpen}
use Rattle.gp_session.specs.Wires.{RequestRow, BytesRow, Shape, exactly, at_most}
use Rattle.gp_session.specs.Seats.{SeatView, MovedSeat, SeatRow, HasNoHolds, IsServed, IsWorn, Busied, publish_of}
use Rattle.gp_session.specs.Causes.{ReadWaited, WriteWaited, HasFailed, HasEnded}
use Rattle.gp_session_publish.specs.declared.cause.Cause.{Cause}
use Rattle.gp_session_publish.specs.declared.stage.Stage.{Stage}
use Rattle.gp_session_publish.specs.declared.stage.Stage.TheVariants.{ReadingHead, ReadingBody, Publishing, Answering, Refusing}
use Rattle.gp_session_publish.specs.declared.stage.Ended.{Ended}
use Rattle.gp_session_publish.specs.declared.stage.Next.{Next}
use Rattle.gp_session_publish.specs.declared.stage.Next.TheVariants.{Go, Wait, End}
use Rattle.gp_session_publish.specs.declared.publishing.AllPublished.{AllPublished}
use Rattle.gp_session_publish.specs.declared.publishing.AllPublished.TheVariants as all
use Rattle.gp_session_publish.specs.declared.publishing.Reached.{Reached}
use Rattle.gp_session_publish.specs.declared.publishing.Reached.TheVariants as reached
use Rattle.gp_session_publish.specs.Routing.{IsPublish, IsRefusedFor, refusal_of, why_of}
use Rattle.gp_session_publish.specs.Views.{LiveView, Moved}
use Rattle.gp_session_publish.specs.Trace.{Asks, Fits, Makes, text_of, Stays, Told}

-- how many moves that go on may follow, at the most
abbrev pub rank : Stage → ℕ
rank (ReadingHead s) = 4
rank (ReadingBody s) = 3
rank (Publishing s) = 2
rank (Answering s) = 1
rank (Refusing s) = 1

-- the request isn't whole, and isn't refused
abbrev pub IsReading : Stage → Type 0
IsReading (ReadingHead s) = ⊤
IsReading (ReadingBody s) = ⊤
IsReading (Publishing s) = ⊥
IsReading (Answering s) = ⊥
IsReading (Refusing s) = ⊥

abbrev pub IsUnread : Stage → Type 0
IsUnread (ReadingHead s) = ⊤
IsUnread (ReadingBody s) = IsOpen s.intake.body.reading
IsUnread (Publishing s) = ⊤
IsUnread (Answering s) = ⊤
IsUnread (Refusing s) = ⊤

-- an activity that is open has its cause, and some activity is open
pub record Causes (v w : LiveView) (stage : Stage) : Type 0 where
  pub request : IsReading stage → IsUnread stage × ReadWaited v.wire w.wire
  pub writes : w.wire.rest ≢ [] → WriteWaited v.wire w.wire
  pub some : IsReading stage ⊎ (w.wire.rest ≢ [])

-- why a session waits
pub data Pends (v w : LiveView) (stage : Stage) : Type 0 where
  busy : Busied v.seat w.seat → Pends v w stage
  waits : Causes v w stage → Pends v w stage

-- a beginning of the bytes received was used
pub record Used (stage : Stage) (received : List ℕ) : Type 0 where
  pub used : List ℕ
  pub unused : List ℕ
  pub split : received ≡ used ++ unused
  pub asks : Asks stage used

-- at an end for want of memory bytes may have come that weren't used, and the answer may be sent in part
abbrev pub AsksAtEnd : SessionEnd → Stage → List ℕ → Type 0
AsksAtEnd (Sent code) stage received = Asks stage received
AsksAtEnd (Cut cause) stage received = Asks stage received
AsksAtEnd ClientGone stage received = Asks stage received
AsksAtEnd Worn stage received = Asks stage received
AsksAtEnd NoMemory stage received = Used stage received

abbrev pub shape_at_end : SessionEnd → List ℕ → Shape
shape_at_end (Sent code) text = exactly text
shape_at_end (Cut cause) text = exactly text
shape_at_end ClientGone text = exactly text
shape_at_end Worn text = exactly text
shape_at_end NoMemory text = at_most text

-- the hub serves no more exactly at the end Worn
abbrev pub ServedAtEnd : SessionEnd → SeatView → Type 0
ServedAtEnd (Sent code) s = IsServed s
ServedAtEnd (Cut cause) s = IsServed s
ServedAtEnd ClientGone s = IsServed s
ServedAtEnd Worn s = IsWorn s
ServedAtEnd NoMemory s = IsServed s

-- the rows at the end of a session, in its last stage
pub record ToldAtEnd (end : SessionEnd) (l : LiveView) (stage : Stage) : Type 0 where
  pub request : RequestRow l.wire (AsksAtEnd end stage)
  pub entries : Makes stage l.seat.pass.number (mine l.seat.pass)
  pub bytes : BytesRow l.wire (shape_at_end end (text_of stage))
  pub holds : HasNoHolds l.seat
  pub seat : SeatRow l.seat
  pub served : ServedAtEnd end l.seat
  pub later : LinkLater l.wire.start l.wire.link

-- the code of the answer
abbrev pub HasCode : Stage → ℕ → Type 0
HasCode (ReadingHead s) code = ⊥
HasCode (ReadingBody s) code = ⊥
HasCode (Publishing s) code = ⊥
HasCode (Answering s) code = code ≡ 200
HasCode (Refusing s) code = code ≡ code_of (refusal_of s.cause)

-- why the session ends so. Sent comes where all was sent. The client is gone where its link failed, or where its input ended
-- before the request was whole or refused
abbrev pub EndSays : SessionEnd → LiveView → Stage → Type 0
EndSays (Sent code) l stage = (l.wire.rest ≡ []) × HasCode stage code
EndSays (Cut cause) l stage = ⊥
EndSays ClientGone l stage = HasFailed l.wire ⊎ (HasEnded l.wire × IsReading stage × IsUnread stage)
EndSays Worn l stage = IsWorn l.seat
EndSays NoMemory l stage = ⊤

-- the cause of a refusal is told
abbrev pub why_at : Stage → Why
why_at (ReadingHead s) = why.Nothing
why_at (ReadingBody s) = why.Nothing
why_at (Publishing s) = why.Nothing
why_at (Answering s) = why.Nothing
why_at (Refusing s) = why_of s.cause

pub record Finishes (l : LiveView) (ended : Ended) : Type 0 where
  pub stage : Stage
  pub told : ToldAtEnd ended.end l stage
  pub says : EndSays ended.end l stage
  pub why_is : ended.why ≡ why_at stage
  pub published : ended.published ≡ length (mine l.seat.pass)

-- where a move leads
abbrev pub LeadsTo : LiveView → LiveView → ℕ → Next → Type 0
LeadsTo v w n (Go stage) = Told w stage × (rank stage < n)
LeadsTo v w n (Wait stage) = Told w stage × Pends v w stage
LeadsTo v w n (End ended) = Finishes w ended

pub record Leads (v w : LiveView) (n : ℕ) (next : Next) : Type 0 where
  pub moved : Moved v w
  pub to : LeadsTo v w n next

-- nothing was published or sent, and the bytes received are so
pub record IsUnanswered (l : LiveView) (Is : List ℕ → Type 0) : Type 0 where
  pub request : RequestRow l.wire Is
  pub entries : mine l.seat.pass ≡ []
  pub bytes : BytesRow l.wire (exactly [])
  pub stays : Stays l

abbrev pub MayRefuse : LiveView → Cause → List ℕ → Type 0
MayRefuse l cause method = IsUnanswered l (IsRefusedFor cause method)

abbrev pub IsHeadedAt : LiveView → HeadedView → Type 0
IsHeadedAt l v = IsUnanswered l (IsHeaded v)

abbrev pub IsWholeAt : LiveView → Whole → Type 0
IsWholeAt l w = IsUnanswered l (IsPublish w)

-- the first items were published one after another, and the rest wasn't yet
pub record PublishedSome (s t : SeatView) (left rest : List Item) (before now : ℕ) : Type 0 where
  pub done : List Item
  pub split : left ≡ done ++ rest
  pub made : mine t.pass ≡ mine s.pass ++ map (publish_of s.pass.number) done
  pub count : now ≡ before + length done
  pub holds : shares t.pass.number t.pass.seen ≡ shares s.pass.number s.pass.seen
  pub moved : MovedSeat s t
  pub row : SeatRow s → SeatRow t

-- the same in between: this is the next item, where there is one, and these stand behind it
pub record IsPublishing (s t : SeatView) (left : List Item) (next : Option Item) (items : List Item) (before now : ℕ) : Type 0 where
  pub some : PublishedSome s t left (option_to_list next ++ items) before now
  pub fit : All Fits (option_to_list next ++ items)
  pub few : now + length (option_to_list next ++ items) < 2 ^ 32
  pub served : IsServed s → IsServed t
  pub none : next ≡ None → items ≡ []

-- which items are left, and why
abbrev pub AllSays : SeatView → SeatView → List Item → List Item → AllPublished → Type 0
AllSays s t rest items all.Done = (rest ≡ []) × (items ≡ []) × (IsServed s → IsServed t)
AllSays s t rest items (all.Busy item) = (rest ≡ item ∷ items) × Busied s t × IsServed t
AllSays s t rest items all.Worn = IsWorn t
AllSays s t rest items all.NoMemory = IsServed s → IsServed t

pub record PublishesAll (s t : SeatView) (left items : List Item) (before now : ℕ) (answer : AllPublished) : Type 0 where
  pub rest : List Item
  pub some : PublishedSome s t left rest before now
  pub fit : All Fits rest
  pub says : AllSays s t rest items answer

-- the same of the items that a stage has left
abbrev pub LeftSays : SeatView → SeatView → List Item → List Item → Reached → Type 0
LeftSays s t rest left reached.All = (rest ≡ []) × (left ≡ []) × (IsServed s → IsServed t)
LeftSays s t rest left reached.Busy = (rest ≡ left) × Busied s t × IsServed t
LeftSays s t rest left reached.Worn = IsWorn t
LeftSays s t rest left reached.NoMemory = IsServed s → IsServed t

pub record PublishesLeft (s t : SeatView) (before after : List Item) (was now : ℕ) (answer : Reached) : Type 0 where
  pub rest : List Item
  pub some : PublishedSome s t before rest was now
  pub fit : All Fits rest
  pub says : LeftSays s t rest after answer
