-- A session ends well, or something kept it from that: its client, its origin, the hub, or memory.
use Rattle.std.specs.Prelude.{◌≡◌, ◌≤◌, ◌⊎◌, ℕ, Bool, true, false, List, ◌++◌, ◌∷◌, length, Option, Some, IfSome, ⊤}
use Rattle.std.specs.List.{Contains}
use Rattle.gp_plain.specs.declared.event.HoldSpec.{HoldSpec}
use Rattle.gp_plain.specs.declared.http.Address.{Address}
use Rattle.gp_plain.specs.declared.http.Response.{Response}
use Rattle.gp_plain.specs.declared.reply.EndCause.{EndCause}
use Rattle.gp_plain.specs.declared.reply.EndCause.TheVariants.{Closed, Detached, Gap, Unrecovered, Overflow, Answered, Retry, TimedOut}
use Rattle.gp_outside.specs.Counts.{Rose}
use Rattle.gp_outside.specs.Dials.{IsIdle}
use Rattle.gp_outside.specs.Talks.{Talk, Talks, all_of}
use Rattle.gp_routes.specs.declared.route.Rule.{Rule}
use Rattle.gp_hub.specs.declared.outcome.SessionEnd.TheVariants.{Sent as WasSent, Cut, NoMemory}
use Rattle.gp_hub.specs.declared.outcome.Why.TheVariants as why
use Rattle.gp_exchange.specs.Ends.{EndsBody}
use Rattle.gp_exchange.specs.Standing.{IsTalk}
use Rattle.gp_exchange.specs.Views.{AskedView}
use Rattle.gp_instruct_json.specs.Answers.{IsAnswer}
use Rattle.gp_instruct_json.specs.declared.answer.Answer.{Answer}
use Rattle.gp_recover.specs.Outcomes.{GivesPage}
use Rattle.gp_recover.specs.Views.{SoughtView, asked_by}
use Rattle.gp_recover.specs.declared.page.Page.{Page}
use Rattle.gp_intake.specs.declared.body.Whole.{Whole}
use Rattle.gp_session.specs.Causes.{HasFailed, HasEnded}
use Rattle.gp_session.specs.Lines.{LineView}
use Rattle.gp_session.specs.Seats.{IsWorn}
use Rattle.gp_session.specs.Wires.{RequestRow}
use Rattle.gp_session_hold.specs.Rows.{AttachRow, DetachedRow, told_at}
use Rattle.gp_session_recover.specs.Quests.{Quest}
use Rattle.gp_session_http.specs.declared.asked.Asked.{Asked}
use Rattle.gp_session_http.specs.declared.grant.Grant.{Grant}
use Rattle.gp_session_http.specs.declared.grant.Wish.TheVariants.{Stream, Poll, Whole as WholeAnswer}
use Rattle.gp_session_http.specs.declared.stage.Ended.{Ended}
use Rattle.gp_session_http.specs.Asking.{AsksToGather, IsAskedFor, is_head}
use Rattle.gp_session_http.specs.Holding.{Granting, Recalled}
use Rattle.gp_session_http.specs.Routing.{IsServed}
use Rattle.gp_session_http.specs.Trace.{Serves}
use Rattle.gp_session_http.specs.Views.{LiveView}
use Rattle.gp_session_http.specs.Wishes.{IsWish, most_gathered}

-- the bytes received begin with no whole request that is forwarded
abbrev pub IsUnforwarded : List Rule → List ℕ → Type 0
IsUnforwarded rules received = (w : Whole) (address : Address) → IsServed rules w address received → ⊥

-- nor do they, whatever bytes follow
abbrev pub IsNeverForwarded : List Rule → List ℕ → Type 0
IsNeverForwarded rules received = (more : List ℕ) → IsUnforwarded rules (received ++ more)

-- what an answer asks for is read, and what is gathered of it is within the limits, as is what a hold opens with, or answers with at its
-- deadline
pub record IsReadWithin (head : Response) (content : List ℕ) : Type 0 where
  pub answer : Answer
  pub read : IsAnswer head content answer
  pub short : AsksToGather head → length content ≤ most_gathered head
  pub within : IsWish answer WholeAnswer ⊎ (IsWish answer Stream ⊎ IsWish answer Poll)

-- nothing is read of the instructions of an answer to HEAD
abbrev pub IsGoodFor : Bool → Response → List ℕ → Type 0
IsGoodFor true head content = ⊤
IsGoodFor false head content = IsReadWithin head content

-- the bytes of a talk are a whole response to what was asked, and a good one
pub record IsAccepted (asked : AskedView) (received : List ℕ) : Type 0 where
  pub head : Response
  pub content : List ℕ
  pub ended : Bool
  pub whole : EndsBody asked head ended content received
  pub good : IsGoodFor (is_head asked.method) head content

-- one of the talks that the session began is so, where the dialer tells its talks
pub record HasSuch (before : List Talk) (now : Talks) (Is : Talk → Type 0) : Type 0 where
  pub earlier : List Talk
  pub talk : Talk
  pub later : List Talk
  pub all : all_of now ≡ before ++ (earlier ++ talk ∷ later)
  pub is : Is talk

abbrev pub HasTalk : LineView → (Talk → Type 0) → Type 0
HasTalk l Is = IsIdle l.start → IfSome l.start.talks (λ (was : Talks). IfSome l.dial.talks (λ (now : Talks). HasSuch was.over now Is))

-- what was received in a talk is no such response to what was asked in it
pub record IsUnaccepted (asked : AskedView) (talk : Talk) : Type 0 where
  pub talks : IsTalk asked talk
  pub refused : IsAccepted asked talk.received → ⊥

-- the client's request was forwarded, and the answer to it isn't accepted
pub record HasRefused (l : LiveView) : Type 0 where
  pub asked : Asked
  pub request : RequestRow l.wire (Serves l.charter asked)
  pub view : AskedView
  pub asks : IsAskedFor l.charter.signer asked view
  pub talk : HasTalk l.line (IsUnaccepted view)

-- what was received in the talk of a recovery is no page
pub record IsNoPage (sought : SoughtView) (talk : Talk) : Type 0 where
  pub talks : IsTalk (asked_by sought) talk
  pub none : (ended : Bool) (page : Page) → GivesPage sought ended page talk.received → ⊥

-- a stream asked its origin for what it missed, and got no page
pub record HasNoPage (l : LiveView) : Type 0 where
  pub grant : Grant
  pub rows : Granting l grant
  pub hold : ℕ
  pub recalled : Recalled l grant rows hold
  pub quest : Quest
  pub there : Contains recalled.qs quest
  pub talk : HasTalk l.line (IsNoPage quest.sought.sought)

-- what keeps a session from ending well: its request isn't forwarded, whatever follows what was received; the client's input ended before the
-- request was whole, or while a hold was kept, which was let go; the client's link failed; the dialer failed; an answer of the origin's isn't accepted, or is no page; there was no place for a hold; or the hub serves no more
pub data Disturbed (l : LiveView) : Type 0 where
  request : RequestRow l.wire (IsNeverForwarded l.charter.rules) → Disturbed l
  short : HasEnded l.wire → RequestRow l.wire (IsUnforwarded l.charter.rules) → Disturbed l
  link : HasFailed l.wire → Disturbed l
  left : (paged : Bool) (hold : ℕ) → DetachedRow paged l.seat hold → HasEnded l.wire → Disturbed l
  dial : Rose l.line.start.faults l.line.dial.faults → Disturbed l
  answer : HasRefused l → Disturbed l
  page : HasNoPage l → Disturbed l
  full : (specs : List HoldSpec) (spec : HoldSpec) → AttachRow l.seat specs (Some spec) → Disturbed l
  worn : IsWorn l.seat → Disturbed l

-- a stream is cut where a hold may be cut: items are missing that nobody can be asked for, or too much waited for the client
abbrev pub MayCut : EndCause → Type 0
MayCut Closed = ⊥
MayCut Detached = ⊥
MayCut Gap = ⊤
MayCut Unrecovered = ⊥
MayCut Overflow = ⊤
MayCut Answered = ⊥
MayCut Retry = ⊥
MayCut TimedOut = ⊥

-- an answer was sent whole, which is no refusal; or a hold was cut; or memory is wanting
pub data EndsWell (l : LiveView) (ended : Ended) : Type 0 where
  sent : (code : ℕ) → ended.end ≡ WasSent code → ended.why ≡ why.Nothing → EndsWell l ended
  cut : (hold : ℕ) (cause : EndCause) → told_at l.seat hold ≡ Some cause → MayCut cause → ended.end ≡ Cut cause → ended.why ≡ why.Nothing → EndsWell l ended
  wanting : ended.end ≡ NoMemory → EndsWell l ended

-- a session whose request, answers and pages are accepted, with no fault, no end of its client's input while it keeps a hold, with a place for
-- its hold, and a hub that serves, ends well
abbrev pub Completes : LiveView → Ended → Type 0
Completes l ended = EndsWell l ended ⊎ Disturbed l
