-- What a stream says of its recoveries, and what its moves do to that.
use Rattle.std.specs.Prelude.{ℕ, ◌≡◌, ◌<◌, Bool, true, false, List, [], ◌∷◌, ◌++◌, All, Option, Some, None, IfSome, is_some, option_map, unwrap_or, ⊤}
use Rattle.std.specs.Option.{option_to_list}
use Rattle.std.specs.List.{Contains}
use Rattle.gp_plain.specs.declared.event.Event.{Event}
use Rattle.gp_plain.specs.declared.event.Event.TheVariants.{PageFailed}
use Rattle.gp_plain.specs.declared.event.HoldSpec.{HoldSpec}
use Rattle.gp_plain.specs.declared.http.Signer.{Signer}
use Rattle.gp_plain.specs.Fit.{is_short_page}
use Rattle.gp_plain.specs.Holds.{terms_of}
use Rattle.gp_outside.specs.Counts.{Rose}
use Rattle.gp_outside.specs.Dials.{DialLater, IsIdle}
use Rattle.gp_exchange.specs.Answers.{rank}
use Rattle.gp_recover.specs.Views.{IsLive, place_of}
use Rattle.gp_again.specs.Quests.{Asks, IsQuest}
use Rattle.gp_again.specs.Views.{AgainView}
use Rattle.gp_asking.specs.Asking.{IsAsking}
use Rattle.gp_session.specs.Lines.{Aim, LineRow, LineView, MovedLine, begun_with, idle}
use Rattle.gp_session.specs.Paging.{page_event}
use Rattle.gp_session.specs.Seats.{SeatView}
use Rattle.gp_session.specs.Seeking.{SeeksRow, said_by}
use Rattle.gp_session.specs.Wires.{WireView}
use Rattle.gp_session.specs.declared.paging.StreamPage.{StreamPage}
use Rattle.gp_session_hold.specs.Rows.{PagesRow, recovers_at, spec_at}
use Rattle.gp_session_hold.specs.Streams.{StreamView, Streams}
use Rattle.gp_session_recover.specs.Quests.{AreAsked, FailedByDial, Quest, after_quests, aims_of, event_of, events_of, ids_of, moments_of}
use Rattle.gp_session_recover.specs.Talks.{FailedPage, GoesOn, GotPage, IsTalkOf, LostPage}
use Rattle.gp_session_recover.specs.declared.open.Open.{Open as OpenTalk}
use Rattle.gp_session_recover.specs.declared.talk.Talk.{Talk}
use Rattle.gp_session_recover.specs.declared.talk.Talk.TheVariants.{None as NoTalk, Open, Page, Failed}

-- a stream, whom it asks for what it missed, and what it waits for
pub record RecoveringView : Type 0 where
  pub stream : StreamView
  pub again : Option AgainView
  pub talk : Talk

-- a stream between the ends of its session
pub record Sides : Type 0 where
  pub is : RecoveringView
  pub wire : WireView
  pub line : LineView
  pub seat : SeatView

abbrev pub sides : RecoveringView → WireView → LineView → SeatView → Sides
sides v w l s = record { is = v; wire = w; line = l; seat = s }

abbrev pub hold_of : Sides → ℕ
hold_of a = a.is.stream.hold.number

-- ---- the rows

-- it asks this of someone
abbrev pub AsksOf : Option AgainView → (AgainView → Type 0) → Type 0
AsksOf None Is = ⊥
AsksOf (Some o) Is = Is o

-- an open talk asks the link last seen for the page behind its id, with a token of its own moment
pub record IsOpen (signer : Signer) (t : OpenTalk) (o : AgainView) : Type 0 where
  pub to : t.recovery.sought.to ≡ o.address
  pub channel : t.recovery.sought.channel ≡ o.channel
  pub from : t.recovery.sought.from ≡ t.from
  pub request : Asks o signer t.moment.value t.from t.recovery.sought.request

-- a talk is open, and its hold waits for its page
pub record OpenRow (signer : Signer) (again : Option AgainView) (l : LineView) (aims : List Aim) (t : OpenTalk) : Type 0 where
  pub is : AsksOf again (IsOpen signer t)
  pub live : IsLive t.recovery.stage
  pub early : rank (place_of t.recovery) < 5
  pub talks : IsIdle l.start → SeeksRow l aims t.recovery

-- the last quest is over, and the hub wasn't told of it yet
pub record UntoldRow (s : SeatView) (hold : ℕ) (qs : List Quest) (events : List Event) : Type 0 where
  pub done : List Quest
  pub last : Quest
  pub all : qs ≡ done ++ last ∷ []
  pub event : event_of hold last ≡ events
  pub pages : PagesRow s (events_of hold done)

-- Rows: the talks and the pages. The hub was told of each quest but for the last, where that waits for the turn
abbrev pub IsOver : LineView → List Aim → List Quest → Type 0
IsOver l aims qs = IsIdle l.start → LineRow l (aims ++ aims_of qs) idle

abbrev pub TalkRow : Signer → Option AgainView → LineView → SeatView → ℕ → List Aim → List Quest → Talk → Type 0
TalkRow signer again l s hold aims qs NoTalk = PagesRow s (events_of hold qs) × IsOver l aims qs
TalkRow signer again l s hold aims qs (Open t) = PagesRow s (events_of hold qs) × OpenRow signer again l (aims ++ aims_of qs) t
TalkRow signer again l s hold aims qs (Page page) = UntoldRow s hold qs (page_event hold page ∷ []) × IsOver l aims qs × (is_short_page page.bytes ≡ true)
TalkRow signer again l s hold aims qs Failed = UntoldRow s hold qs (PageFailed hold ∷ []) × IsOver l aims qs

-- no talk of theirs failed by the dialer, or its faults rose since the session began
pub record Dialed (l : LineView) (qs : List Quest) : Type 0 where
  pub later : DialLater l.start l.dial
  pub rises : (q : Quest) → Contains qs q → FailedByDial q → Rose l.start.faults l.dial.faults

-- the id behind which a page is asked for, and the moment of the token
abbrev pub id_open : Talk → List (List ℕ)
id_open NoTalk = []
id_open (Open t) = t.from ∷ []
id_open (Page page) = []
id_open Failed = []

abbrev pub moment_open : Talk → List ℕ
moment_open NoTalk = []
moment_open (Open t) = t.moment.value ∷ []
moment_open (Page page) = []
moment_open Failed = []

-- a page was asked for, and the hub wasn't told of it yet
abbrev pub IsTalking : Talk → Type 0
IsTalking NoTalk = ⊥
IsTalking (Open t) = ⊤
IsTalking (Page page) = ⊤
IsTalking Failed = ⊤

-- behind the talks before it, these are the quests of a stream: each Take that told an id was acted on, but perhaps for the last
pub record Stood (signer : Signer) (source : Option AgainView) (aims : List Aim) (qs : List Quest) (a : Sides) (more : Option (List ℕ)) : Type 0 where
  pub again : a.is.again ≡ option_map (λ (o : AgainView). after_quests o qs) source
  pub asked : AreAsked signer source qs
  pub ids : recovers_at a.seat (hold_of a) ≡ ids_of qs ++ (id_open a.is.talk ++ option_to_list more)
  pub talk : TalkRow signer a.is.again a.line a.seat (hold_of a) aims qs a.is.talk
  pub dialed : Dialed a.line qs

-- Rows: the recoveries, while the stream goes on
pub record Recovers (signer : Signer) (source : Option AgainView) (aims : List Aim) (qs : List Quest) (a : Sides) : Type 0 where
  pub stood : Stood signer source aims qs a None
  pub spec : HoldSpec
  pub spec_is : spec_at a.seat (hold_of a) ≡ Some spec
  pub linked : (terms_of spec).link ≡ is_some a.is.again
  pub asking : IsTalking a.is.talk → IsAsking a.seat.pass (hold_of a)

-- the rows hold, and all that was taken is sent or waits
pub record IsReady (signer : Signer) (a : Sides) : Type 0 where
  pub source : Option AgainView
  pub aims : List Aim
  pub qs : List Quest
  pub row : Recovers signer source aims qs a
  pub streams : Streams a.is.stream a.wire a.seat

-- a talk that was cut asked this of the origin: a page by the link last seen
pub record IsCutTalk (signer : Signer) (o : AgainView) (aim : Aim) : Type 0 where
  pub to : aim.to ≡ o.address
  pub moment : ℕ
  pub from : List ℕ
  pub request : Asks o signer moment from aim.request

-- and at its end: a talk may have been cut, the hub may not have been told of a last quest, and a last id or two may not have been acted on
pub record Closed (signer : Signer) (source : Option AgainView) (aims : List Aim) (qs : List Quest) (hold : ℕ) (l : LineView) (s : SeatView) : Type 0 where
  pub asked : AreAsked signer source qs
  pub cut : Option Aim
  pub cut_is : IfSome cut (λ (aim : Aim). AsksOf (option_map (λ (o : AgainView). after_quests o qs) source) (λ (o : AgainView). IsCutTalk signer o aim))
  pub talks : IsIdle l.start → LineRow l ((aims ++ aims_of qs) ++ option_to_list cut) idle
  pub told : List Event
  pub untold : Option Event
  pub events : events_of hold qs ≡ told ++ option_to_list untold
  pub pages : PagesRow s told
  pub open_id : Option (List ℕ)
  pub more : Option (List ℕ)
  pub ids : recovers_at s hold ≡ ids_of qs ++ (option_to_list open_id ++ option_to_list more)
  pub dialed : Dialed l qs

-- ---- what moves do

-- an open talk goes on
abbrev pub IsLiveTalk : Talk → Type 0
IsLiveTalk NoTalk = ⊤
IsLiveTalk (Open t) = IsLive t.recovery.stage
IsLiveTalk (Page page) = ⊤
IsLiveTalk Failed = ⊤

-- a page that was got is short enough to be told
abbrev pub IsShortTalk : Talk → Type 0
IsShortTalk NoTalk = ⊤
IsShortTalk (Open t) = ⊤
IsShortTalk (Page page) = is_short_page page.bytes ≡ true
IsShortTalk Failed = ⊤

abbrev pub follow : Option (List ℕ) → Option AgainView → Option AgainView
follow link again = option_map (λ (o : AgainView). record o { link = unwrap_or link o.link }) again

-- what a poll of an open talk came to
pub data SeeksOpen (t : OpenTalk) (v u : RecoveringView) (l m : LineView) : Bool → Type 0 where
  waits : (next : OpenTalk) → u.talk ≡ Open next → u.again ≡ v.again → GoesOn t next l m → SeeksOpen t v u l m true
  got : (page : StreamPage) (link : Option (List ℕ)) → u.talk ≡ Page page → u.again ≡ follow link v.again → GotPage t l m page link → SeeksOpen t v u l m true
  failed : u.talk ≡ Failed → u.again ≡ v.again → FailedPage t l m → SeeksOpen t v u l m true
  lost : u.talk ≡ NoTalk → u.again ≡ v.again → LostPage t l m → SeeksOpen t v u l m false

pub record Unsought (v u : RecoveringView) (l m : LineView) (room : Bool) : Type 0 where
  pub talk : u.talk ≡ v.talk
  pub again : u.again ≡ v.again
  pub line : m ≡ l
  pub room_is : room ≡ true

abbrev pub SeeksAs : Talk → RecoveringView → RecoveringView → LineView → LineView → Bool → Type 0
SeeksAs NoTalk v u l m room = Unsought v u l m room
SeeksAs (Open t) v u l m room = SeeksOpen t v u l m room
SeeksAs (Page page) v u l m room = Unsought v u l m room
SeeksAs Failed v u l m room = Unsought v u l m room

pub record Seeks (v u : RecoveringView) (l m : LineView) (room : Bool) : Type 0 where
  pub stream : u.stream ≡ v.stream
  pub moved : MovedLine l m
  pub says : SeeksAs v.talk v u l m room

-- a talk was begun, or memory is wanting and nothing has changed
pub record BeginsTalk (v u : RecoveringView) (signer : Signer) (now : ℕ) (from : List ℕ) : Type 0 where
  pub asked : AgainView
  pub again : v.again ≡ Some asked
  pub talk : OpenTalk
  pub talk_is : u.talk ≡ Open talk
  pub from_is : talk.from ≡ from
  pub moment : talk.moment.value ≡ now
  pub quest : IsQuest asked signer now from talk.recovery

abbrev pub BegunAs : RecoveringView → RecoveringView → Signer → ℕ → List ℕ → Bool → Type 0
BegunAs v u signer now from true = BeginsTalk v u signer now from
BegunAs v u signer now from false = u.talk ≡ v.talk

pub record Begun (v u : RecoveringView) (signer : Signer) (now : ℕ) (from : List ℕ) (room : Bool) : Type 0 where
  pub stream : u.stream ≡ v.stream
  pub again : u.again ≡ v.again
  pub says : BegunAs v u signer now from room

-- the talk was hung up, where one was open
abbrev pub ClosesAs : Talk → LineView → LineView → Type 0
ClosesAs NoTalk l m = m ≡ l
ClosesAs (Open t) l m = (aims : List Aim) → SeeksRow l aims t.recovery → LineRow m (begun_with aims (said_by t.recovery)) idle
ClosesAs (Page page) l m = m ≡ l
ClosesAs Failed l m = m ≡ l

pub record Closes (v u : RecoveringView) (l m : LineView) : Type 0 where
  pub stream : u.stream ≡ v.stream
  pub again : u.again ≡ v.again
  pub talk : u.talk ≡ NoTalk
  pub moved : MovedLine l m
  pub says : ClosesAs v.talk l m
