-- How the talks that a dialer tells stand behind an exchange.
use Rattle.std.specs.Prelude.{ℕ, ◌≡◌, ◌≢◌, List, [], ◌∷◌, ◌++◌, take, Option, Some, None, IfSome}
use mathlib.Core.List.{IsPrefix}
use Rattle.gp_outside.specs.Dials.{DialTells}
use Rattle.gp_outside.specs.Talks.{Talk, Talks, all_of}
use Rattle.gp_exchange.specs.Views.{AskedView, ExchangeView}
use Rattle.gp_exchange.specs.Heads.{HeadsSoFar}
use Rattle.gp_exchange.specs.Ends.{Reads, Ends}
use Rattle.gp_exchange.specs.declared.answer.Progress.{Progress}
use Rattle.gp_exchange.specs.declared.answer.Progress.TheVariants.{Head, Part, End, NotReady, Fault, NoMemory}
use Rattle.gp_exchange.specs.declared.heading.Heading.{Heading as HeadHeading}
use Rattle.gp_exchange.specs.declared.reading.Reading.{Reading as BodyReading}
use Rattle.gp_exchange.specs.declared.place.Over.{Over as PlaceOver}
use Rattle.gp_exchange.specs.declared.place.Place.{Place}
use Rattle.gp_exchange.specs.declared.place.Place.TheVariants.{Unbegun, Connecting, Sending, Heading, Reading, Over}

-- the content that an answer gives
abbrev pub part_of : Progress → List ℕ
part_of (Head head) = []
part_of (Part part) = part
part_of End = []
part_of NotReady = []
part_of (Fault fault) = []
part_of NoMemory = []

-- behind those that were over before, the talk is the present one, and so much was sent and received in it
pub record IsPresent (asked : AskedView) (before : List Talk) (sent received : List ℕ) (talks : Talks) : Type 0 where
  pub over : talks.over ≡ before
  pub present : talks.present ≡ Some (record { to = asked.to; sent = sent; received = received })

-- a talk to the origin: what was sent is a beginning of the request, and all of it once something was received
pub record IsTalk (asked : AskedView) (talk : Talk) : Type 0 where
  pub to : talk.to ≡ asked.to
  pub begun : IsPrefix talk.sent asked.request
  pub whole : talk.received ≢ [] → talk.sent ≡ asked.request

-- no talk has begun
pub record IsUnbegun (before : List Talk) (given : List ℕ) (talks : Talks) : Type 0 where
  pub over : talks.over ≡ before
  pub present : talks.present ≡ None
  pub none_given : given ≡ []

-- part of the request was sent, and nothing was received
pub record IsSending (asked : AskedView) (before : List Talk) (given sent : List ℕ) (talks : Talks) : Type 0 where
  pub talk : IsPresent asked before sent [] talks
  pub none_given : given ≡ []

-- the request was sent, and what was received isn't the whole of the heads
pub record IsHeading (asked : AskedView) (before : List Talk) (given : List ℕ) (heading : HeadHeading) (talks : Talks) : Type 0 where
  pub received : List ℕ
  pub talk : IsPresent asked before asked.request received talks
  pub heads : HeadsSoFar received heading
  pub none_given : given ≡ []

-- the request was sent, and of the body's content that was received all was given but the part that is kept
pub record IsReading (asked : AskedView) (before : List Talk) (given : List ℕ) (reading : BodyReading) (talks : Talks) : Type 0 where
  pub received : List ℕ
  pub talk : IsPresent asked before asked.request received talks
  pub body : Reads asked reading.head.value reading.reader (given ++ reading.part) received

-- the talk is hung up, and its bytes are the cause of the end
pub record IsOver (asked : AskedView) (before : List Talk) (given : List ℕ) (ending : PlaceOver) (talks : Talks) : Type 0 where
  pub talk : Talk
  pub over : talks.over ≡ before ++ talk ∷ []
  pub present : talks.present ≡ None
  pub is_talk : IsTalk asked talk
  pub cause : Ends asked ending given talk.received

abbrev pub IsAt : AskedView → List Talk → List ℕ → Place → Talks → Type 0
IsAt asked before given (Unbegun request) talks = IsUnbegun before given talks
IsAt asked before given (Connecting request) talks = IsSending asked before given [] talks
IsAt asked before given (Sending sending) talks = IsSending asked before given (take sending.done asked.request) talks
IsAt asked before given (Heading heading) talks = IsHeading asked before given heading talks
IsAt asked before given (Reading reading) talks = IsReading asked before given reading talks
IsAt asked before given (Over over) talks = IsOver asked before given over talks

-- the talks stand as an exchange at a place left them, which has given so much content
abbrev pub StandsAt : AskedView → List Talk → List ℕ → Place → Option Talks → Type 0
StandsAt asked before given place talks = IfSome talks (IsAt asked before given place)

abbrev pub Stands : List Talk → List ℕ → ExchangeView → DialTells → Type 0
Stands before given x dial = StandsAt x.asked before given x.place dial.talks

-- behind those before there is one talk more, present or over
pub record HasTalk (asked : AskedView) (before : List Talk) (talks : Talks) : Type 0 where
  pub talk : Talk
  pub all : all_of talks ≡ before ++ talk ∷ []
  pub is_talk : IsTalk asked talk

abbrev pub Talked : List Talk → ExchangeView → DialTells → Type 0
Talked before x dial = IfSome dial.talks (HasTalk x.asked before)
