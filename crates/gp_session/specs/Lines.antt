-- A dialer of a session, and the talks with origins, since the session began.
use Rattle.std.specs.Prelude.{ℕ, zero, suc, ◌≡◌, ◌≢◌, List, [], ◌∷◌, ◌++◌, None, IfSome, ⊤}
use mathlib.Core.List.{IsPrefix}
use Rattle.gp_plain.specs.declared.http.Address.{Address}
use Rattle.gp_outside.specs.Dials.{DialTells, DialLater}
use Rattle.gp_outside.specs.Talks.{Talk, Talks, all_of, hung_up}
use Rattle.gp_exchange.specs.Views.{ExchangeView}
use Rattle.gp_exchange.specs.Answers.{rank}
use Rattle.gp_exchange.specs.Ends.{Ends}
use Rattle.gp_exchange.specs.Standing.{IsAt}
use Rattle.gp_exchange.specs.declared.place.Place.{Place}
use Rattle.gp_exchange.specs.declared.place.Place.TheVariants.{Unbegun, Connecting, Sending, Heading, Reading, Over}
use Rattle.gp_recover.specs.Outcomes.{EndsBy}
use Rattle.gp_recover.specs.Views.{SoughtView}
use Rattle.gp_recover.specs.declared.recovered.Last.{Last as RecoveryEnd}

-- what the dialer told when the session began, and what it tells
pub record LineView : Type 0 where
  pub start : DialTells
  pub dial : DialTells

-- a dialer with which a session begins
abbrev pub new_line : DialTells → LineView
new_line dial = record { start = dial; dial = dial }

-- what every move keeps: how the session began, and that no count fell
pub record MovedLine (l m : LineView) : Type 0 where
  pub start : m.start ≡ l.start
  pub later : DialLater l.dial m.dial

-- an exchange, and the content that it has given
pub record Said : Type 0 where
  pub exchange : ExchangeView
  pub given : List ℕ

-- a recovery that is over: what was sought, the place of its exchange when the talk was hung up, and its end
pub record Sought : Type 0 where
  pub sought : SoughtView
  pub at : Place
  pub end : RecoveryEnd

-- what a talk came to: what an exchange made of it, or a recovery
pub data Outcome : Type 0 where
  answered : Said → Outcome
  recovered : Sought → Outcome

-- what may be said in a talk: where it goes, and the request; and what it came to
pub record Aim : Type 0 where
  pub to : Address
  pub request : List ℕ
  pub outcome : Outcome

abbrev pub aim_of : Said → Aim
aim_of s = record { to = s.exchange.asked.to; request = s.exchange.asked.request; outcome = answered s }

abbrev pub aim_sought : Sought → Aim
aim_sought s = record { to = s.sought.to; request = s.sought.request; outcome = recovered s }

-- the bytes received led an exchange that is over to its end, with the content that it gave; of one that was hung up before nothing is said
abbrev pub EndsAt : Said → Place → List ℕ → Type 0
EndsAt s (Unbegun request) received = ⊤
EndsAt s (Connecting request) received = ⊤
EndsAt s (Sending sending) received = ⊤
EndsAt s (Heading heading) received = ⊤
EndsAt s (Reading reading) received = ⊤
EndsAt s (Over over) received = Ends s.exchange.asked over s.given received

abbrev pub CameTo : Outcome → List ℕ → Type 0
CameTo (answered s) received = EndsAt s s.exchange.place received
CameTo (recovered s) received = EndsBy s.sought s.at s.end received

-- a talk with that aim: what was sent is a beginning of the request, and all of it once something was received; and what was received led to
-- what it came to
pub record IsAimed (aim : Aim) (talk : Talk) : Type 0 where
  pub to : talk.to ≡ aim.to
  pub begun : IsPrefix talk.sent aim.request
  pub whole : talk.received ≢ [] → talk.sent ≡ aim.request
  pub came : CameTo aim.outcome talk.received

-- the talks have these aims, in order
abbrev pub AreAimed : List Aim → List Talk → Type 0
AreAimed [] [] = ⊤
AreAimed [] (talk ∷ talks) = ⊥
AreAimed (aim ∷ aims) [] = ⊥
AreAimed (aim ∷ aims) (talk ∷ talks) = IsAimed aim talk × AreAimed aims talks

-- the last exchange: there is none, it goes on, or its talk was hung up
pub data Last : Type 0 where
  idle : Last
  speaking : Said → Last
  hung : Said → Last

-- the talks stood as the exchange left them, and then the present one was hung up
pub record StandsHung (before : List Talk) (said : Said) (now : Talks) : Type 0 where
  pub was : Talks
  pub stood : IsAt said.exchange.asked before said.given said.exchange.place was
  pub now_is : now ≡ hung_up was

-- behind the talks before: no talk is present, or it stands as the exchange left it, or it was hung up then
abbrev pub StandsLast : List Talk → Last → Talks → Type 0
StandsLast before idle now = (now.over ≡ before) × (now.present ≡ None)
StandsLast before (speaking said) now = IsAt said.exchange.asked before said.given said.exchange.place now
StandsLast before (hung said) now = StandsHung before said now

-- behind the talks before the session, those of its own have these aims, and the last exchange stands behind them
pub record LineStands (before : List Talk) (aims : List Aim) (last : Last) (now : Talks) : Type 0 where
  pub mine : List Talk
  pub aimed : AreAimed aims mine
  pub stands : StandsLast (before ++ mine) last now

-- Row: the talks. Those before that of the last exchange have these aims, in order, and the last exchange stands behind them.
abbrev pub LineRow : LineView → List Aim → Last → Type 0
LineRow l aims last = IfSome l.start.talks (λ (was : Talks). IfSome l.dial.talks (LineStands was.over aims last))

-- one aim more, but where nothing has begun
abbrev pub more_if : ℕ → List Aim → Aim → List Aim
more_if zero aims aim = aims
more_if (suc n) aims aim = aims ++ aim ∷ []

abbrev pub begun_with : List Aim → Said → List Aim
begun_with aims s = more_if (rank s.exchange.place) aims (aim_of s)

-- the aims of all talks: that of the last exchange too, where it has begun
abbrev pub aims_with : List Aim → Last → List Aim
aims_with aims idle = aims
aims_with aims (speaking said) = begun_with aims said
aims_with aims (hung said) = begun_with aims said

-- what the talks since the session began were: each has its aim, in order
pub record HasTalks (before : List Talk) (aims : List Aim) (talks : Talks) : Type 0 where
  pub mine : List Talk
  pub all : all_of talks ≡ before ++ mine
  pub aimed : AreAimed aims mine

abbrev pub TalksRow : LineView → List Aim → Type 0
TalksRow l aims = IfSome l.start.talks (λ (was : Talks). IfSome l.dial.talks (HasTalks was.over aims))
