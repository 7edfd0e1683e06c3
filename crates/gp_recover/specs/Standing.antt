-- How the talks that a dialer tells stand behind a recovery.
use Rattle.std.specs.Prelude.{◌≡◌, ◌<◌, List, [], ◌∷◌, ◌++◌, None, IfSome}
use Rattle.gp_outside.specs.Dials.{DialTells}
use Rattle.gp_outside.specs.Talks.{Talk, Talks}
use Rattle.gp_exchange.specs.Answers.{rank}
use Rattle.gp_exchange.specs.Standing as exchange
use Rattle.gp_exchange.specs.declared.place.Place.{Place}
use Rattle.gp_recover.specs.Outcomes.{EndsBy}
use Rattle.gp_recover.specs.Views.{RecoveryView, SoughtView, asked_by, place_of}
use Rattle.gp_recover.specs.declared.recovered.Last.{Last}
use Rattle.gp_recover.specs.declared.stage.Stage.{Stage}
use Rattle.gp_recover.specs.declared.stage.Stage.TheVariants.{Unbegun, Heading, Reading, Over, Lost}

-- behind the talks before stands that of the recovery, which is hung up, and its bytes are the cause of the end
pub record IsOver (s : SoughtView) (before : List Talk) (at : Place) (last : Last) (talks : Talks) : Type 0 where
  pub talk : Talk
  pub over : talks.over ≡ before ++ talk ∷ []
  pub present : talks.present ≡ None
  pub is_talk : exchange.IsTalk (asked_by s) talk
  pub cause : EndsBy s at last talk.received

-- while the talk goes on the talks stand as the exchange left them, which has given the content that was read
abbrev pub IsAt : SoughtView → List Talk → Stage → Talks → Type 0
IsAt s before (Unbegun unbegun) talks = exchange.IsUnbegun before [] talks
IsAt s before (Heading heading) talks = exchange.IsAt (asked_by s) before [] heading.exchange.place talks
IsAt s before (Reading reading) talks = exchange.IsAt (asked_by s) before reading.reader.content reading.exchange.place talks
IsAt s before (Over over) talks = IsOver s before over.exchange.value.place over.last talks
IsAt s before Lost talks = exchange.IsUnbegun before [] talks

-- behind the talks before, those of the dialer stand as the recovery left them
abbrev pub Stands : List Talk → RecoveryView → DialTells → Type 0
Stands before r dial = IfSome dial.talks (IsAt r.sought before r.stage)

-- once the talk has begun, there is one more than before, to the origin: what was sent is a beginning of the request, and all of
-- it once something was received
abbrev pub Talked : List Talk → RecoveryView → DialTells → Type 0
Talked before r dial = 0 < rank (place_of r) → IfSome dial.talks (exchange.HasTalk (asked_by r.sought) before)
