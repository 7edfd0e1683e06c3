use Rattle.std.proofs.Common.{◌≡◌, List, ℕ, []}
use Rattle.gp_outside.specs.Dials.{DialLater}
use Rattle.gp_outside.specs.Talks.{Talk}
use Rattle.gp_exchange.specs.Views.{AskedView}
use Rattle.gp_exchange.specs.Answers.{head_of}
use Rattle.gp_exchange.specs.Standing.{StandsAt}
use Rattle.gp_exchange.specs.declared.place.Place.TheVariants.{Reading}
use Rattle.gp_exchange.proofs.Framing.{left}
use Rattle.gp_exchange.proofs.reading.Reading.receive.Given as goal

abbrev pub invariant-loop-last : goal.invariant-loop-last
invariant-loop-last g l = record {
  part : l.self.part ≡ [];
  head : head_of (Reading l.self) ≡ head_of (Reading l.fn.self);
  later : DialLater (g.D.Dial.tells l.fn.dial) (g.D.Dial.tells l.dial);
  stands : (asked : AskedView) (before : List Talk) (given : List ℕ) → StandsAt asked before given (Reading l.fn.self) (g.D.Dial.tells l.fn.dial).talks → StandsAt asked before given (Reading l.self) (g.D.Dial.tells l.dial).talks;
}

abbrev pub decreases-loop-last : goal.decreases-loop-last
decreases-loop-last g l = left l.self.reader
