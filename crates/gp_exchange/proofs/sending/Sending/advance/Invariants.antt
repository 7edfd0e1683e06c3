use Rattle.std.proofs.Common.{◌-◌, length, List, ℕ}
use Rattle.gp_outside.specs.Dials.{DialLater}
use Rattle.gp_outside.specs.Talks.{Talk}
use Rattle.gp_exchange.specs.Standing.{StandsAt}
use Rattle.gp_exchange.specs.Moves.{IsKept}
use Rattle.gp_exchange.specs.declared.place.Place.TheVariants as place
use Rattle.gp_exchange.proofs.sending.Sending.advance.Given as goal

abbrev pub invariant-loop-self : goal.invariant-loop-self
invariant-loop-self g l = record {
  kept : IsKept l.asked (place.Sending l.self);
  later : DialLater (g.D.Dial.tells l.fn.dial) (g.D.Dial.tells l.dial);
  stands : (before : List Talk) (given : List ℕ) → StandsAt l.asked before given (place.Sending l.fn.self) (g.D.Dial.tells l.fn.dial).talks → StandsAt l.asked before given (place.Sending l.self) (g.D.Dial.tells l.dial).talks;
}

abbrev pub decreases-loop-self : goal.decreases-loop-self
decreases-loop-self g l = length l.self.request - l.self.done
