use Rattle.std.specs.Prelude.{◌-◌, length}
use Rattle.gp_recover.specs.Moves.{AsksContent, On}
use Rattle.gp_recover.proofs.reading.Reading.advance.Given as goal

abbrev pub invariant-loop-next : goal.invariant-loop-next
invariant-loop-next g l = record {
  on : On l.sought l.fn.self.exchange.place l.fn.self.reader.content (g.D.Dial.tells l.fn.dial) l.reading.exchange.place l.reading.reader.content (g.D.Dial.tells l.dial);
  kept : AsksContent l.sought l.reading;
}

abbrev pub decreases-loop-next : goal.decreases-loop-next
decreases-loop-next g l = 524289 - length l.reading.reader.content
