use Rattle.std.proofs.Common.{refl, arith}
use Rattle.gp_exchange.proofs.Parts.{gives_kept}
use Rattle.gp_exchange.proofs.reading.Reading.advance.Goals as goal

pub returns-then-len-gt0 : goal.returns-then-len-gt0
returns-then-len-gt0 g c = λ asked. gives_kept asked c.args.self _ (g.D.Dial.tells c.args.dial.now) refl refl c.empty.ensures (omega (arith, c.len.ensures))
