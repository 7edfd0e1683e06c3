use Rattle.gp_exchange.proofs.exchange.advance.Goals as goal

pub returns-in-Reading : goal.returns-in-Reading
returns-in-Reading g c = rw c.in-Reading.is (c.advance-in-Reading.ensures c.args.asked.now)
