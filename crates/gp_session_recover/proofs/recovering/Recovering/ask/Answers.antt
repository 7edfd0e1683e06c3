use Rattle.gp_session_recover.proofs.Stepped.{asked_not}
use Rattle.gp_session_recover.proofs.recovering.Recovering.ask.Goals as goal

pub returns-else-begin : goal.returns-else-begin
returns-else-begin g c = asked_not c.args.signer.now c.args.now c.args.self.now c.begin.new.self c.close.new.self c.args.line.now c.close.new.line c.args.from c.requires.none c.if-begin.ensures c.close.ensures
