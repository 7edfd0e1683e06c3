use Rattle.gp_session_recover.specs.Rows.{sides}
use Rattle.gp_session_recover.proofs.Stepped.{halts_sought, settled, short_sought}
use Rattle.gp_session_recover.proofs.recovering.Recovering.settle.Goals as goal

pub bring-requires-clause-short : goal.bring-requires-clause-short
bring-requires-clause-short g c = short_sought c.requires.0 (sides c.args.self.now c.requires.1 c.args.line.now c.args.seat.now) c.seek.new.self c.seek.new.line c.requires.2 c.if-seek.ensures

pub returns-then-seek : goal.returns-then-seek
returns-then-seek g c = λ signer wire now ready.
    settled signer now (sides c.args.self.now wire c.args.line.now c.args.seat.now) c.seek.new.self c.bring.new.self c.seek.new.line c.bring.new.seat c.bring.result ready.streams c.if-seek.ensures c.bring.ensures

pub returns-else-seek : goal.returns-else-seek
returns-else-seek g c = λ signer wire now ready. halts_sought signer now (sides c.args.self.now wire c.args.line.now c.args.seat.now) ready.streams c.seek.new.self c.seek.new.line c.if-seek.ensures
