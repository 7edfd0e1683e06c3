use Rattle.gp_body.proofs.GatherLemmas.{refused_before}
use Rattle.gp_body.proofs.reading.Reading.feed_all.Goals as goal

pub returns-in-Some-clause-fed : goal.returns-in-Some-clause-fed
returns-in-Some-clause-fed c = refused_before c.args.self.now c.args.bytes.now c.args.into.now.items c.in-Some.fault c.in-Some.is
