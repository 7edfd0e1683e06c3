use Rattle.std.proofs.Common.{[]}
use Rattle.gp_intake.proofs.Coming.{of_body, none_come}
use Rattle.gp_intake.proofs.reading.BodyReading.new.Goals as goal

pub invariant_of-result : goal.invariant_of-result
invariant_of-result c = of_body _ c.args.plan [] (none_come c.args.plan c.new.result _ _ c.new.ensures c.new-2.ensures.items c.new-3.ensures.items)

pub returns-clause-come : goal.returns-clause-come
returns-clause-come c = none_come c.args.plan c.new.result _ _ c.new.ensures c.new-2.ensures.items c.new-3.ensures.items
