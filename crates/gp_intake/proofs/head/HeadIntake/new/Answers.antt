use Rattle.gp_intake.proofs.Asking.{none_begun}
use Rattle.gp_intake.proofs.head.HeadIntake.new.Goals as goal

pub invariant_of-result : goal.invariant_of-result
invariant_of-result c = rw c.new-2.ensures.items (record { seen = c.new.ensures; begun = none_begun })

pub returns-clause-begun : goal.returns-clause-begun
returns-clause-begun c = rw c.new-2.ensures.items none_begun
