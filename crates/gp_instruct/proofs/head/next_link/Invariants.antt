use Rattle.std.proofs.Common.{length}
use Rattle.std.specs.Prelude.{codes}
use Rattle.gp_instruct.specs.Fields.{values}
use Rattle.gp_instruct.proofs.HeadLemmas.{Follows}
use Rattle.gp_instruct.proofs.head.next_link.Given as goal

abbrev pub invariant-loop-value : goal.invariant-loop-value
invariant-loop-value l = Follows (values (codes "grip-link") l.fields) (values (codes "grip-link") l.rest)

abbrev pub decreases-loop-value : goal.decreases-loop-value
decreases-loop-value l = length l.rest
