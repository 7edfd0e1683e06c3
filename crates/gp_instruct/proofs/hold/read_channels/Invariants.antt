use Rattle.std.proofs.Common.{[], length}
use Rattle.gp_instruct.specs.Asked.{asked}
use Rattle.gp_instruct.proofs.PartLemmas.{Leads}
use Rattle.gp_instruct.proofs.hold.read_channels.Given as goal

abbrev pub invariant-loop-value : goal.invariant-loop-value
invariant-loop-value l = Leads [] l.channels (asked l.fields) (asked l.rest)

abbrev pub decreases-loop-value : goal.decreases-loop-value
decreases-loop-value l = length l.rest
