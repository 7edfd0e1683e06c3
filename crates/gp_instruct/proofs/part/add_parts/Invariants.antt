use Rattle.gp_instruct.specs.Asked.{rest_subs, subs_in}
use Rattle.gp_instruct.proofs.PartLemmas.{room, text_of, Leads}
use Rattle.gp_instruct.proofs.part.add_parts.Given as goal

abbrev pub invariant-loop-rest : goal.invariant-loop-rest
invariant-loop-rest l = Leads l.fn.channels l.channels (subs_in l.value) (rest_subs (text_of l.rest))

abbrev pub decreases-loop-rest : goal.decreases-loop-rest
decreases-loop-rest l = room (text_of l.rest)
