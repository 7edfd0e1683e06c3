use Rattle.std.proofs.Common.{◌≡◌}
use Rattle.gp_instruct.specs.Asked.{first_prev}
use Rattle.gp_instruct.specs.Texts.{parts_in}
use Rattle.gp_instruct.proofs.PartLemmas.{room, text_of}
use Rattle.gp_instruct.proofs.part.first_prev.Given as goal

abbrev pub invariant-loop-rest : goal.invariant-loop-rest
invariant-loop-rest l = first_prev (parts_in 59 (text_of l.rest)) ≡ first_prev (parts_in 59 (text_of l.parameters))

abbrev pub decreases-loop-rest : goal.decreases-loop-rest
decreases-loop-rest l = room (text_of l.rest)
