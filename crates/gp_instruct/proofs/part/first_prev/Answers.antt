use Rattle.std.proofs.Common.{ap, sym, ◌∙◌, List, ℕ, Option}
use Rattle.gp_instruct.specs.Asked.{first_prev, or_else}
use Rattle.gp_instruct.specs.Texts.{parts_in}
use Rattle.gp_instruct.proofs.PartLemmas.{room_smaller, parts_of_rest, text_of}
use Rattle.gp_instruct.proofs.part.first_prev.Goals as goal

pub returns-in-Some-prev_value : goal.returns-in-Some-prev_value
returns-in-Some-prev_value c =
    ap (λ (o : Option (List ℕ)). or_else o (first_prev (parts_in 59 (text_of c.cut.result.1)))) c.in-Some-prev_value.ensures
    ∙ sym (ap first_prev (parts_of_rest c.loop-rest.rest c.cut.result.1 c.in-Some.text c.in-Some.is 59 c.cut.result.0.now c.cut.ensures.front c.cut.ensures.rest))
    ∙ c.loop-rest.invariant

pub loop-rest-smaller : goal.loop-rest-smaller
loop-rest-smaller c = room_smaller c.loop-rest.rest c.cut.result.1 c.in-Some.text c.in-Some.is c.cut.ensures.shorter

pub loop-rest-preserved : goal.loop-rest-preserved
loop-rest-preserved c =
    ap (λ (o : Option (List ℕ)). or_else o (first_prev (parts_in 59 (text_of c.cut.result.1)))) c.in_default-prev_value.ensures
    ∙ sym (ap first_prev (parts_of_rest c.loop-rest.rest c.cut.result.1 c.in-Some.text c.in-Some.is 59 c.cut.result.0.now c.cut.ensures.front c.cut.ensures.rest))
    ∙ c.loop-rest.invariant
