use Rattle.std.proofs.Common.{◌∙◌, ◌++◌, ◌∷◌, [], ap, false}
use Rattle.gp_turn.specs.declared.view.View.{View}
use Rattle.gp_turn.proofs.Rests.{rests_after}
use Rattle.gp_turn.proofs.turn.Turn.call.Goals as goal

pub invariant_of-pass-in-Ok-serve : goal.invariant_of-pass-in-Ok-serve
invariant_of-pass-in-Ok-serve g c =
    let taken = c.in-Ok.ensures.ok in
    let p = c.pass.inside in
    let whole = c.take.new.seat.me.0.whole in
    let e = g.V.Kept.entry p.number c.of-said.result.value in
    let me = c.put.ensures.put ∙ ap (λ (u : View _). (record u { seen = whole ++ e ∷ []; holds = false }, [])) taken.view in
    rests_after g.V.Kept.number p c.put.new.seat whole e _ c.pass.invariant me taken.goes_on (g.met.V.Kept.numbered p.number c.of-said.result.value ∙ c.pass.invariant.number)
