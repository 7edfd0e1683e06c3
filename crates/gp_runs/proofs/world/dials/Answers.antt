use Rattle.std.proofs.Common.{[], ◌∷◌, sym, subst}
use Rattle.std.specs.List.{All}
use Rattle.std.proofs.lemmas.List.Elements.{All-nil, All-cons, All-append}
use Rattle.gp_outside.specs.MemDials.{DialState, told_dial}
use Rattle.gp_outside.specs.Unused.{IsUnusedDial}
use Rattle.gp_runs.proofs.world.dials.Goals as goal

pub loop-answer-preserved : goal.loop-answer-preserved
loop-answer-preserved c =
    let dial = c.in_ok-dial.field-0 in
    subst (All (λ (d : DialState). IsUnusedDial (told_dial d))) (sym c.in_ok-push.ensures.items)
    (All-append (λ (d : DialState). IsUnusedDial (told_dial d)) c.loop-answer.dials.items (dial ∷ []) c.loop-answer.invariant (All-cons (λ (d : DialState). IsUnusedDial (told_dial d)) dial [] c.in_ok-dial.ensures (All-nil (λ (d : DialState). IsUnusedDial (told_dial d)))))
