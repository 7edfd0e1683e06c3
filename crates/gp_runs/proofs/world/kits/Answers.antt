use Rattle.std.proofs.Common.{[], ◌∷◌, sym, subst}
use Rattle.std.specs.List.{All}
use Rattle.std.proofs.lemmas.List.Elements.{All-nil, All-cons, All-append}
use Rattle.gp_outside.specs.MemWorlds.{IsUnusedMemKit}
use Rattle.gp_runs.proofs.world.kits.Goals as goal

pub loop-one-preserved : goal.loop-one-preserved
loop-one-preserved c =
    let kit = c.in_ok-kit.field-0 in
    subst (All IsUnusedMemKit) (sym c.in_ok-push.ensures.items)
    (All-append IsUnusedMemKit c.loop-one.kits.items (kit ∷ []) c.loop-one.invariant (All-cons IsUnusedMemKit kit [] c.in_ok-kit.ensures (All-nil IsUnusedMemKit)))
