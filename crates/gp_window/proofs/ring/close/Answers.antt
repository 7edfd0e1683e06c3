use Rattle.std.proofs.Common.{List, ℕ, ◌++◌, ◌∷◌, [], sym, subst}
use Rattle.gp_window.specs.Tips.{IsMarked}
use Rattle.gp_window.proofs.Tipping.{closed}
use Rattle.gp_window.proofs.ring.close.Goals as goal

pub returns-in-Some-find : goal.returns-in-Some-find
returns-in-Some-find c =
    subst (λ (ns : List ℕ). IsMarked (c.args.items.now ++ c.args.item.now ∷ []) c.args.items.now ns) (sym c.set.ensures)
    (closed c.args.items.now c.args.item.now c.args.tips.now c.in-Some-find.place c.in-Some.prev.now (sym c.in-Some.ensures) c.in-Some-find.ensures c.requires)
