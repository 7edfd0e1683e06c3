use Rattle.std.proofs.Common.{◌∙◌, sym, ap, subst, refl, List, map}
use Rattle.gp_registry.specs.declared.hold.Hold.{Hold}
use Rattle.gp_registry.specs.Stages.{kept_hold, IsInOrder}
use Rattle.gp_registry.specs.Steps.{kept_after_detach}
use Rattle.gp_registry.proofs.Searching.{instead_removed, order_removed}
use Rattle.gp_registry.proofs.order.release_at.Goals as goal

pub returns-clause-kept : goal.returns-clause-kept
returns-clause-kept c =
    ap (map kept_hold) c.remove-released.ensures.items ∙ instead_removed c.args.place kept_after_detach c.args.holds.now.items c.remove-released.result c.requires refl

pub returns-clause-order : goal.returns-clause-order
returns-clause-order c = λ next order.
    subst (λ (hs : List Hold). IsInOrder next hs) (sym c.remove-released.ensures.items) (order_removed next c.args.place c.args.holds.now.items c.requires order)
