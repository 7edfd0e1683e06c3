use Rattle.std.proofs.Common.{◌∙◌, ◌∷◌, [], sym, ap}
use Rattle.gp_plain.specs.Standing.{Kept}
use Rattle.gp_registry.specs.declared.hold.Hold.{Hold}
use Rattle.gp_registry.specs.Stages.{kept_hold, number_of}
use Rattle.gp_registry.specs.Steps.{kept_after_failure}
use Rattle.gp_registry.proofs.Searching.{instead_set, order_set}
use Rattle.gp_registry.proofs.order.fail_at.Goals as goal

pub returns-clause-kept : goal.returns-clause-kept
returns-clause-kept c =
    let here = ap (λ (h : Hold). kept_after_failure (kept_hold h)) (sym c.index_mut-own.ensures.value) ∙ ap (λ (k : Kept). k ∷ []) (sym c.fail.ensures.leaves) in
    instead_set c.args.place kept_after_failure c.args.holds.now.items c.index_mut-own.result.now c.fail.new.self c.requires here

pub returns-clause-order : goal.returns-clause-order
returns-clause-order c = λ next order.
    order_set next c.args.place c.args.holds.now.items c.fail.new.self c.index_mut-own.result.now (ap (λ (k : Kept). k.number) c.fail.ensures.leaves ∙ ap number_of c.index_mut-own.ensures.value) c.requires order
