use Rattle.std.proofs.Common.{◌∙◌, sym, ap, subst, map}
use Rattle.std.proofs.Math.Seq.{map-set_same}
use Rattle.gp_plain.specs.Standing.{Kept}
use Rattle.gp_registry.specs.declared.hold.Hold.{Hold}
use Rattle.gp_registry.specs.Stages.{kept_hold, number_of, IsInOrder}
use Rattle.gp_registry.specs.Steps.{kept_after_take}
use Rattle.gp_registry.proofs.Searching.{instead_set, instead_other, order_set}
use Rattle.gp_registry.proofs.Taking.{told_end, told_none, on_err_given}
use Rattle.gp_registry.proofs.order.take_at.Goals as goal
use Rattle.gp_registry.proofs.order.take_at.Goals.{then-is_some, else-is_some}

pub returns-in_err-taken-clause-order : goal.returns-in_err-taken-clause-order
returns-in_err-taken-clause-order c = λ next order.
    order_set next c.args.place c.args.holds.now.items c.take.new.self c.index_mut-own.result.now (ap (λ (k : Kept). k.number) c.in_err-taken.ensures.err ∙ ap number_of c.index_mut-own.ensures.value) c.requires order

pub returns-in_err-taken-clause-err : goal.returns-in_err-taken-clause-err
returns-in_err-taken-clause-err c = on_err_given c.from_residual.result (map-set_same kept_hold c.args.holds.now.items c.args.place c.take.new.self c.index_mut-own.result.now (c.in_err-taken.ensures.err ∙ ap kept_hold c.index_mut-own.ensures.value))

pub returns-clause-kept : goal.returns-clause-kept
returns-clause-kept c =
    let old = c.index_mut-own.result.now in
    let at = ap (λ (h : Hold). kept_after_take c.args.now (kept_hold h)) (sym c.index_mut-own.ensures.value) in
    elim c.if-is_some.branch [
      | then-is_some w ↦
          ap (λ v. map kept_hold v.items) w.holds-is
          ∙ w.release_at.ensures.kept
          ∙ instead_other c.args.place (kept_after_take c.args.now) c.args.holds.now.items old c.take.new.self c.requires (at ∙ told_end c.args.now (kept_hold old) c.in_ok-taken.taken c.is_some.result c.in_ok-taken.ensures.gives c.is_some.ensures w.if-is_some.true)
      | else-is_some w ↦
          ap (λ v. map kept_hold v.items) w.holds-is
          ∙ instead_set c.args.place (kept_after_take c.args.now) c.args.holds.now.items old c.take.new.self c.requires (at ∙ told_none c.args.now (kept_hold old) (kept_hold c.take.new.self) c.in_ok-taken.taken c.is_some.result c.in_ok-taken.ensures.gives c.is_some.ensures w.if-is_some.false c.in_ok-taken.ensures.leaves)
    ]

pub returns-clause-order : goal.returns-clause-order
returns-clause-order c = λ next order.
    let kept = order_set next c.args.place c.args.holds.now.items c.take.new.self c.index_mut-own.result.now (ap (λ (k : Kept). k.number) c.in_ok-taken.ensures.leaves ∙ ap number_of c.index_mut-own.ensures.value) c.requires order in
    elim c.if-is_some.branch [
      | then-is_some w ↦ subst (λ v. IsInOrder next v.items) (sym w.holds-is) (w.release_at.ensures.order next kept)
      | else-is_some w ↦ subst (λ v. IsInOrder next v.items) (sym w.holds-is) kept
    ]
