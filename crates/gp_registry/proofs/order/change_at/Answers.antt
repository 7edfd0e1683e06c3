use Rattle.std.proofs.Common.{◌≡◌, ◌∙◌, ◌∷◌, [], sym, ap}
use Rattle.std.proofs.Math.Seq.{map-set_same}
use Rattle.std.proofs.lemmas.Result.{on_ok_weaker, on_err_weaker}
use Rattle.gp_plain.specs.Standing.{Kept}
use Rattle.gp_registry.specs.declared.hold.Hold.{Hold}
use Rattle.gp_registry.specs.Changes.{change_of}
use Rattle.gp_registry.specs.Keeps.{after_change_kept}
use Rattle.gp_registry.specs.Stages.{kept_hold, number_of}
use Rattle.gp_registry.specs.Steps.{kept_after_change}
use Rattle.gp_registry.proofs.Searching.{instead_set, order_set}
use Rattle.gp_registry.proofs.Paging.{either, err_part, err_weaker}
use Rattle.gp_registry.proofs.order.change_at.Goals as goal

pub returns-clause-kept : goal.returns-clause-kept
returns-clause-kept c =
    let change = change_of c.args.change in
    let old = c.index_mut-own.result.now in
    let here = ap (λ (h : Hold). kept_after_change change (kept_hold h)) (sym c.index_mut-own.ensures.value) in
    on_ok_weaker c.change.result (λ (leaves : kept_hold c.change.new.self ≡ after_change_kept change (kept_hold old)).
    instead_set c.args.place (kept_after_change change) c.args.holds.now.items old c.change.new.self c.requires (here ∙ ap (λ (k : Kept). k ∷ []) (sym leaves))) c.change.ensures.leaves

pub returns-clause-order : goal.returns-clause-order
returns-clause-order c = λ next order.
    let old = c.index_mut-own.result.now in
    let number : c.change.new.self.number ≡ old.number =
    either c.change.result (on_ok_weaker c.change.result (λ (leaves : kept_hold c.change.new.self ≡ after_change_kept (change_of c.args.change) (kept_hold old)). ap (λ (k : Kept). k.number) leaves) c.change.ensures.leaves)
    (on_err_weaker c.change.result (λ (same : kept_hold c.change.new.self ≡ kept_hold old). ap (λ (k : Kept). k.number) same) (err_part (kept_hold c.change.new.self ≡ kept_hold old) _ c.change.result c.change.ensures.err)) in
    order_set next c.args.place c.args.holds.now.items c.change.new.self old (number ∙ ap number_of c.index_mut-own.ensures.value) c.requires order

pub returns-clause-err : goal.returns-clause-err
returns-clause-err c =
    let old = c.index_mut-own.result.now in
    err_weaker _ c.change.result (λ (same : kept_hold c.change.new.self ≡ kept_hold old).
    map-set_same kept_hold c.args.holds.now.items c.args.place c.change.new.self old (same ∙ ap kept_hold c.index_mut-own.ensures.value)) c.change.ensures.err
