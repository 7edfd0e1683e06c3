use Rattle.std.proofs.Common.{◌≡◌, ◌∙◌, ◌∷◌, [], sym, ap}
use Rattle.std.proofs.Math.Seq.{map-set_same}
use Rattle.std.proofs.lemmas.Result.{on_ok_weaker, on_err_weaker}
use Rattle.gp_plain.specs.Standing.{Kept}
use Rattle.gp_plain.specs.History.{page_of}
use Rattle.gp_registry.specs.declared.hold.Hold.{Hold}
use Rattle.gp_registry.specs.Keeps.{after_page_kept}
use Rattle.gp_registry.specs.Stages.{kept_hold, number_of}
use Rattle.gp_registry.specs.Steps.{kept_after_page}
use Rattle.gp_registry.proofs.Searching.{instead_set, order_set}
use Rattle.gp_registry.proofs.Paging.{either}
use Rattle.gp_registry.proofs.order.page_at.Goals as goal

pub returns-clause-kept : goal.returns-clause-kept
returns-clause-kept c =
    let window = c.args.window.now.items in
    let page = page_of c.args.from.now c.args.to.now c.args.bytes.now c.args.then in
    let old = c.index_mut-own.result.now in
    let here = ap (λ (h : Hold). kept_after_page window page (kept_hold h)) (sym c.index_mut-own.ensures.value) in
    on_ok_weaker c.page.result (λ (leaves : kept_hold c.page.new.self ≡ after_page_kept window page (kept_hold old)).
    instead_set c.args.place (kept_after_page window page) c.args.holds.now.items old c.page.new.self c.requires (here ∙ ap (λ (k : Kept). k ∷ []) (sym leaves))) c.page.ensures.leaves

pub returns-clause-order : goal.returns-clause-order
returns-clause-order c = λ next order.
    let old = c.index_mut-own.result.now in
    let page = page_of c.args.from.now c.args.to.now c.args.bytes.now c.args.then in
    let number : c.page.new.self.number ≡ old.number =
    either c.page.result (on_ok_weaker c.page.result (λ (leaves : kept_hold c.page.new.self ≡ after_page_kept c.args.window.now.items page (kept_hold old)). ap (λ (k : Kept). k.number) leaves) c.page.ensures.leaves)
    (on_err_weaker c.page.result (λ (same : kept_hold c.page.new.self ≡ kept_hold old). ap (λ (k : Kept). k.number) same) c.page.ensures.err) in
    order_set next c.args.place c.args.holds.now.items c.page.new.self old (number ∙ ap number_of c.index_mut-own.ensures.value) c.requires order

pub returns-clause-err : goal.returns-clause-err
returns-clause-err c =
    let old = c.index_mut-own.result.now in
    on_err_weaker c.page.result (λ (same : kept_hold c.page.new.self ≡ kept_hold old).
    map-set_same kept_hold c.args.holds.now.items c.args.place c.page.new.self old (same ∙ ap kept_hold c.index_mut-own.ensures.value)) c.page.ensures.err
