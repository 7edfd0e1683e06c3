use Rattle.std.proofs.Common.{ℕ, List, ◌++◌, ap, ◌∙◌, arith, take_all}
use Rattle.std.specs.List.{flat_map}
use Rattle.gp_head.specs.Texts.{field_text}
use Rattle.gp_forward.specs.Forwards.{last_field}
use Rattle.gp_forward.proofs.Kept.{lasts_text, one_more}
use Rattle.gp_forward.proofs.write.write_lasts.Goals as goal

pub returns : goal.returns
returns c =
    let told = λ (last : List ℕ). field_text (last_field last) in
    c.loop-last.invariant
    ∙ ap (λ xs. c.args.text.now.items ++ flat_map told xs) (take_all c.loop-last.last-index c.args.lasts.now (omega (arith, c.loop-last-test.false)))
    ∙ ap (λ t. c.args.text.now.items ++ t) (lasts_text c.args.lasts.now)

pub loop-last-preserved : goal.loop-last-preserved
loop-last-preserved c =
    let told = λ (last : List ℕ). field_text (last_field last) in
    c.in_ok-write_last.ensures
    ∙ ap (λ x. x ++ told c.last-item.result) c.loop-last.invariant
    ∙ one_more told c.args.text.now.items c.args.lasts.now c.loop-last.last-index c.last-item.result c.loop-last-test.true c.last-item.is
