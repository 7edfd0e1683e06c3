use Rattle.std.proofs.Common.{ap, sym, ◌∙◌}
use Rattle.std.specs.List.{before_first}
use Rattle.gp_body.specs.Plans.{is_comma, trimmed, first_part}
use Rattle.gp_body.proofs.PlanLemmas.{found, passed}
use Rattle.gp_body.proofs.field.first_part.Goals as goal

pub returns-then-is_named : goal.returns-then-is_named
returns-then-is_named c =
    let fields = found c.args.name.now c.args.fields.now c.loop-field.field-index c.field-item.result c.loop-field-test.true c.field-item.is (sym c.is_named.ensures ∙ c.if-is_named.true) c.loop-field.invariant in
    c.trimmed.ensures ∙ ap trimmed (c.before_comma.ensures ∙ ap (before_first is_comma) c.bytes.ensures) ∙ sym (ap first_part fields)

pub loop-field-preserved : goal.loop-field-preserved
loop-field-preserved c =
    passed c.args.name.now c.args.fields.now c.loop-field.field-index c.field-item.result c.loop-field-test.true c.field-item.is (sym c.is_named.ensures ∙ c.if-is_named.false) c.loop-field.invariant
