use Rattle.std.proofs.Common.{◌+◌, ◌*◌, sym, ◌∙◌}
use Rattle.std.specs.Char.{is_ascii_digit}
use Rattle.std.proofs.lemmas.Bool.{and_from}
use Rattle.std.proofs.lemmas.List.Folds.{list_all_more}
use Rattle.gp_serve.proofs.Numbers.{one_more_digit, too_large}
use Rattle.gp_serve.proofs.options.ranged.Goals as goal

pub returns-then-number-most-clause-value : goal.returns-then-number-most-clause-value
returns-then-number-most-clause-value c =
    let digit = sym c.is_ascii_digit.ensures.value ∙ c.if-not-is_ascii_digit.false in
    let more = one_more_digit c.args.word.now c.loop-digit.digit-index c.loop-digit.number c.from.result c.loop-digit-test.true c.loop-digit.invariant.value digit c.from.ensures in
    sym (too_large c.args.most c.args.word.now (c.loop-digit.digit-index + 1) (c.loop-digit.number * 10 + c.from.result) more c.if-number-most.true)

pub loop-digit-preserved : goal.loop-digit-preserved
loop-digit-preserved c =
    let digit = sym c.is_ascii_digit.ensures.value ∙ c.if-not-is_ascii_digit.false in
    let more = one_more_digit c.args.word.now c.loop-digit.digit-index c.loop-digit.number c.from.result c.loop-digit-test.true c.loop-digit.invariant.value digit c.from.ensures in
    record {
      digits = list_all_more is_ascii_digit c.args.word.now c.loop-digit.digit-index 0 c.loop-digit-test.true ∙ and_from _ _ c.loop-digit.invariant.digits digit;
      value = more;
      small = c.if-number-most.false;
    }
