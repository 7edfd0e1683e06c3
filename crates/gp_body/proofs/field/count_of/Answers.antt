use Rattle.std.proofs.Common.{arith}
use Rattle.gp_body.proofs.CountLemmas.{is_number, below, one_more}
use Rattle.gp_body.proofs.field.count_of.Goals as goal

pub overflow_mul-count : goal.overflow_mul-count
overflow_mul-count c =
    let low = below c.args.digits.now c.loop-digit.digit-index (is_number c.args.digits.now c.requires) in
    omega (arith, low, c.loop-digit.invariant)

pub overflow_add-count : goal.overflow_add-count
overflow_add-count c =
    let low = below c.args.digits.now c.loop-digit.digit-index (is_number c.args.digits.now c.requires) in
    omega (arith, low, c.loop-digit.invariant)

pub loop-digit-preserved : goal.loop-digit-preserved
loop-digit-preserved c =
    one_more c.args.digits.now c.loop-digit.digit-index c.loop-digit.count c.from.result (is_number c.args.digits.now c.requires) c.loop-digit-test.true c.loop-digit.invariant c.from.ensures
