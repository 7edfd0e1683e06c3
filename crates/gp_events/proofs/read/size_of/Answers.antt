use Rattle.std.proofs.Common.{arith}
use Rattle.std.proofs.lemmas.Int.Digits.{digits_value_more}
use Rattle.gp_events.proofs.SizeLemmas.{digit_below, size_step}
use Rattle.gp_events.proofs.read.size_of.Goals as goal

pub overflow_mul-size : goal.overflow_mul-size
overflow_mul-size c = omega (arith, size_step c.args.digits.now c.loop-digit.digit-index c.requires.hex c.requires.few (omega arith), c.loop-digit.invariant)

pub value_of-requires : goal.value_of-requires
value_of-requires c = digit_below 16 c.args.digits.now c.loop-digit.digit-index c.requires.hex (omega arith)

pub overflow_add-size : goal.overflow_add-size
overflow_add-size c =
    omega (arith, size_step c.args.digits.now c.loop-digit.digit-index c.requires.hex c.requires.few (omega arith), c.loop-digit.invariant, c.value_of.ensures)

pub loop-digit-preserved : goal.loop-digit-preserved
loop-digit-preserved c =
    omega (arith, digits_value_more 16 c.args.digits.now c.loop-digit.digit-index (omega arith), c.loop-digit.invariant, c.value_of.ensures)
