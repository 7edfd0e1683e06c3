use Rattle.std.proofs.Common.{arith}
use Rattle.gp_body.proofs.ChunkLemmas.{few_digits, one_fewer}
use Rattle.gp_body.proofs.chunk.digit_count.Goals as goal

pub loop-left-init : goal.loop-left-init
loop-left-init c = record { value = omega arith; few = few_digits 16 c.args.number (omega arith) }

pub loop-left-preserved : goal.loop-left-preserved
loop-left-preserved c = record {
  value = omega (arith, one_fewer c.loop-left.left c.loop-left-test.true, c.loop-left.invariant.value);
  few = c.loop-left.invariant.few;
}
