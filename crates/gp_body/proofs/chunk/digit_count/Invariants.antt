use Rattle.std.proofs.Common.{◌≡◌, ◌+◌, ◌≤◌, length}
use Rattle.std.specs.Int.Digits.{digits_of}
use Rattle.gp_body.proofs.chunk.digit_count.Given as goal

abbrev pub invariant-loop-left : goal.invariant-loop-left
invariant-loop-left l = record {
  value : l.count + length (digits_of 16 l.left) ≡ length (digits_of 16 l.fn.number);
  few : length (digits_of 16 l.fn.number) ≤ 16;
}

abbrev pub decreases-loop-left : goal.decreases-loop-left
decreases-loop-left l = l.left
