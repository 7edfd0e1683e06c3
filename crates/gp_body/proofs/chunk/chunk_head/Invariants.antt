use Rattle.std.proofs.Common.{◌≡◌, ◌≤◌, ◌++◌, length, map, take, drop}
use Rattle.std.specs.Char.{digit_char}
use Rattle.std.specs.Int.Digits.{digits_of}
use Rattle.gp_body.proofs.chunk.chunk_head.Given as goal

abbrev pub invariant-loop-place : goal.invariant-loop-place
invariant-loop-place l = record {
  within : l.place ≤ l.count;
  room : length l.into ≡ 18;
  places : length (digits_of 16 l.left) ≡ l.place;
  digits : map digit_char (digits_of 16 l.left) ++ drop l.place (take l.count l.into) ≡ map digit_char (digits_of 16 l.fn.length);
}

abbrev pub decreases-loop-place : goal.decreases-loop-place
decreases-loop-place l = l.place
