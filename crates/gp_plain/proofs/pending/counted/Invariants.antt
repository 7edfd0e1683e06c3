use Rattle.std.proofs.Common.{◌≡◌, ◌+◌, ◌-◌, ◌≤◌, length, take, drop}
use Rattle.std.specs.List.{sum_by}
use Rattle.gp_plain.specs.Pieces.{weight, count_within}
use Rattle.gp_plain.proofs.pending.counted.Given as goal

abbrev pub invariant-loop-piece : goal.invariant-loop-piece
invariant-loop-piece l = record {
  within : l.count ≤ length l.pieces.items;
  bytes : l.bytes ≡ sum_by weight (take l.count l.pieces.items);
  room : l.bytes ≤ 65536;
  rest : l.count + count_within (65536 - l.bytes) (drop l.count l.pieces.items) ≡ count_within 65536 l.pieces.items;
}

abbrev pub decreases-loop-piece : goal.decreases-loop-piece
decreases-loop-piece l = length l.pieces.items - l.count
