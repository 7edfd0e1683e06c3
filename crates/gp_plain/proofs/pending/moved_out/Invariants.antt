use Rattle.std.proofs.Common.{◌≡◌, take, drop, vec_capacity}
use Rattle.std.specs.VecDeque.{deque_capacity}
use Rattle.gp_plain.proofs.pending.moved_out.Given as goal

abbrev pub invariant-loop-turn : goal.invariant-loop-turn
invariant-loop-turn l = record {
  given : l.given.items ≡ take l._turn l.initial.pieces.items;
  rest : l.pieces.items ≡ drop l._turn l.initial.pieces.items;
  room : vec_capacity l.given ≡ l.count;
  capacity : deque_capacity l.pieces ≡ deque_capacity l.initial.pieces;
}
