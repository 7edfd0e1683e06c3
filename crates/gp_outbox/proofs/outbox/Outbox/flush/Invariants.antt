use Rattle.std.proofs.Common.{◌≡◌, ◌≤◌, ◌+◌, min, length}
use Rattle.gp_outbox.specs.Flush.{Passed}
use Rattle.gp_outbox.specs.Segments.{waiting}
use Rattle.gp_outbox.proofs.outbox.Outbox.flush.Given as goal

abbrev pub invariant-loop-self : goal.invariant-loop-self
invariant-loop-self g l = record {
  within : l.self-inside.done ≤ length l.self-inside.front;
  passed : Passed (g.L.Link.tells l.fn.link) (g.L.Link.tells l.link) l.fn.self (waiting l.self-inside.done l.self-inside.front l.self-inside.behind.items l.self-inside.last.items);
  quiet : (g.L.Link.tells l.link).faults ≡ (g.L.Link.tells l.fn.link).faults;
}

abbrev pub decreases-loop-self : goal.decreases-loop-self
decreases-loop-self g l = length (waiting l.self-inside.done l.self-inside.front l.self-inside.behind.items l.self-inside.last.items) + length l.self-inside.behind.items + min 1 (length l.self-inside.last.items)
