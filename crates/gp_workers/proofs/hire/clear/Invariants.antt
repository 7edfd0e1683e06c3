use Rattle.std.proofs.Common.{◌≡◌, ◌+◌, ◌*◌, ◌^◌, length}
use Rattle.std.specs.List.{All}
use Rattle.gp_workers.specs.Desks.{IsDesk}
use Rattle.gp_workers.proofs.hire.clear.Given as goal

abbrev pub invariant-loop-desk : goal.invariant-loop-desk
invariant-loop-desk l =
    All (IsDesk l.hub l._claims l.initial.pass.seen) l.desks.items
    × (l.pass.seen ≡ l.initial.pass.seen) × (l.pass.number ≡ l.initial.pass.number) × (l.pass.turn ≡ l.initial.pass.turn)
    × (l.pass.parts + 2 ^ 44 * length l.desks.items ≡ l.initial.pass.parts + 2 ^ 44 * length l.initial.desks.items)

abbrev pub decreases-loop-desk : goal.decreases-loop-desk
decreases-loop-desk l = goal.left-loop-desk l
