use Rattle.std.proofs.Common.{◌≡◌, ◌≤◌, length}
use Rattle.std.specs.List.{All}
use Rattle.std.specs.Vec.{vec_capacity, vec_len}
use Rattle.gp_workers.specs.Desks.{IsDesk, IsShared}
use Rattle.gp_workers.proofs.desk.furnish.Given as goal

abbrev pub invariant-loop : goal.invariant-loop
invariant-loop l =
    All (IsDesk l.hub l.claims l.initial.pass.seen) l.desks.items
    × (length l.desks.items ≡ l.counter) × (vec_len l.desks ≡ l.counter) × (l.count ≤ vec_capacity l.desks)
    × IsShared l.claims l.desks.items l.initial.pass l.pass l.claimer
