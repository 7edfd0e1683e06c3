use Rattle.std.proofs.Common.{ℕ, ◌≡◌, ◌+◌, ◌≤◌, ◌++◌, length, map}
use Rattle.std.specs.List.{All}
use Rattle.std.specs.Vec.{vec_capacity, vec_len}
use Rattle.gp_workers.specs.Desks.{IsDesk, desks_in}
use Rattle.gp_workers.specs.Served.{workers_in}
use Rattle.gp_workers.specs.Books.{books}
use Rattle.gp_workers.specs.Hires.{IsNew}
use Rattle.gp_workers.proofs.hire.hire.Given as goal

abbrev pub invariant-loop-kit : goal.invariant-loop-kit
invariant-loop-kit g l =
    All (IsDesk l._hub l._claims l._pass.seen) l.desks.items
    × (length l.desks.items ≡ length l.kits)
    × (map (λ w. w.kit) l.workers.items ++ l.kits ≡ l.initial.kits)
    × All (λ w. (w.pass.seen ≡ l._pass.seen) × IsNew l._hub l._claims (books g.K.Kit.parts g.K.Listen.Listen.tells w)) l.workers.items
    × (vec_len l.workers + length l.kits ≤ vec_capacity l.workers)
    × ((n : ℕ) → workers_in n l.workers.items + desks_in n l.desks.items ≡ desks_in n l.initial.desks.items)

abbrev pub decreases-loop-kit : goal.decreases-loop-kit
decreases-loop-kit g l = length l.kits
