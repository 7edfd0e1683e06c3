use Rattle.std.proofs.Common.{rules, arith, ◌<◌}
use Rattle.gp_workers.proofs.Claiming.{joins}
use Rattle.gp_workers.proofs.claims.Claims.join.Goals as goal

-- src/claims.rt:111:9
pub join_seat-requires : goal.join_seat-requires
join_seat-requires c =
    let words : 0 < c.self.inside.table.shared.table_id.words = omega arith in
    (search rules, search rules, c.gone.invariant, words, joins c.into.inside.seat.id c.gone.inside.seat.id c.into.inside.seat.me.0 c.gone.inside.seat.me.0)
