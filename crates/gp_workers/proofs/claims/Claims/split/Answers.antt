use Rattle.std.proofs.Common.{rules, arith, ◌<◌}
use Rattle.gp_workers.proofs.Claiming.{splits}
use Rattle.gp_workers.proofs.claims.Claims.split.Goals as goal

-- src/claims.rt:101:19
pub split_seat-requires : goal.split_seat-requires
split_seat-requires c =
    let words : 0 < c.self.inside.table.shared.table_id.words = omega arith in
    (search rules, words, splits c.from.inside.seat.id c.from.inside.seat.me.0 (rw (← c.from.view_is) at c.requires.parts))
