use Rattle.std.proofs.Common.{rules, arith, ◌≡◌, ◌<◌, ap, [], List}
use Rattle.gp_workers.proofs.Claiming.{takes}
use Rattle.gp_workers.proofs.claims.Claims.take.Goals as goal

-- src/claims.rt:121:9
pub fetch_add-requires : goal.fetch_add-requires
fetch_add-requires c =
    let words : 0 < c.self.inside.table.shared.table_id.words = omega arith in
    let v = c.by.inside.seat.me.0 in
    let me : c.by.inside.seat.me ≡ (v, []) = ap (λ (xs : List _). (v, xs)) c.by.invariant in
    (search rules, words, rw (c.self.invariant.1, me) (takes c.by.inside.seat.id v (rw (← c.by.view_is) at c.requires.parts)))
