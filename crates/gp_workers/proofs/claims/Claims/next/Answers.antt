use Rattle.std.proofs.Common.{rules, arith, ◌≡◌, ◌<◌, ap, [], List}
use Rattle.gp_workers.proofs.Claiming.{looks}
use Rattle.gp_workers.proofs.claims.Claims.next.Goals as goal

-- src/claims.rt:132:9
pub load-requires : goal.load-requires
load-requires c =
    let words : 0 < c.self.inside.table.shared.table_id.words = omega arith in
    let v = c.by.inside.seat.me.0 in
    let me : c.by.inside.seat.me ≡ (v, []) = ap (λ (xs : List _). (v, xs)) c.by.invariant in
    (search rules, words, rw (c.self.invariant.1, me) (looks c.by.inside.seat.id v))
