use Rattle.std.proofs.Common.{◌≡◌, length, arith}
use Rattle.gp_workers.proofs.hire.clear.Goals as goal

-- src/hire.rt:78:1
pub returns : goal.returns
returns c =
    let empty = c.in_default.ensures.cases.0 in
    let ok = c.loop-desk.desks.ok in
    let none : length c.loop-desk.desks.items ≡ 0 = omega arith in
    let parts = c.loop-desk.invariant.4 in
    (c.loop-desk.invariant.1, c.loop-desk.invariant.2, c.loop-desk.invariant.3, omega arith)
