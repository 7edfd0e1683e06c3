use Rattle.std.proofs.Common.{◌≡◌, ◌^◌, ap, arith}
use Rattle.gp_hub.specs.Passes.{HubView}
use Rattle.gp_shifts.proofs.run.play.Goals as goal

-- src/run.rt:136:19
pub work-requires-clause-numbers : goal.work-requires-clause-numbers
work-requires-clause-numbers g c κs within =
    let few = c.in_ok-kits.ensures in
    let spare : c.in_ok-hub.pass.spare ≡ 2 ^ 63 = ap (λ (q : HubView). q.spare) c.in_ok-hub.ensures in omega arith
