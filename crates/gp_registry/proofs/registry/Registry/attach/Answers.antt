use Rattle.std.proofs.Common.{◌<◌, length, arith, refl}
use Rattle.gp_registry.proofs.Searching.{order_pushed}
use Rattle.gp_registry.proofs.registry.Registry.attach.Goals as goal

pub invariant_of-self-2 : goal.invariant_of-self-2
invariant_of-self-2 c =
    let few : length c.self.inside.holds.items < 4096 = omega arith in
    order_pushed c.self.inside.next _ _ _ _ c.push_reserved.ensures.items c.made.ensures.same refl few c.self.invariant
