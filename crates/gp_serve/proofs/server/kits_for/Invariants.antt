use Rattle.std.proofs.Common.{◌≡◌, ◌≤◌, All, length}
use Rattle.gp_outside.specs.Worlds.{IsUnusedKit}
use Rattle.gp_serve.proofs.server.kits_for.Given as goal

abbrev pub invariant-loop-number : goal.invariant-loop-number
invariant-loop-number g l = record {
  count : length l.kits.items ≡ l.number;
  most : l.number ≤ l.number-end;
  unused : All (λ kit. IsUnusedKit g.W.Kit.Listen.Listen.tells (g.W.Kit.Kit.parts kit)) l.kits.items;
  same : g.W.World.parts l.world ≡ g.W.World.parts l.initial.world;
}
