use Rattle.std.proofs.Common.{◌≡◌, ◌++◌, List, length}
use Rattle.gp_serve.specs.Serves.{with_kits}
use Rattle.gp_serve.proofs.server.hand_over.Given as goal

abbrev pub invariant-loop-kit : goal.invariant-loop-kit
invariant-loop-kit g l = (some : List _) × (l.initial.kits ≡ some ++ l.kits) × (g.W.World.parts l.world ≡ with_kits (g.W.World.parts l.initial.world) some)

abbrev pub decreases-loop-kit : goal.decreases-loop-kit
decreases-loop-kit g l = length l.kits
