use Rattle.std.specs.List.{All}
use Rattle.gp_outside.specs.MemLinks.{LinkState, told_link}
use Rattle.gp_outside.specs.Unused.{IsUnusedLink}
use Rattle.gp_runs.proofs.world.links.Given as goal

abbrev pub invariant-loop-input : goal.invariant-loop-input
invariant-loop-input l = All (λ (link : LinkState). IsUnusedLink (told_link link)) l.links.items
