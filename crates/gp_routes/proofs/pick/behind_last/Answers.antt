use Rattle.std.proofs.Common.{arith}
use Rattle.gp_routes.proofs.PickLemmas.{behind_is, behind_found}
use Rattle.gp_routes.proofs.pick.behind_last.Goals as goal

pub returns-else-text-behind-clause-value : goal.returns-else-text-behind-clause-value
returns-else-text-behind-clause-value c =
    behind_is c.args.byte c.args.text.now c.loop-behind.behind c.loop-behind.invariant.within c.loop-behind.invariant.none (λ some. c.if-text-behind.false)

pub returns-after-loop-behind-clause-value : goal.returns-after-loop-behind-clause-value
returns-after-loop-behind-clause-value c =
    behind_is c.args.byte c.args.text.now c.loop-behind.behind c.loop-behind.invariant.within c.loop-behind.invariant.none (λ some. absurd (omega (arith, c.loop-behind-test.false)))

pub returns-after-loop-behind-clause-found : goal.returns-after-loop-behind-clause-found
returns-after-loop-behind-clause-found c =
    behind_found c.args.byte c.args.text.now c.loop-behind.behind c.loop-behind.invariant.within c.loop-behind.invariant.none (λ some. absurd (omega (arith, c.loop-behind-test.false)))
