use Rattle.std.proofs.Common.{◌≡◌, drop}
use Rattle.std.specs.Prelude.{find}
use Rattle.gp_routes.specs.declared.route.Rule.{Rule}
use Rattle.gp_routes.specs.Picks.{is_met}
use Rattle.gp_routes.proofs.route.Routes.pick.Given as goal

abbrev pub invariant-loop-rule : goal.invariant-loop-rule
invariant-loop-rule l =
    find (λ (rule : Rule). is_met l.name l.path rule.condition) (drop l.rule-index l.rule-items)
    ≡ find (λ (rule : Rule). is_met l.name l.path rule.condition) l.rule-items
