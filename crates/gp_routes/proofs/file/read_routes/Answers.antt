use Rattle.std.proofs.Common.{subst, sym, ◌∙◌}
use Rattle.gp_routes.specs.Rules.{AreRules}
use Rattle.gp_routes.proofs.FileLemmas.{read_more}
use Rattle.gp_routes.proofs.RuleLemmas.{are_rules}
use Rattle.gp_routes.proofs.file.read_routes.Goals as goal

pub invariant_of-result : goal.invariant_of-result
invariant_of-result c = subst AreRules (sym (c.from_vec.ensures ∙ c.loop-rest.invariant.rules_are)) (are_rules c.loop-rest.invariant.before)

pub loop-rest-preserved : goal.loop-rest-preserved
loop-rest-preserved c =
    read_more c.args.bytes.now c.loop-rest.rest.now c.cut_line.result.1.now c.cut_line.result.0.now c.loop-rest.rules.items c.loop-rest.number c.in_ok-rule.rule c.add_rule.new.rules.items c.saturating_add-number.result
    c.loop-rest.invariant c.cut_line.ensures.line c.in_ok-rule.ensures c.in_ok-add_rule.ensures c.saturating_add-number.ensures
