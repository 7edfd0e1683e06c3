use Rattle.std.proofs.Common.{rules, ◌≡◌, [], ◌∷◌, sym, subst, Some}
use Rattle.atomic_table.specs.Table.{opening}
use Rattle.gp_turn.specs.Rule.{IsKept, newcomer}
use Rattle.gp_turn.proofs.Turns.{opens}
use Rattle.gp_turn.proofs.turn.Turn.new.Goals as goal

pub new-requires : goal.new-requires
new-requires g c =
    let items : c.push.new.self.items ≡ Some c.args.value ∷ [] = search rules in
    subst (λ xs. IsKept g.V.Kept.stands g.V.Kept.number (opening (0 ∷ []) xs newcomer)) (sym items) (opens g.V.Kept.stands g.V.Kept.number c.args.value c.requires)
