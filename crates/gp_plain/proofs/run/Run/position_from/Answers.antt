use Rattle.std.proofs.Common.{◌≡◌, ◌∙◌, ap, subst, IfOk}
use Rattle.gp_plain.specs.Growth.{Growth}
use Rattle.gp_plain.specs.Pieces.{id_or, position_after}
use Rattle.gp_plain.proofs.Growing.{last_is}
use Rattle.gp_plain.proofs.run.Run.position_from.Goals as goal

pub returns-in-Some : goal.returns-in-Some
returns-in-Some c =
    let at = ap (λ (g : Growth). position_after c.args.from.now g.pieces) c.self.view_is in
    subst (λ p. IfOk c.copy.result (λ id. id ≡ p)) (ap (λ o. id_or o c.args.from.now) c.in-Some.ensures ∙ last_is c.args.from.now c.self.inside.pieces.items ∙ at) c.copy.ensures

pub returns-in-None : goal.returns-in-None
returns-in-None c =
    let at = ap (λ (g : Growth). position_after c.args.from.now g.pieces) c.self.view_is in
    subst (λ p. IfOk c.copy-in-None.result (λ id. id ≡ p)) (ap (λ o. id_or o c.args.from.now) c.in-None.ensures ∙ last_is c.args.from.now c.self.inside.pieces.items ∙ at) c.copy-in-None.ensures
