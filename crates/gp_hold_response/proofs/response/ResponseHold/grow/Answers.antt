use Rattle.std.proofs.Common.{ap, ◌∙◌}
use Rattle.gp_plain.specs.Growth.{grown}
use Rattle.gp_plain.specs.Plans.{Machine}
use Rattle.gp_hold_response.proofs.Responses.{grow_is}
use Rattle.gp_hold_response.proofs.response.ResponseHold.grow.Goals as goal

pub returns : goal.returns
returns c =
    let s = c.self.inside in
    let none = ap (λ (m : Machine). m.state.ended) c.self.view_is ∙ c.requires.0 in
    grow_is s.heard c.move_to.new.self s.deadline s.pending.items c.append.new.self.items s.ended c.ended-self-inside.result s.want c.args.run c.args.position
    none c.move_to.ensures c.append.ensures c.ended-self-inside.ensures c.requires.2
    ∙ ap (λ (m : Machine). grown m.state c.args.run) c.self.view_is
