use Rattle.std.proofs.Common.{sym, ap, cond, ◌∙◌, subst, ◌∷◌, []}
use Rattle.std.specs.Option.{option_map_or}
use Rattle.gp_plain.specs.declared.event.HoldKind.TheVariants.{Response as ResponseKind}
use Rattle.gp_plain.specs.Roomy.{roomy}
use Rattle.gp_plain.specs.Growth.{no_growth, with_pieces}
use Rattle.gp_plain.specs.Holds.{piece_by, ends_by, followers}
use Rattle.gp_plain.specs.Plans.{Machine, IsMadeOf}
use Rattle.gp_hold_response.proofs.Responses.{if_ok, from_planned, from_stays}
use Rattle.gp_hold_response.proofs.response.ResponseHold.offer_from.Goals as goal

pub returns-then-not-comes_next : goal.returns-then-not-comes_next
returns-then-not-comes_next g c =
    from_stays c.args.self.now c.args.channel.now c.args.position.now c.args.item.now (g.I.Tail.items c.args.window.now) c.requires.from.0 c.requires.from.1 c.requires.from.2
    (sym c.is_on.ensures ∙ c.if-not-is_on.false) (sym c.leaves_gap.ensures ∙ c.if-leaves_gap.false) (sym c.comes_next.ensures ∙ c.if-not-comes_next.true)

pub returns : goal.returns
returns g c =
    let w = g.I.Tail.items c.args.window.now in
    let ps = piece_by ResponseKind c.args.item.now ∷ cond (ends_by ResponseKind c.args.item.now) [] (option_map_or (λ id. followers ResponseKind c.args.channel.now id w) c.args.item.now.id []) in
    if_ok c.into_plan.result (λ plan made.
    from_planned c.args.self.now c.args.channel.now c.args.position.now c.args.item.now w c.in_ok-run.run' plan c.requires.live c.requires.from.0 c.requires.from.1 c.requires.from.2
    (sym c.is_on.ensures ∙ c.if-not-is_on.false) (sym c.leaves_gap.ensures ∙ c.if-leaves_gap.false) (sym c.comes_next.ensures ∙ c.if-not-comes_next.false)
    (c.in_ok-run.ensures.0 ∙ ap (λ (m : Machine). with_pieces m.state.pending no_growth ps) c.self.view_is)
    (subst (λ (m : Machine). IsMadeOf (roomy m.state.pending m.spare) c.in_ok-run.run' plan) c.self.view_is made))
    c.into_plan.ensures
