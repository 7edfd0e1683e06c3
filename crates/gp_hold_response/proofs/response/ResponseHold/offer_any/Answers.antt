use Rattle.std.proofs.Common.{sym, ap, not, ◌∙◌, ◌∷◌, [], subst}
use Rattle.gp_plain.specs.Roomy.{roomy}
use Rattle.gp_plain.specs.Growth.{no_growth, with_piece, with_pieces}
use Rattle.gp_plain.specs.Holds.{answer_of}
use Rattle.gp_plain.specs.Plans.{Machine, IsMadeOf}
use Rattle.gp_hold_response.proofs.Responses.{if_ok, any_planned, any_stays, any_unheard}
use Rattle.gp_hold_response.proofs.response.ResponseHold.offer_any.Goals.{then-is_none-via-then-is_none, then-is_none-via-else-is_none+then-not-is_heard}
use Rattle.gp_hold_response.proofs.response.ResponseHold.offer_any.Goals as goal

pub returns-then-is_none : goal.returns-then-is_none
returns-then-is_none c window = elim c.then-is_none.branch [
  | then-is_none-via-then-is_none w ↦ any_stays c.args.self.now c.args.item.now window c.requires.any.0 c.requires.any.2 (c.is_none.ensures ∙ ap not w.if-is_none.true)
  | then-is_none-via-else-is_none+then-not-is_heard w ↦ any_unheard c.args.self.now c.args.channels.now c.args.item.now window c.requires.any.1 (sym w.is_heard.ensures ∙ w.if-not-is_heard.true)
]

pub returns : goal.returns
returns c window =
    if_ok c.into_plan.result (λ plan made.
    any_planned c.args.self.now c.args.channels.now c.args.item.now window c.add.new.self plan c.requires.live c.requires.any.0 c.requires.any.1 c.requires.any.2
    (sym c.is_heard.ensures ∙ c.if-not-is_heard.false) (c.is_none.ensures ∙ ap not c.if-is_none.false)
    (c.in_ok-add.ensures.ok.0 ∙ ap (λ b. with_piece c.self.inside.pending.items b c.in_ok-answer_piece.field-0) c.behind-run.ensures.0 ∙ ap (with_piece c.self.inside.pending.items no_growth) c.in_ok-answer_piece.ensures
    ∙ ap (λ (m : Machine). with_pieces m.state.pending no_growth (answer_of c.args.item.now ∷ [])) c.self.view_is)
    (subst (λ (m : Machine). IsMadeOf (roomy m.state.pending m.spare) c.add.new.self plan) c.self.view_is made))
    c.into_plan.ensures
