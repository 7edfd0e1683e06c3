use Rattle.std.proofs.Common.{refl, ap, sym, subst, ◌∙◌}
use Rattle.gp_session.specs.Lines.{LineRow, LineView, speaking}
use Rattle.gp_session.proofs.Lining.{polled}
use Rattle.gp_session.proofs.line.Line.poll.Goals as goal

pub returns-clause-over : goal.returns-clause-over
returns-clause-over g c = λ last is.
    let stays = c.poll.ensures.over last is in
    (stays.0, stays.1 ∙ ap (λ (v : LineView). v.dial) c.self.view_is, stays.2)

pub returns-clause-row : goal.returns-clause-row
returns-clause-row g c = λ aims given row.
    let was : LineView = record { start = g.D.Dial.tells c.self.inside.start.value; dial = g.D.Dial.tells c.self.inside.dial } in
    let now : LineView = record { start = g.D.Dial.tells c.self.inside.start.value; dial = g.D.Dial.tells c.poll.new.dial } in
    polled was now aims c.args.exchange.now c.poll.new.self given _ refl c.poll.ensures.asked (λ before. c.poll.ensures.stands before given)
    (subst (λ (v : LineView). LineRow v aims (speaking (record { exchange = c.args.exchange.now; given = given }))) (sym c.self.view_is) row)
