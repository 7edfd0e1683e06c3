use Rattle.std.proofs.Common.{◌≡◌, option_map, sym, ap, ◌∙◌}
use Rattle.std.proofs.lemmas.Bool.{eqb-true}
use Rattle.gp_exchange.specs.Answers.{rank}
use Rattle.gp_outside.specs.Talks.{hung_up}
use Rattle.gp_session.specs.Lines.{LineView}
use Rattle.gp_session.proofs.Lining.{hangs, is_hung}
use Rattle.gp_session.proofs.line.Line.hang_up.Goals as goal

pub returns-then-not-is_over-clause-row : goal.returns-then-not-is_over-clause-row
returns-then-not-is_over-clause-row g c = λ aims given row.
    let now : LineView = record { start = g.D.Dial.tells c.self.inside.start.value; dial = g.D.Dial.tells c.hang_up.new.self } in
    hangs c.args.self.now now aims (record { exchange = c.args.exchange.now; given = given }) (ap (λ (v : LineView). v.start) c.self.view_is)
    (ap (λ d. d.talks) c.hang_up.ensures ∙ ap (λ (v : LineView). option_map hung_up v.dial.talks) c.self.view_is) row

pub returns-else-not-is_over-clause-row : goal.returns-else-not-is_over-clause-row
returns-else-not-is_over-clause-row g c = λ aims given row.
    let five : rank c.args.exchange.now.place ≡ 5 = eqb-true (rank c.args.exchange.now.place) 5 (sym c.is_over.ensures ∙ c.if-not-is_over.false) in
    is_hung c.args.self.now aims (record { exchange = c.args.exchange.now; given = given }) five row
