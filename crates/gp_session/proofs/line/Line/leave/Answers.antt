use Rattle.std.proofs.Common.{refl, ap, sym, subst}
use Rattle.gp_session.specs.Lines.{LineView}
use Rattle.gp_session.specs.Seeking.{SeeksRow}
use Rattle.gp_session.proofs.Pursuing.{left_row}
use Rattle.gp_session.proofs.line.Line.leave.Goals as goal

pub returns-clause-row : goal.returns-clause-row
returns-clause-row g c = λ aims row.
    let was : LineView = record { start = g.D.Dial.tells c.self.inside.start.value; dial = g.D.Dial.tells c.self.inside.dial } in
    let now : LineView = record { start = g.D.Dial.tells c.self.inside.start.value; dial = g.D.Dial.tells c.hang_up.new.self } in
    left_row was now aims c.args.recovery.now c.requires.live refl (ap (λ d. d.talks) c.hang_up.ensures) (subst (λ (v : LineView). SeeksRow v aims c.args.recovery.now) (sym c.self.view_is) row)
