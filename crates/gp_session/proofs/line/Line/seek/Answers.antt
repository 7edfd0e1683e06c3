use Rattle.std.proofs.Common.{refl, sym, subst}
use Rattle.gp_session.specs.Lines.{LineView}
use Rattle.gp_session.specs.Seeking.{SeeksRow}
use Rattle.gp_session.proofs.Pursuing.{sought_row}
use Rattle.gp_session.proofs.line.Line.seek.Goals as goal

pub returns-clause-row : goal.returns-clause-row
returns-clause-row g c = λ aims row.
    let was : LineView = record { start = g.D.Dial.tells c.self.inside.start.value; dial = g.D.Dial.tells c.self.inside.dial } in
    let now : LineView = record { start = g.D.Dial.tells c.self.inside.start.value; dial = g.D.Dial.tells c.poll.new.dial } in
    sought_row was now aims c.args.recovery.now c.poll.new.self c.requires.live refl c.poll.ensures.sought c.poll.ensures.stands (subst (λ (v : LineView). SeeksRow v aims c.args.recovery.now) (sym c.self.view_is) row)
