use Rattle.std.proofs.Common.{ap, sym, subst, ◌∙◌}
use Rattle.gp_recover.specs.Moves.{StaysOver}
use Rattle.gp_recover.specs.Standing.{Stands}
use Rattle.gp_recover.specs.Views.{RecoveryView}
use Rattle.gp_recover.specs.declared.stage.Stage.{Stage}
use Rattle.gp_recover.proofs.Going.{goes_later, goes_over, goes_stands, has_talked}
use Rattle.gp_recover.proofs.recovery.Recovery.poll.Goals as goal

pub returns-clause-later : goal.returns-clause-later
returns-clause-later g c = goes_later c.self.inside.sought (g.D.Dial.tells c.args.dial.now) (g.D.Dial.tells c.advance-next.new.dial) c.advance-next.result c.replace-stage.result c.advance-next.ensures

pub returns-clause-over : goal.returns-clause-over
returns-clause-over g c =
    subst (λ (v : RecoveryView). StaysOver v (record { sought = c.self.inside.sought; stage = c.advance-next.result.stage }) (g.D.Dial.tells c.args.dial.now) (g.D.Dial.tells c.advance-next.new.dial) c.advance-next.result.recovered)
    (ap (λ (t : Stage). record { sought = c.self.inside.sought; stage = t }) c.replace-stage.ensures.value ∙ c.self.view_is)
    (goes_over c.self.inside.sought (g.D.Dial.tells c.args.dial.now) (g.D.Dial.tells c.advance-next.new.dial) c.advance-next.result c.replace-stage.result c.advance-next.ensures)

pub returns-clause-stands : goal.returns-clause-stands
returns-clause-stands g c = λ before stands.
    let old = subst (λ (v : RecoveryView). Stands before v (g.D.Dial.tells c.args.dial.now)) (sym c.self.view_is) stands in
    goes_stands c.self.inside.sought (g.D.Dial.tells c.args.dial.now) (g.D.Dial.tells c.advance-next.new.dial) c.advance-next.result c.replace-stage.result c.advance-next.ensures before (rw c.replace-stage.ensures.value old)

pub returns-clause-talked : goal.returns-clause-talked
returns-clause-talked g c = λ before stands begun.
    has_talked c.self.inside.sought before c.advance-next.result.stage (g.D.Dial.tells c.advance-next.new.dial).talks (returns-clause-stands g c before stands) begun
