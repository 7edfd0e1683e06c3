use Rattle.std.proofs.Common.{◌≡◌, ◌++◌, ◌∙◌, ap, sym, subst}
use Rattle.gp_exchange.specs.Views.{ExchangeView}
use Rattle.gp_exchange.specs.Standing.{Stands, part_of}
use Rattle.gp_exchange.specs.Moves.{StaysOver}
use Rattle.gp_exchange.specs.declared.place.Place.{Place}
use Rattle.gp_exchange.proofs.Leading.{stays_over}
use Rattle.gp_exchange.proofs.Talking.{talked}
use Rattle.gp_exchange.proofs.exchange.Exchange.poll.Goals as goal

pub returns-clause-talked : goal.returns-clause-talked
returns-clause-talked g c = λ before given stands.
    let old = subst (λ (x : ExchangeView). Stands before given x (g.D.Dial.tells c.args.dial.now)) (sym c.self.view_is) stands in
    talked c.self.inside.asked before (given ++ part_of c.advance-next.result.progress) c.advance-next.result.place (g.D.Dial.tells c.advance-next.new.dial).talks c.advance-next.ensures.begun
    (c.advance-next.ensures.stands before given (rw c.replace-place.ensures.value old))

pub returns-clause-over : goal.returns-clause-over
returns-clause-over g c =
    let old : Place = c.args.self.now.place in
    let was : c.replace-place.result ≡ old = c.replace-place.ensures.value ∙ ap (λ (x : ExchangeView). x.place) c.self.view_is in
    subst (λ (p : Place). StaysOver p c.advance-next.result.place (g.D.Dial.tells c.args.dial.now) (g.D.Dial.tells c.advance-next.new.dial) c.advance-next.result.progress) was
    (stays_over c.self.inside.asked c.replace-place.result (g.D.Dial.tells c.args.dial.now) (g.D.Dial.tells c.advance-next.new.dial) c.advance-next.result c.advance-next.ensures)
