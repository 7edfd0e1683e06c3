use Rattle.std.proofs.Common.{ap, Some}
use Rattle.gp_maker.proofs.Publishers.{gives_new}
use Rattle.gp_maker.proofs.server.ServerMaker.publisher.Goals as goal

pub returns-clause-gives : goal.returns-clause-gives
returns-clause-gives g c = λ claim over may.
    gives_new g.K.Listen.Link.Link.tells g.K.Dial.Dial.tells g.K.Clock.Clock.tells (record { rules = c.args.self.now.routes.now; signer = c.args.self.now.signer.now; started = c.args.self.now.started }) c.args.self.now.hub.now claim (g.K.Listen.Link.Link.tells c.args.link) c.args.pass (Some c.new.result) over (ap Some c.new.ensures) c.requires.pass c.requires.link may
