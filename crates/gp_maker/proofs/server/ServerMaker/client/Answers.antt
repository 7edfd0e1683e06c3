use Rattle.std.proofs.Common.{ap, Some, ◌∙◌}
use Rattle.gp_session_http.specs.Polls.{DevicesView, new_session}
use Rattle.gp_maker.proofs.Clients.{gives_new}
use Rattle.gp_maker.proofs.server.ServerMaker.client.Goals as goal

pub returns-clause-gives : goal.returns-clause-gives
returns-clause-gives g c = λ over may.
    let self = c.args.self.now in
    let devices : DevicesView = record { link = g.K.Listen.Link.Link.tells c.args.link; dial = g.K.Dial.Dial.tells c.dial-dial.result; clock = g.K.Clock.Clock.tells c.clock-clock.result } in
    gives_new g.K.Listen.Link.Link.tells g.K.Dial.Dial.tells g.K.Clock.Clock.tells (record { rules = self.routes.now; signer = self.signer.now; started = self.started }) self.hub.now c.args.claim devices c.args.pass (Some c.new.result) over
    (ap Some (c.new.ensures ∙ ap (λ tag. new_session devices c.args.pass (record { rules = self.routes.now; signer = self.signer.now; tag = tag })) c.in-Ok.ensures))
    c.requires.pass c.requires.link c.dial-dial.ensures.unused may
