use Rattle.std.proofs.Common.{sym, subst, Option}
use Rattle.gp_session_http.specs.Polls.{OpenView, PollWaits}
use Rattle.gp_session_http.proofs.Turning.{poll_waits}
use Rattle.gp_session_http.proofs.session.HttpSessionSession.poll.Goals as goal

pub returns-in-Ok-clause-turned : goal.returns-in-Ok-clause-turned
returns-in-Ok-clause-turned g c =
    subst (λ (o : Option OpenView). PollWaits c.args.self.now (record { open_is = o; left = c.self.inside.left })) (sym c.replace.ensures.after)
    (poll_waits c.args.self.now c.self.inside.«open» c.self.inside.left c.in-Some.«open» c.in-Ok.«open» c.self.view_is (sym c.in-Some.ensures.value) c.self.invariant c.in-Ok.ensures)
