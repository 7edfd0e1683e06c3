use Rattle.gp_hub.proofs.Owned.{detached}
use Rattle.gp_hub.proofs.hub.Hub.detach.Goals as goal

pub returns-in-Ok-clause-ok : goal.returns-in-Ok-clause-ok
returns-in-Ok-clause-ok c = detached c.args.pass.now c.call.new.pass c.args.hold c.in-Ok.field-0 c.requires.keeps c.call.ensures.same c.in-Ok.ensures.ok
