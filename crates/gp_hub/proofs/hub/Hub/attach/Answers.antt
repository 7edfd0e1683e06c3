use Rattle.std.proofs.Common.{subst}
use Rattle.gp_plain.specs.declared.event.Event.TheVariants.{Attach}
use Rattle.gp_hub.specs.Calls.{HasCalled}
use Rattle.gp_hub.proofs.Owned.{attach_answers, attached}
use Rattle.gp_hub.proofs.hub.Hub.attach.Goals as goal

pub attached-requires : goal.attached-requires
attached-requires c = attach_answers c.args.pass.now c.call.new.pass c.args.spec c.in-Ok.reply c.in-Ok.ensures.ok

pub returns-in-Ok-clause-ok : goal.returns-in-Ok-clause-ok
returns-in-Ok-clause-ok c =
    attached c.args.pass.now c.call.new.pass c.args.spec c.attached.result c.call.ensures.same
    (subst (HasCalled c.args.pass.now c.call.new.pass (Attach c.args.spec)) c.attached.ensures c.in-Ok.ensures.ok)
