use Rattle.std.proofs.Common.{subst}
use Rattle.gp_plain.specs.declared.event.Event.TheVariants.{PageFailed}
use Rattle.gp_hub.specs.Calls.{HasCalled}
use Rattle.gp_hub.proofs.Owned.{failed_answers, page_failed}
use Rattle.gp_hub.proofs.hub.Hub.page_failed.Goals as goal

pub failed-requires : goal.failed-requires
failed-requires c = failed_answers c.args.pass.now c.call.new.pass c.args.hold c.in-Ok.reply c.requires.keeps c.call.ensures.same c.in-Ok.ensures.ok

pub returns-in-Ok-clause-ok : goal.returns-in-Ok-clause-ok
returns-in-Ok-clause-ok c =
    page_failed c.args.pass.now c.call.new.pass c.args.hold c.failed.result c.requires.keeps c.call.ensures.same
    (subst (HasCalled c.args.pass.now c.call.new.pass (PageFailed c.args.hold)) c.failed.ensures c.in-Ok.ensures.ok)
