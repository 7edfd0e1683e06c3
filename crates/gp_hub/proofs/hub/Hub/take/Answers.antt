use Rattle.std.proofs.Common.{subst}
use Rattle.gp_plain.specs.declared.event.Event.TheVariants.{Take}
use Rattle.gp_hub.specs.Calls.{HasCalled}
use Rattle.gp_hub.proofs.Owned.{take_answers, took}
use Rattle.gp_hub.proofs.hub.Hub.take.Goals as goal

pub taken-requires : goal.taken-requires
taken-requires c = take_answers c.args.pass.now c.call.new.pass c.args.hold c.args.now c.in-Ok.reply c.requires.keeps c.call.ensures.same c.in-Ok.ensures.ok

pub returns-in-Ok-clause-ok : goal.returns-in-Ok-clause-ok
returns-in-Ok-clause-ok c =
    took c.args.pass.now c.call.new.pass c.args.hold c.args.now c.taken.result c.requires.keeps c.call.ensures.same
    (subst (HasCalled c.args.pass.now c.call.new.pass (Take c.args.hold c.args.now)) c.taken.ensures c.in-Ok.ensures.ok)
