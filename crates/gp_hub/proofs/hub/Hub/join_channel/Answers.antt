use Rattle.std.proofs.Common.{subst}
use Rattle.gp_plain.specs.declared.event.Event.TheVariants.{Join}
use Rattle.gp_plain.specs.Holds.{join}
use Rattle.gp_hub.specs.Calls.{HasCalled}
use Rattle.gp_hub.proofs.Changed.{change_answers, has_changed}
use Rattle.gp_hub.proofs.hub.Hub.join_channel.Goals as goal

pub changed-requires : goal.changed-requires
changed-requires c = change_answers c.args.pass.now c.call.new.pass c.args.hold (join c.args.channel) c.in-Ok.reply c.requires.keeps c.call.ensures.same c.in-Ok.ensures.ok

pub returns-in-Ok-clause-ok : goal.returns-in-Ok-clause-ok
returns-in-Ok-clause-ok c =
    has_changed c.args.pass.now c.call.new.pass c.args.hold (join c.args.channel) c.changed.result c.requires.keeps c.call.ensures.same
    (subst (HasCalled c.args.pass.now c.call.new.pass (Join c.args.hold c.args.channel)) c.changed.ensures c.in-Ok.ensures.ok)
