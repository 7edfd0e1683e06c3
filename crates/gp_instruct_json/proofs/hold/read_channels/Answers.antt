use Rattle.gp_instruct_json.proofs.HoldLemmas.{leads_channel, leads_end}
use Rattle.gp_instruct_json.proofs.hold.read_channels.Goals as goal

pub loop-channel-preserved : goal.loop-channel-preserved
loop-channel-preserved c =
    leads_channel c.args.channels.now c.loop-channel.channel-index c.loop-channel.added c.loop-channel.invariant c.channel-item.result c.name_in.result.now c.prev_in.result c.in_ok-added.added c.loop-channel-test.true c.channel-item.is
    c.name_in.ensures c.prev_in.ensures c.in_ok-added.ensures

pub returns : goal.returns
returns c =
    leads_end c.args.channels.now c.loop-channel.channel-index c.loop-channel.added c.loop-channel.invariant c.into_subs.result c.loop-channel-test.false c.into_subs.ensures
