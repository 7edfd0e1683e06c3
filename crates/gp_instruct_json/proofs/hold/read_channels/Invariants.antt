use Rattle.std.proofs.Common.{[], map, drop}
use Rattle.serde_json.specs.View.{view}
use Rattle.gp_instruct.proofs.PartLemmas.{Leads}
use Rattle.gp_instruct_json.specs.Members.{sub_in}
use Rattle.gp_instruct_json.proofs.hold.read_channels.Given as goal

abbrev pub invariant-loop-channel : goal.invariant-loop-channel
invariant-loop-channel l = Leads [] l.added (map sub_in (map view l.channels)) (map sub_in (map view (drop l.channel-index l.channels)))
