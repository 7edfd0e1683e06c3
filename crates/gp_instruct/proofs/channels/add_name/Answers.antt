use Rattle.std.proofs.Common.{not, ap, ◌∙◌}
use Rattle.gp_instruct.specs.Channels.{has_key}
use Rattle.gp_instruct.proofs.ChannelLemmas.{contains_has, insert_has}
use Rattle.gp_instruct.proofs.channels.add_name.Goals as goal

pub returns-in-Ok-clause-new : goal.returns-in-Ok-clause-new
returns-in-Ok-clause-new c = c.in-Ok.ensures.added ∙ ap not (contains_has c.args.name c.args.seen.now.keys)

pub returns-in-Ok-clause-keys : goal.returns-in-Ok-clause-keys
returns-in-Ok-clause-keys c = λ name. ap (has_key name) c.in-Ok.ensures.keys ∙ insert_has name c.args.seen.now.keys c.args.name
