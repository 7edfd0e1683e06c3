use Rattle.std.proofs.Common.{ap, ◌∙◌}
use Rattle.std.proofs.lemmas.Fn.{filter_same}
use Rattle.gp_plain.specs.Holds.{without}
use Rattle.std.proofs.Common.{rules}
use Rattle.gp_plain.specs.Holds.{without}
use Rattle.gp_hold_socket.proofs.socket.without.Goals as goal

-- src/socket.rt:60:1
pub returns : goal.returns
returns c = c.from_vec.ensures ∙ filter_same _ _ _ (λ x b f' k. search rules) _ _ c.retain.ensures.filtered ∙ ap (without c.args.channel.now) c.into_vec-names.ensures
