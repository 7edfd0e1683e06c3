use Rattle.std.proofs.Common.{ap, ◌∙◌, List}
use Rattle.gp_instruct.specs.Channels.{named, with_sub}
use Rattle.gp_instruct.specs.declared.instruct.Sub.{Sub}
use Rattle.gp_instruct.proofs.ChannelLemmas.{joined_is, joined_names}
use Rattle.gp_instruct.proofs.channels.Channels.with.Goals as goal

pub invariant_of-result : goal.invariant_of-result
invariant_of-result c =
    joined_names c.self.inside.subs c.add_sub.new.subs c.in_ok-sub.sub (named c.args.name.now c.args.prev) c.in_ok-is_new.is_new c.self.inside.seen.keys c.add_name.new.seen.keys
    c.self.invariant c.in_ok-sub.ensures.0 c.in_ok-is_new.ensures.new c.in_ok-add_sub.ensures c.in_ok-is_new.ensures.keys

pub returns : goal.returns
returns c = record {
  good = c.in_ok-sub.ensures.1;
  subs_are =
      joined_is c.self.inside.subs c.add_sub.new.subs c.in_ok-sub.sub (named c.args.name.now c.args.prev) c.in_ok-is_new.is_new c.self.inside.seen.keys c.add_name.new.seen.keys
      c.self.invariant c.in_ok-sub.ensures.0 c.in_ok-is_new.ensures.new c.in_ok-add_sub.ensures
      ∙ ap (λ (subs : List Sub). with_sub subs (named c.args.name.now c.args.prev)) c.self.view_is;
}
