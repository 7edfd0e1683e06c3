use Rattle.std.proofs.Common.{◌≡◌}
use Rattle.gp_instruct.specs.Page.{prev_on}
use Rattle.gp_recover.proofs.page.take_prev.Given as goal

abbrev pub invariant-loop-sub : goal.invariant-loop-sub
invariant-loop-sub l = prev_on l.channel l.sub-iterator.rest.items ≡ prev_on l.channel l.fn.subs
