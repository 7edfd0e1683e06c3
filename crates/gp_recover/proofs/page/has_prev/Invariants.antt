use Rattle.std.proofs.Common.{◌≡◌, drop}
use Rattle.gp_instruct.specs.Page.{prev_on}
use Rattle.gp_recover.proofs.page.has_prev.Given as goal

abbrev pub invariant-loop-sub : goal.invariant-loop-sub
invariant-loop-sub l = prev_on l.channel (drop l.sub-index l.subs) ≡ prev_on l.channel l.subs
