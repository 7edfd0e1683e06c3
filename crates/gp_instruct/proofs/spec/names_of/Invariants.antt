use Rattle.std.proofs.Common.{◌≡◌, ◌++◌}
use Rattle.gp_instruct.specs.Spec.{names_of}
use Rattle.gp_instruct.proofs.spec.names_of.Given as goal

abbrev pub invariant-loop-sub : goal.invariant-loop-sub
invariant-loop-sub l = l.names.items ++ names_of l.sub-iterator.rest.items ≡ names_of l.fn.subs
