use Rattle.std.proofs.Common.{◌≡◌, map, take, drop, count_by}
use Rattle.gp_registry.specs.Stages.{kept_hold, committed, appends}
use Rattle.gp_registry.proofs.hold.commit_all.Given as goal

abbrev pub invariant-loop-hold : goal.invariant-loop-hold
invariant-loop-hold l = record {
  done : map kept_hold (take l.hold-index l.holds) ≡ map (committed l.window.items) (take l.hold-index l.initial.holds);
  rest : drop l.hold-index l.holds ≡ drop l.hold-index l.initial.holds;
  count : l.grew ≡ count_by (λ h. appends h.machine.value) (take l.hold-index l.initial.holds);
}
