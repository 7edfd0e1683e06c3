use Rattle.std.proofs.Common.{◌≡◌, map}
use Rattle.std.specs.List.{AllWithin}
use Rattle.gp_registry.specs.Stages.{kept_hold, IsStaged}
use Rattle.gp_registry.proofs.hold.stage_all.Given as goal

abbrev pub invariant-loop-hold : goal.invariant-loop-hold
invariant-loop-hold l = record {
  same : map kept_hold l.holds ≡ map kept_hold l.initial.holds;
  staged : AllWithin (IsStaged l.item l.window.items) l.holds 0 l.hold-index;
}
