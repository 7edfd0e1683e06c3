use Rattle.std.proofs.Common.{◌≡◌, ℕ, ◌≤◌, false, map}
use Rattle.gp_window.specs.Buckets.{bucket, prev_bucket}
use Rattle.gp_plain.specs.Items.{goes_on_from}
use Rattle.gp_window.specs.Searches.{is_at}
use Rattle.gp_window.proofs.Walking.{IsAlong, behind}
use Rattle.gp_window.proofs.indexed.Indexed.goes_on.Given as goal

abbrev pub invariant-loop-at : goal.invariant-loop-at
invariant-loop-at l = record {
  along : IsAlong (map prev_bucket l.self) (bucket l.channel l.id) l.at;
  none : (j : ℕ) → behind l.at ≤ j → is_at (goes_on_from l.channel l.id) l.self j ≡ false;
}

abbrev pub decreases-loop-at : goal.decreases-loop-at
decreases-loop-at l = behind l.at
