use Rattle.std.proofs.Common.{◌≡◌, ℕ, ◌≤◌, true, false, map, length, get_or}
use Rattle.gp_window.specs.Buckets.{bucket, channel_bucket, id_bucket}
use Rattle.gp_window.specs.Searches.{has_id, is_at}
use Rattle.gp_window.proofs.Walking.{IsAlong, behind}
use Rattle.gp_window.proofs.indexed.Indexed.mark.Given as goal

abbrev pub invariant-loop-at : goal.invariant-loop-at
invariant-loop-at l = record {
  along : IsAlong (map id_bucket l.self) (bucket l.channel l.id) l.at;
  same : length l.marks ≡ length l.self;
  marked : (k : ℕ) → behind l.at ≤ k → is_at (has_id l.channel l.id) l.self k ≡ true → get_or l.marks k 0 ≡ channel_bucket l.channel;
  others : (k : ℕ) → is_at (has_id l.channel l.id) l.self k ≡ false → get_or l.marks k 0 ≡ get_or l.initial.marks k 0;
}

abbrev pub decreases-loop-at : goal.decreases-loop-at
decreases-loop-at l = behind l.at
