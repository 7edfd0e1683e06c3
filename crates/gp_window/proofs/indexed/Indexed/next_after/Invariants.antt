use Rattle.std.proofs.Common.{map}
use Rattle.gp_plain.specs.Tails.{is_next_at}
use Rattle.gp_window.specs.Buckets.{bucket, prev_bucket}
use Rattle.gp_window.proofs.Walking.{IsAlong, IsLeastFrom, behind}
use Rattle.gp_window.proofs.indexed.Indexed.next_after.Given as goal

abbrev pub invariant-loop-at : goal.invariant-loop-at
invariant-loop-at l = record {
  along : IsAlong (map prev_bucket l.self) (bucket l.channel l.id) l.at;
  least : IsLeastFrom (is_next_at l.self l.channel l.id l.used) (behind l.at) l.least;
}

abbrev pub decreases-loop-at : goal.decreases-loop-at
decreases-loop-at l = behind l.at
