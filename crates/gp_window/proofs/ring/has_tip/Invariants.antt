use Rattle.std.proofs.Common.{◌≡◌, ℕ, ◌≤◌, ◌+◌, false, length}
use Rattle.gp_plain.specs.Tails.{is_tip_of}
use Rattle.gp_window.specs.Searches.{is_at}
use Rattle.gp_window.proofs.ring.has_tip.Given as goal

abbrev pub invariant-loop-behind : goal.invariant-loop-behind
invariant-loop-behind l = (k : ℕ) → length l.items ≤ k + l.behind → is_at (is_tip_of l.items l.channel l.id) l.items k ≡ false
