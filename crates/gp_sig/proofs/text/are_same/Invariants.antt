use Rattle.std.proofs.Common.{◌≡◌, ◌≢◌, ◌<◌, ℕ, true, false, get_or}
use Rattle.gp_sig.proofs.text.are_same.Given as goal

abbrev pub invariant-loop-i : goal.invariant-loop-i
invariant-loop-i l = record {
  all : l.same ≡ true → (k : ℕ) → k < l.i → get_or l.a k 0 ≡ get_or l.b k 0;
  some : l.same ≡ false → l.a ≢ l.b;
}
