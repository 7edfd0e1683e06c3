use Rattle.std.proofs.Common.{ℕ, ap, ◌≡◌, []}
use Rattle.circular_buffer.specs.Buffer.{Buffer}
use Rattle.gp_window.proofs.Chaining.{chained_none}
use Rattle.gp_window.proofs.chains.Chains.new.Goals as goal

pub invariant_of-result : goal.invariant_of-result
invariant_of-result c =
    let buckets : c.in_ok-with_capacity.field-0.items ≡ [] = ap (λ (b : Buffer ℕ). b.items) c.in_ok-with_capacity.ensures in
    let backs : c.in_ok-with_capacity-2.field-0.items ≡ [] = ap (λ (b : Buffer ℕ). b.items) c.in_ok-with_capacity-2.ensures in (
      ap (λ (b : Buffer ℕ). b.capacity) c.in_ok-with_capacity.ensures,
      ap (λ (b : Buffer ℕ). b.capacity) c.in_ok-with_capacity-2.ensures,
      rw (buckets, backs, c.in_ok-zeros.ensures) chained_none,
    )
