use Rattle.std.proofs.Common.{ℕ, ap, ◌≡◌, []}
use Rattle.circular_buffer.specs.Buffer.{Buffer}
use Rattle.gp_window.proofs.Marking.{counted_none}
use Rattle.gp_window.proofs.marks.Marks.new.Goals as goal

pub invariant_of-result : goal.invariant_of-result
invariant_of-result c =
    let marks : c.in_ok-with_capacity.field-0.items ≡ [] = ap (λ (b : Buffer ℕ). b.items) c.in_ok-with_capacity.ensures in
    (ap (λ (b : Buffer ℕ). b.capacity) c.in_ok-with_capacity.ensures, rw (marks, c.in_ok-zeros.ensures) counted_none)
