use Rattle.std.proofs.Common.{ℕ, ◌≡◌, drop, ap, sym, ◌∙◌}
use Rattle.circular_buffer.specs.Buffer.{Buffer}
use Rattle.gp_window.proofs.Marking.{counted_first, counted_less}
use Rattle.gp_window.proofs.marks.Marks.pop.Goals as goal

pub count_out-requires-clause-some : goal.count_out-requires-clause-some
count_out-requires-clause-some c = counted_first c.self.inside.counts.items c.self.inside.marks.items c.in-Some.own c.self.invariant.1 (sym c.pop_front.ensures.value ∙ c.in-Some.is)

pub invariant_of-self : goal.invariant_of-self
invariant_of-self c =
    let r = c.self.inside in
    let marks : c.pop_front.new.self.items ≡ drop 1 r.marks.items = ap (λ (b : Buffer ℕ). b.items) c.pop_front.ensures.items in
    (ap (λ (b : Buffer ℕ). b.capacity) c.pop_front.ensures.items ∙ c.self.invariant.0, rw marks (counted_less r.counts.items r.marks.items c.count_out.new.counts.items c.in-Some.own c.self.invariant.1 (sym c.pop_front.ensures.value ∙ c.in-Some.is) c.count_out.ensures))
