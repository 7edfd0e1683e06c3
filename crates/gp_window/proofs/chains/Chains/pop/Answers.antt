use Rattle.std.proofs.Common.{ℕ, drop, ap, ◌∙◌, ◌≡◌}
use Rattle.circular_buffer.specs.Buffer.{Buffer}
use Rattle.gp_window.proofs.Chaining.{chained_less}
use Rattle.gp_window.proofs.chains.Chains.pop.Goals as goal

pub invariant_of-self : goal.invariant_of-self
invariant_of-self c =
    let r = c.self.inside in
    let buckets : c.pop_front.new.self.items ≡ drop 1 r.buckets.items = ap (λ (b : Buffer ℕ). b.items) c.pop_front.ensures.items in
    let backs : c.pop_front-2.new.self.items ≡ drop 1 r.backs.items = ap (λ (b : Buffer ℕ). b.items) c.pop_front-2.ensures.items in (
      ap (λ (b : Buffer ℕ). b.capacity) c.pop_front.ensures.items ∙ c.self.invariant.0,
      ap (λ (b : Buffer ℕ). b.capacity) c.pop_front-2.ensures.items ∙ c.self.invariant.1,
      rw (buckets, backs, c.number_of-self-inside.ensures) (chained_less r.heads.items r.buckets.items r.backs.items r.first c.self.invariant.2),
    )
