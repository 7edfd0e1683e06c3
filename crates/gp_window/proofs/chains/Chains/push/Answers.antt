use Rattle.std.proofs.Common.{ℕ, List, [], ◌∷◌, ◌++◌, ◌≡◌, ◌+◌, ◌-◌, ◌%◌, ◌<◌, length, sym, ap, subst, ◌≤◌, ◌∙◌, arith}
use Rattle.circular_buffer.specs.Buffer.{Buffer}
use Rattle.gp_window.specs.Chains.{IsNewest, HasNone}
use Rattle.gp_window.proofs.Chaining.{chained_more, kept_all}
use Rattle.gp_window.proofs.chains.Chains.push.Goals as goal

pub invariant_of-self : goal.invariant_of-self
invariant_of-self c =
    let r = c.self.inside in
    let t = c.self.invariant.2 in
    let back = c.back_to-back.result in
    let room : length r.buckets.items < 4096 = omega (arith, c.requires.room, ap length c.self.view_is) in
    let buckets : c.push_back.new.self.items ≡ r.buckets.items ++ c.args.bucket ∷ [] = ap (λ (b : Buffer ℕ). b.items) c.push_back.ensures.items ∙ kept_all r.buckets.items c.args.bucket r.buckets.capacity c.self.invariant.0 room in
    let backs : c.push_back-2.new.self.items ≡ r.backs.items ++ c.back_to-back.result ∷ [] = ap (λ (b : Buffer ℕ). b.items) c.push_back-2.ensures.items ∙ kept_all r.backs.items c.back_to-back.result r.backs.capacity c.self.invariant.1 (omega (arith, room, t.same)) in (
      ap (λ (b : Buffer ℕ). b.capacity) c.push_back.ensures.items ∙ c.self.invariant.0,
      ap (λ (b : Buffer ℕ). b.capacity) c.push_back-2.ensures.items ∙ c.self.invariant.1,
      rw (buckets, backs) (chained_more r.heads.items r.buckets.items r.backs.items r.first c.args.bucket c.number_of.result c.back_to-back.result t room c.requires.bucket
          (c.number_of.ensures ∙ ap (λ n. (r.first + n) % 65536) c.len.ensures.len)
          c.back_to-back.ensures.some
          (subst (λ (ys : List ℕ). back ≤ length ys → IsNewest ys c.args.bucket (length ys) (length ys - back)) (sym c.self.view_is) c.back_to-back.ensures.there)
          (subst (λ (ys : List ℕ). length ys < back → HasNone ys c.args.bucket (length ys)) (sym c.self.view_is) c.back_to-back.ensures.none)),
    )
