use Rattle.std.proofs.Common.{ℕ, ◌≡◌, ◌<◌, ◌++◌, ◌∷◌, [], length, ap, ◌∙◌, arith}
use Rattle.circular_buffer.specs.Buffer.{Buffer}
use Rattle.gp_window.proofs.Chaining.{kept_all}
use Rattle.gp_window.proofs.Marking.{counted_few, counted_more}
use Rattle.gp_window.proofs.marks.Marks.push.Goals as goal

pub count_in-requires-clause-few : goal.count_in-requires-clause-few
count_in-requires-clause-few c = counted_few c.self.inside.counts.items c.self.inside.marks.items c.args.bucket c.self.invariant.1 c.requires.bucket

pub invariant_of-self : goal.invariant_of-self
invariant_of-self c =
    let r = c.self.inside in
    let room : length r.marks.items < 4096 = omega (arith, c.requires.room, ap length c.self.view_is) in
    let marks : c.push_back.new.self.items ≡ r.marks.items ++ c.args.bucket ∷ [] = ap (λ (b : Buffer ℕ). b.items) c.push_back.ensures.items ∙ kept_all r.marks.items c.args.bucket r.marks.capacity c.self.invariant.0 room in
    (ap (λ (b : Buffer ℕ). b.capacity) c.push_back.ensures.items ∙ c.self.invariant.0, rw (marks, c.count_in.ensures) (counted_more r.counts.items r.marks.items c.args.bucket c.self.invariant.1 room c.requires.bucket))
