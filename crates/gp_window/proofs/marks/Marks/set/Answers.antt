use Rattle.std.proofs.Common.{sym, ◌∙◌}
use Rattle.std.proofs.lemmas.Option.{get_or_from_slice_get, slice_get_within}
use Rattle.gp_window.proofs.Marking.{counted_at, counted_set, fewer_few, small_at}
use Rattle.gp_window.proofs.marks.Marks.set.Goals as goal

pub count_out-requires-clause-some : goal.count_out-requires-clause-some
count_out-requires-clause-some c = counted_at c.self.inside.counts.items c.self.inside.marks.items c.args.place c.in-Some.own.now c.self.invariant.1 (sym c.in-Some.ensures)

pub count_in-requires-clause-few : goal.count_in-requires-clause-few
count_in-requires-clause-few c =
    let r = c.self.inside in
    let at = sym c.in-Some.ensures in
    fewer_few r.counts.items r.marks.items c.count_out.new.counts.items c.in-Some.own.now c.args.bucket c.self.invariant.1
    (small_at r.counts.items r.marks.items c.args.place c.in-Some.own.now c.self.invariant.1 at) (counted_at r.counts.items r.marks.items c.args.place c.in-Some.own.now c.self.invariant.1 at) c.requires.bucket c.count_out.ensures

pub invariant_of-self : goal.invariant_of-self
invariant_of-self c =
    let r = c.self.inside in
    let at = sym c.in-Some.ensures in (
      c.put.ensures.capacity ∙ c.self.invariant.0,
      rw c.put.ensures.items (counted_set r.counts.items r.marks.items c.count_out.new.counts.items c.count_in.new.counts.items c.args.place c.in-Some.own.now c.args.bucket c.self.invariant.1
          (slice_get_within r.marks.items c.args.place c.in-Some.own.now at) c.requires.bucket (get_or_from_slice_get r.marks.items c.args.place c.in-Some.own.now 0 at) c.count_out.ensures c.count_in.ensures),
    )
