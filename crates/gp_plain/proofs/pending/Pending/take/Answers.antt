-- What is left has the bytes of what was there without those that were given.
use Rattle.std.proofs.Common.{arith, length, length-drop, ap, ◌∙◌}
use Rattle.std.specs.List.{sum_by}
use Rattle.std.proofs.lemmas.List.Sums.{sum_by-take-drop}
use Rattle.gp_plain.specs.Pieces.{weight}
use Rattle.gp_plain.proofs.pending.Pending.take.Goals as goal

pub invariant_of-self-2 : goal.invariant_of-self-2
invariant_of-self-2 c =
    let before = c.self.inside.pieces.items in
    let count = c.measured-count.result.0 in
    let rest = c.let_room_go.ensures ∙ c.in_ok-given.ensures.rest in
    let parts = sum_by-take-drop weight before count in
    let sums = ap (sum_by weight) rest in
    let lengths = ap length rest ∙ length-drop count before in (
      omega (arith, parts, sums, c.measured-count.ensures.bytes, c.self.invariant.0),
      omega (arith, c.self.invariant.1),
      omega (arith, lengths, c.self.invariant.2),
    )
