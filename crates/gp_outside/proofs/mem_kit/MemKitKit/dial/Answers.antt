use Rattle.std.proofs.Common.{sym, ◌∙◌}
use Rattle.std.proofs.lemmas.List.Elements.{All-drop}
use Rattle.std.proofs.lemmas.Option.{get_or_from_slice_get, slice_get_within}
use Rattle.gp_outside.specs.MemDials.{DialState, told_dial}
use Rattle.gp_outside.specs.Unused.{IsUnusedDial}
use Rattle.gp_outside.proofs.mem_kit.MemKitKit.dial.Goals as goal

-- src/mem_kit.rt:121:5
pub invariant_of-self-2 : goal.invariant_of-self-2
invariant_of-self-2 c = rw c.take_first.ensures.left (All-drop (λ (dial : DialState). IsUnusedDial (told_dial dial)) 1 c.self.inside.dials c.self.invariant)

-- src/mem_kit.rt:121:5
pub returns-clause-unused : goal.returns-clause-unused
returns-clause-unused c =
    let is = sym c.take_first.ensures.first ∙ c.in-Some.is in
    let same = get_or_from_slice_get c.self.inside.dials 0 c.in-Some.dial c.in-Some.dial is in
    rw same at (c.self.invariant 0 c.in-Some.dial (slice_get_within c.self.inside.dials 0 c.in-Some.dial is))
