use Rattle.std.proofs.Common.{◌≡◌, map, take}
use Rattle.gp_head.specs.Heads.{field_at}
use Rattle.gp_head.proofs.parse.fields_at.Given as goal

abbrev pub invariant-loop-span : goal.invariant-loop-span
invariant-loop-span l = l.fields.items ≡ map (field_at l.text) (take l.span-index l.spans)
