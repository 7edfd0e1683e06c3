use Rattle.std.proofs.Common.{◌≡◌, ◌++◌, take, filter}
use Rattle.std.specs.List.{flat_map}
use Rattle.gp_head.specs.Texts.{field_text}
use Rattle.gp_text.specs.Hops.{goes_on}
use Rattle.gp_forward.proofs.write.write_kept.Given as goal

abbrev pub invariant-loop-field : goal.invariant-loop-field
invariant-loop-field l = l.text.items ≡ l.fn.text.items ++ flat_map field_text (filter (goes_on l.fields) (take l.field-index l.fields))
