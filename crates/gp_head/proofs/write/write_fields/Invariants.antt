use Rattle.std.proofs.Common.{◌≡◌, ◌++◌, take}
use Rattle.std.specs.List.{flat_map}
use Rattle.gp_head.specs.Texts.{field_text}
use Rattle.gp_head.proofs.write.write_fields.Given as goal

abbrev pub invariant-loop-field : goal.invariant-loop-field
invariant-loop-field l = l.text.items ≡ l.initial.text.items ++ flat_map field_text (take l.field-index l.fields)
