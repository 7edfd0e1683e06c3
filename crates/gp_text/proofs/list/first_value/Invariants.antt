use Rattle.std.proofs.Common.{◌≡◌, drop}
use Rattle.std.specs.Prelude.{find}
use Rattle.gp_text.specs.Lists.{is_named}
use Rattle.gp_text.proofs.list.first_value.Given as goal

abbrev pub invariant-loop-field : goal.invariant-loop-field
invariant-loop-field l = find (is_named l.name) (drop l.field-index l.fields) ≡ find (is_named l.name) l.fields
