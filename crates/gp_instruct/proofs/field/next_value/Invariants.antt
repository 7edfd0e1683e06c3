use Rattle.std.proofs.Common.{◌≡◌, drop}
use Rattle.gp_instruct.specs.Fields.{values}
use Rattle.gp_instruct.proofs.field.next_value.Given as goal

abbrev pub invariant-loop-place : goal.invariant-loop-place
invariant-loop-place l = values l.name l.fields ≡ values l.name (drop l.place l.fields)
