use Rattle.std.proofs.Common.{◌≡◌}
use Rattle.gp_json.specs.Steps.{each}
use Rattle.gp_json.specs.Fields.{member_field}
use Rattle.gp_json.proofs.StepLemmas.{after}
use Rattle.gp_json.proofs.FieldLemmas.{given}
use Rattle.gp_json.proofs.field.fields_of_members.Given as goal

abbrev pub invariant-loop-name : goal.invariant-loop-name
invariant-loop-name l = each member_field (given l.members.entries) ≡ after l.fields.items (each member_field (given l.name-iterator))
