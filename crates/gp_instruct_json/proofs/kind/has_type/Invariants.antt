use Rattle.std.proofs.Common.{◌≡◌, drop}
use Rattle.std.specs.Prelude.{find}
use Rattle.gp_instruct_json.specs.Kinds.{gives_type}
use Rattle.gp_instruct_json.proofs.kind.has_type.Given as goal

abbrev pub invariant-loop-field : goal.invariant-loop-field
invariant-loop-field l = find gives_type (drop l.field-index l.fields) ≡ find gives_type l.fields
