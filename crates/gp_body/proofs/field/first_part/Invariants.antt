use Rattle.std.proofs.Common.{◌≡◌, drop}
use Rattle.gp_body.specs.Plans.{named}
use Rattle.gp_body.proofs.field.first_part.Given as goal

abbrev pub invariant-loop-field : goal.invariant-loop-field
invariant-loop-field l = named l.name (drop l.field-index l.fields) ≡ named l.name l.fields
