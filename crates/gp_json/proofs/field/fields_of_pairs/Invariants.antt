use Rattle.std.proofs.Common.{◌≡◌, map, drop}
use Rattle.serde_json.specs.View.{view}
use Rattle.gp_json.specs.Steps.{each}
use Rattle.gp_json.specs.Fields.{pair_field}
use Rattle.gp_json.proofs.StepLemmas.{after}
use Rattle.gp_json.proofs.field.fields_of_pairs.Given as goal

abbrev pub invariant-loop-pair : goal.invariant-loop-pair
invariant-loop-pair l = each pair_field (map view l.pairs) ≡ after l.fields.items (each pair_field (map view (drop l.pair-index l.pairs)))
