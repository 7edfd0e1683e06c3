use Rattle.std.proofs.Common.{◌≡◌, map, drop}
use Rattle.serde_json.specs.View.{view}
use Rattle.gp_json.proofs.StepLemmas.{after}
use Rattle.gp_items.specs.Items.{items_from}
use Rattle.gp_items.proofs.read.items_of.Given as goal

abbrev pub invariant-loop-place : goal.invariant-loop-place
invariant-loop-place l = items_from 0 (map view l.values) ≡ after l.items.items (items_from l.place (map view (drop l.place l.values)))
