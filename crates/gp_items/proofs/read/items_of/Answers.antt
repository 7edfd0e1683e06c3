use Rattle.std.proofs.Common.{map, drop, ◌+◌}
use Rattle.serde_json.specs.View.{view}
use Rattle.gp_items.proofs.ItemLemmas.{left_from, items_failed}
use Rattle.gp_items.proofs.read.items_of.Goals as goal

pub returns-in-Err : goal.returns-in-Err
returns-in-Err c =
    let place = c.loop-place.place in
    let values = c.args.values.now in
    let value = c.index-values-place.result in
    rw c.at.ensures (items_failed _ c.loop-place.items.items place _ (view value) (map view (drop (place + 1) values)) c.in-Err.fault
    c.loop-place.invariant (left_from values place value c.loop-place-test.true c.index-values-place.is) c.in-Err.ensures)
