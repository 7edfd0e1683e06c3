use Rattle.serde_json.specs.View.{view}
use Rattle.gp_json.proofs.FieldLemmas.{pairs_in}
use Rattle.gp_json.proofs.field.fields_in.Goals as goal

pub returns-in-Some-as_array : goal.returns-in-Some-as_array
returns-in-Some-as_array c =
    rw (pairs_in (view c.args.headers.now) c.in-Some-as_array.pairs.now.items c.in-None.ensures c.in-Some-as_array.ensures, ← c.as_slice.ensures.value) c.fields_of_pairs.ensures
