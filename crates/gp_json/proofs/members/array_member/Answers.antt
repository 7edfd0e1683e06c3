use Rattle.std.proofs.Common.{◌∙◌, ap, sym, map}
use Rattle.serde_json.specs.View.{view, items_view}
use Rattle.gp_json.proofs.MemberLemmas.{elements_view, array_found}
use Rattle.gp_json.proofs.members.array_member.Goals as goal

pub returns-in-Some-as_array : goal.returns-in-Some-as_array
returns-in-Some-as_array c =
    array_found c.args.name.now (view c.args.object.now) (view c.in-Some.found.now) (items_view c.in-Some-as_array.values.now.items) (map view c.as_slice.result.now)
    c.in-Some.ensures c.in-Some-as_array.ensures
    (elements_view c.in-Some-as_array.values.now.items ∙ ap (map view) (sym c.as_slice.ensures.value))
