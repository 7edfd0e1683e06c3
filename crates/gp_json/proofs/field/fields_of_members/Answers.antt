use Rattle.std.proofs.Common.{◌∙◌, ap, sym, String, Global, string_bytes}
use Rattle.std.specs.Map.Iter.{deref_pair}
use Rattle.std.proofs.lemmas.Map.Iter.{rest_more}
use Rattle.serde_json.specs.View.{view}
use Rattle.serde_json.specs.declared.value.Value.{Value}
use Rattle.gp_json.specs.Steps.{each}
use Rattle.gp_json.specs.Fields.{member_field}
use Rattle.gp_json.proofs.StepLemmas.{after, each_more}
use Rattle.gp_json.proofs.FieldLemmas.{given, given_more}
use Rattle.gp_json.proofs.field.fields_of_members.Goals as goal

pub loop-name-preserved-in_ok-push : goal.loop-name-preserved-in_ok-push
loop-name-preserved-in_ok-push c =
    let done = c.loop-name.fields.items in
    let entry : String Global × Value = (c.in-Some.name.now, c.in-Some.value.now) in
    let next = rest_more deref_pair c.loop-name.name-iterator c.next.new.self c.next.result (c.in-Some.name, c.in-Some.value) c.in-Some.is c.next.ensures.steps in
    let more = ap given next ∙ given_more entry c.next.new.self (sym c.is_null.ensures ∙ c.if-not-is_null.true) in
    let field = rw c.as_str.ensures.value at c.in_ok-member_field.ensures in
    rw c.in_ok-push.ensures.items (each_more member_field _ done (string_bytes c.in-Some.name.now, view c.in-Some.value.now) (given c.next.new.self) c.in_ok-member_field.field-0
    (c.loop-name.invariant ∙ ap (λ ms. after done (each member_field ms)) more) field)
