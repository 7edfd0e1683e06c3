use Rattle.std.proofs.Common.{◌∙◌, ap, sym}
use Rattle.http_header.specs.FieldValue.{FieldValue}
use Rattle.gp_json.proofs.FieldLemmas.{value_there}
use Rattle.gp_json.proofs.field.field_value.Goals as goal

pub returns-in_ok-new-in-Ok : goal.returns-in_ok-new-in-Ok
returns-in_ok-new-in-Ok c =
    let text = c.as_bytes.ensures.value in
    let value = c.in_ok-new-in-Ok.ensures ∙ (c.as_bytes-in-Ok.ensures.value ∙ ap (λ (v : FieldValue). v.bytes) c.in-Ok.ensures.ok) in
    let refused = rw text at c.in-Ok.ensures.invalid.1 in
    rw (value, text) (sym (value_there c.args.text.now (λ other. let clash = refused other in cc)))
