use Rattle.std.proofs.Common.{◌∙◌, ap, sym, Err}
use Rattle.gp_json.proofs.FieldLemmas.{name_there, no_name}
use Rattle.gp_json.proofs.field.field_name.Goals as goal

pub returns-in_ok-new-in-Ok : goal.returns-in_ok-new-in-Ok
returns-in_ok-new-in-Ok c =
    let text = c.as_bytes.ensures.value in
    let name = c.in_ok-new-in-Ok.ensures ∙ (c.as_bytes-in-Ok.ensures.value ∙ c.in-Ok.ensures.ok) in
    let refused = rw text at c.in-Ok.ensures.invalid.1 in
    rw (name, text) (sym (name_there c.args.text.now (λ other. let clash = refused other in cc)))

pub returns-in-Err-Invalid : goal.returns-in-Err-Invalid
returns-in-Err-Invalid c =
    let refused = c.in-Err-Invalid.ensures.invalid.0 (ap Err c.in-Err-Invalid.field-0-is) in
    sym (no_name c.args.text.now (rw c.as_bytes.ensures.value at refused))
