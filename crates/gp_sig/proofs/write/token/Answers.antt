use Rattle.std.proofs.Common.{◌∙◌, ap}
use Rattle.gp_sig.specs.Tokens.{base64url, dotted, signature_of}
use Rattle.gp_sig.proofs.write.token.Goals as goal

pub returns : goal.returns
returns c =
    let head = c.in_ok-text.ensures in
    let claims = c.deref-2.ensures.value ∙ (c.in_ok-encode.ensures ∙ ap base64url (c.deref.ensures.value ∙ c.in_ok-claims.ensures)) in
    let signed = c.in_ok-append_part.ensures ∙ (λ i. dotted (head i) (claims i)) in
    let sign = c.deref-4.ensures.value ∙ (c.in_ok-signature.ensures ∙ ap (signature_of c.args.key.now) (c.deref-3.ensures.value ∙ signed)) in
    c.from_vec.ensures ∙ (c.in_ok-append_part-2.ensures ∙ (λ i. dotted (signed i) (sign i)))
