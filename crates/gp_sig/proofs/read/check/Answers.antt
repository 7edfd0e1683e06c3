use Rattle.std.proofs.Common.{◌∙◌, ap, sym}
use Rattle.gp_sig.specs.Tokens.{claims_text, signature_of}
use Rattle.gp_sig.proofs.Texts.{so_it_is}
use Rattle.gp_sig.proofs.Bytes.{claims_bytes}
use Rattle.gp_sig.proofs.read.check.Goals as goal

pub returns-in_default-read-2-clause-err : goal.returns-in_default-read-2-clause-err
returns-in_default-read-2-clause-err c =
    let p = rw c.in-Some.is at c.in-Ok.ensures in
    let none = rw c.in_default-read-2.is at c.in-Ok-read_claims.ensures in
    let parts = c.in-Some.parts in (
      parts.claims.now,
      record { head = p.0.0; signature = parts.signature.now; parts = p.0.1; signs = so_it_is c.in-Ok-is_signature.ensures c.if-not-is_signed.false ∙ ap (signature_of c.args.key.now) p.0.2 },
      (λ iss exp h. none iss exp h.plain h.fits (c.deref.ensures.value ∙ sym (p.3 (claims_text iss exp) (claims_bytes iss exp h.plain h.fits) h.text))),
    )
