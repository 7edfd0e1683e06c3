use Rattle.std.proofs.Common.{◌++◌, codes}
use Rattle.std.specs.Fmt.{decimal}
use Rattle.gp_sig.proofs.Texts.{behind, no_comma, one_rest}
use Rattle.gp_sig.proofs.Numbers.{no_commas}
use Rattle.gp_sig.proofs.claims.cut_claims.Goals as goal

pub returns-in_err-digits : goal.returns-in_err-digits
returns-in_err-digits c = rw c.from_residual-in_err-digits.ensures
    (λ exp iss h e. no_comma c.args.text.now (codes "{\"exp\":") c.in_ok-after.field-0.now (decimal exp) (codes "\"iss\":\"" ++ (iss ++ codes "\"}")) c.in_ok-after.ensures c.in_err-digits.ensures e)

pub returns-in_err-after-2 : goal.returns-in_err-after-2
returns-in_err-after-2 c = rw c.from_residual-in_err-after-2.ensures
    (λ exp iss h e.
    let one = one_rest c.args.text.now (codes "{\"exp\":") c.in_ok-after.field-0.now c.in_ok-digits.digits.now c.in_ok-digits.rest.now (decimal exp) (codes "\"iss\":\"" ++ (iss ++ codes "\"}"))
    c.in_ok-digits.ensures.0 (no_commas exp h) c.in_ok-after.ensures c.in_ok-digits.ensures.1 e in
    c.in_err-after-2.ensures (iss ++ codes "\"}") one.1)

pub returns-in_err-iss : goal.returns-in_err-iss
returns-in_err-iss c = rw c.from_residual-in_err-iss.ensures
    (λ exp iss h e.
    let one = one_rest c.args.text.now (codes "{\"exp\":") c.in_ok-after.field-0.now c.in_ok-digits.digits.now c.in_ok-digits.rest.now (decimal exp) (codes "\"iss\":\"" ++ (iss ++ codes "\"}"))
    c.in_ok-digits.ensures.0 (no_commas exp h) c.in_ok-after.ensures c.in_ok-digits.ensures.1 e in
    c.in_err-iss.ensures iss (behind c.in_ok-digits.rest.now (codes "\"iss\":\"") c.in_ok-after-2.field-0.now (iss ++ codes "\"}") c.in_ok-after-2.ensures one.1))
