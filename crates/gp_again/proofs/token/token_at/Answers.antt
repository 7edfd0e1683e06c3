use Rattle.std.proofs.Common.{rules, ◌≡◌, ◌<◌, ◌^◌, sym, arith, subst, List, ℕ}
use Rattle.std.specs.Prelude.{Ok, Err, Result, IfOk}
use Rattle.std.specs.declared.alloc.AllocError.{AllocError}
use Rattle.gp_head.specs.Writable.{IsFieldValue}
use Rattle.gp_sig.specs.Tokens.{IsPlain}
use Rattle.gp_again.specs.Texts.{issuer}
use Rattle.gp_again.proofs.token.token_at.Goals as goal

is_value : (r : Result (List ℕ) AllocError) (text : List ℕ) → IfOk r (λ x. x ≡ text) → IsFieldValue text → IfOk r IsFieldValue
is_value (Ok x) text is value = subst IsFieldValue (sym is) value
is_value (Err e) text is value = tt

pub returns-clause-value : goal.returns-clause-value
returns-clause-value c =
    let plain : IsPlain issuer = search rules in
    let low : c.expiry.result < 2 ^ 64 = omega (arith, c.expiry.ensures) in
    is_value c.token.result _ c.token.ensures (c.forward_law.ensures.token c.bytes.result.now issuer c.expiry.result plain low)
