use Rattle.std.proofs.Common.{◌≡◌, ◌++◌, codes, refl, sym, subst}
use Rattle.std.specs.Fmt.{decimal}
use Rattle.gp_sig.specs.Tokens.{IsPlain}
use Rattle.gp_sig.proofs.Texts.{one_rest, one_issuer, not_both}
use Rattle.gp_sig.proofs.Numbers.{no_commas}
use Rattle.gp_sig.proofs.claims.read_claims.Goals as goal

pub returns-then-not-is_plain : goal.returns-then-not-is_plain
returns-then-not-is_plain c iss exp plain h e =
    let digits = c.in-Some.digits.now in
    let issuer = c.in-Some.iss.now in
    let cut = c.in-Some.ensures in
    let one = one_rest c.args.text.now (codes "{\"exp\":") _ digits (codes "\"iss\":\"" ++ (issuer ++ codes "\"}")) (decimal exp) (codes "\"iss\":\"" ++ (iss ++ codes "\"}")) cut.1 (no_commas exp h) cut.0 refl e in
    let same : issuer ≡ iss = one_issuer _ (codes "\"iss\":\"") (codes "\"}") issuer iss refl one.1 in
    not_both c.is_plain.ensures c.if-not-is_plain.true (subst IsPlain (sym same) plain)

pub returns-in_default-2 : goal.returns-in_default-2
returns-in_default-2 c iss exp plain h e =
    let digits = c.in-Some.digits.now in
    let issuer = c.in-Some.iss.now in
    let cut = c.in-Some.ensures in
    let one = one_rest c.args.text.now (codes "{\"exp\":") _ digits (codes "\"iss\":\"" ++ (issuer ++ codes "\"}")) (decimal exp) (codes "\"iss\":\"" ++ (iss ++ codes "\"}")) cut.1 (no_commas exp h) cut.0 refl e in
    let none = rw c.in_default-2.is at c.in_ok-exp.ensures in
    none exp h one.0
