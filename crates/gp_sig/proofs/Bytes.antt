-- Each byte of the text of claims is below 256.
use Rattle.std.proofs.Common.{ℕ, zero, suc, ◌<◌, ◌^◌, List, [], ◌∷◌, ◌++◌, codes, arith}
use Rattle.std.specs.List.{All}
use Rattle.std.specs.Fmt.{decimal}
use Rattle.std.proofs.lemmas.List.Elements.{All-head, All-tail, All-append, All-weaker, All-nil, All-cons}
use Rattle.base64.specs.GeneralPurpose.{IsBytes}
use Rattle.gp_sig.specs.Tokens.{IsPlain, IsPlainByte, claims_text}
use Rattle.gp_sig.proofs.Numbers.{digits_bytes}

abbrev IsByte : ℕ → Type 0
IsByte b = b < 256

are_bytes : (xs : List ℕ) → All IsByte xs → IsBytes xs
are_bytes [] h i = omega arith
are_bytes (x ∷ xs) h zero = All-head IsByte x xs h
are_bytes (x ∷ xs) h (suc i) = are_bytes xs (All-tail IsByte x xs h) i

front : All IsByte (codes "{\"exp\":")
front = search (All-cons, All-nil, arith)

middle : All IsByte (codes ",\"iss\":\"")
middle = search (All-cons, All-nil, arith)

back : All IsByte (codes "\"}")
back = search (All-cons, All-nil, arith)

pub claims_bytes : (iss : List ℕ) (exp : ℕ) → IsPlain iss → exp < 2 ^ 64 → IsBytes (claims_text iss exp)
claims_bytes iss exp plain fits =
    let name = All-weaker IsPlainByte IsByte (λ b p. let most = p.1 in omega arith) iss plain in
    are_bytes (claims_text iss exp)
    (All-append IsByte (codes "{\"exp\":") (decimal exp ++ (codes ",\"iss\":\"" ++ (iss ++ codes "\"}"))) front
    (All-append IsByte (decimal exp) (codes ",\"iss\":\"" ++ (iss ++ codes "\"}")) (digits_bytes exp fits)
    (All-append IsByte (codes ",\"iss\":\"") (iss ++ codes "\"}") middle
    (All-append IsByte iss (codes "\"}") name back))))
