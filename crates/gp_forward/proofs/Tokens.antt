-- A token is a value of a field: base64url writes visible bytes.
use Rattle.std.proofs.Common.{◌≡◌, ℕ, zero, suc, ◌+◌, ◌*◌, ◌/◌, ◌%◌, ◌^◌, ◌<◌, List, [], ◌∷◌, get_or, true, ltb, refl, arith, length-append}
use Rattle.std.specs.Prelude.{All}
use Rattle.std.specs.Int.{byte_at, bytes_high_first}
use Rattle.std.proofs.lemmas.List.Elements.{All-nil, All-cons, All-head, All-tail, All-append, All-weaker}
use Rattle.std.proofs.lemmas.Bool.{ltb-true}
use Rattle.std.proofs.lemmas.List.Sums.{AllPass-from_list_all}
use Rattle.base64.specs.GeneralPurpose.{IsBytes}
use Rattle.base64.specs.Rfc4648.{encode_symbols}
use Rattle.base64.specs.Engines.{url_safe_no_pad}
use Rattle.sha2.specs.Sha256.{sha256, digest_bytes, final_hash, initial_hash_256}
use Rattle.httparse.specs.Grammar.{is_uri_byte}
use Rattle.gp_head.specs.Writable.{IsFieldValue, HeadLaw}
use Rattle.gp_sig.specs.Tokens.{IsPlain, base64url, header_text, claims_text, dotted, signed_text, signature_of, token_of}
use Rattle.gp_sig.specs.Hmac.{hmac_of}
use Rattle.gp_sig.proofs.Bytes.{claims_bytes}
use Rattle.gp_forward.proofs.Values.{nothing}

abbrev IsByte : ℕ → Type 0
IsByte b = b < 256

are_bytes : (xs : List ℕ) → All IsByte xs → IsBytes xs
are_bytes [] h i = omega arith
are_bytes (x ∷ xs) h zero = All-head IsByte x xs h
are_bytes (x ∷ xs) h (suc i) = are_bytes xs (All-tail IsByte x xs h) i

-- the bytes of a digest
byte_small : (k n : ℕ) → byte_at k n < 256
byte_small zero n = omega arith
byte_small (suc i) n = omega arith

high_bytes : (k n : ℕ) → All IsByte (bytes_high_first k n)
high_bytes zero n = All-nil IsByte
high_bytes (suc k) n = All-cons IsByte (byte_at k n) (bytes_high_first k n) (byte_small k n) (high_bytes k n)

digest_stands : (h : List ℕ) (n : ℕ) → All IsByte (digest_bytes h n)
unfolding digest_bytes
digest_stands h zero = All-nil IsByte
digest_stands h (suc n) = All-append IsByte (digest_bytes h n) (bytes_high_first 4 (get_or h n 0)) (digest_stands h n) (high_bytes 4 (get_or h n 0))

sha_bytes : (m : List ℕ) → IsBytes (sha256 m)
unfolding sha256
sha_bytes m = are_bytes (sha256 m) (digest_stands (final_hash initial_hash_256 m) 8)

-- the symbols of base64url
abbrev symbols : List ℕ
symbols = url_safe_no_pad.encode_table

symbol : (i : ℕ) → i < 64 → is_uri_byte (get_or symbols i 0) ≡ true
symbol i less = AllPass-from_list_all is_uri_byte symbols refl i 0 less

abbrev Visible : ℕ → Type 0
Visible b = is_uri_byte b ≡ true

encode_visible : (m : List ℕ) → IsBytes m → All Visible (encode_symbols symbols m)
unfolding encode_symbols
encode_visible [] bytes = All-nil Visible
encode_visible (a ∷ []) bytes =
    let small : a < 256 = bytes 0 in
    All-cons Visible (get_or symbols (a / 4) 0) (get_or symbols (a % 4 * 16) 0 ∷ []) (symbol (a / 4) (omega arith))
    (All-cons Visible (get_or symbols (a % 4 * 16) 0) [] (symbol (a % 4 * 16) (omega arith)) (All-nil Visible))
encode_visible (a ∷ b ∷ []) bytes =
    let small : a < 256 = bytes 0 in
    let small' : b < 256 = bytes 1 in
    All-cons Visible (get_or symbols (a / 4) 0) (get_or symbols (a % 4 * 16 + b / 16) 0 ∷ get_or symbols (b % 16 * 4) 0 ∷ []) (symbol (a / 4) (omega arith))
    (All-cons Visible (get_or symbols (a % 4 * 16 + b / 16) 0) (get_or symbols (b % 16 * 4) 0 ∷ []) (symbol (a % 4 * 16 + b / 16) (omega arith))
    (All-cons Visible (get_or symbols (b % 16 * 4) 0) [] (symbol (b % 16 * 4) (omega arith)) (All-nil Visible)))
encode_visible (a ∷ b ∷ c ∷ rest) bytes =
    let small : a < 256 = bytes 0 in
    let small' : b < 256 = bytes 1 in
    let small'' : c < 256 = bytes 2 in
    let s0 = get_or symbols (a / 4) 0 in
    let s1 = get_or symbols (a % 4 * 16 + b / 16) 0 in
    let s2 = get_or symbols (b % 16 * 4 + c / 64) 0 in
    let s3 = get_or symbols (c % 64) 0 in
    All-append Visible (s0 ∷ s1 ∷ s2 ∷ s3 ∷ []) (encode_symbols symbols rest)
    (All-cons Visible s0 (s1 ∷ s2 ∷ s3 ∷ []) (symbol (a / 4) (omega arith))
    (All-cons Visible s1 (s2 ∷ s3 ∷ []) (symbol (a % 4 * 16 + b / 16) (omega arith))
    (All-cons Visible s2 (s3 ∷ []) (symbol (b % 16 * 4 + c / 64) (omega arith))
    (All-cons Visible s3 [] (symbol (c % 64) (omega arith)) (All-nil Visible)))))
    (encode_visible rest (λ i. bytes (suc (suc (suc i)))))

base64_visible : (m : List ℕ) → IsBytes m → All Visible (base64url m)
base64_visible m bytes = All-append Visible (encode_symbols symbols m) [] (encode_visible m bytes) (All-nil Visible)

dotted_visible : (a b : List ℕ) → All Visible a → All Visible b → All Visible (dotted a b)
dotted_visible a b all all' = All-append Visible a (46 ∷ b) all (All-cons Visible 46 b refl all')

header_bytes : IsBytes header_text
header_bytes = are_bytes header_text (All-weaker (λ b. ltb b 256 ≡ true) IsByte (λ b e. ltb-true b 256 e) header_text (AllPass-from_list_all (λ b. ltb b 256) header_text refl))

pub token_stands : HeadLaw → (key iss : List ℕ) (exp : ℕ) → IsPlain iss → exp < 2 ^ 64 → IsFieldValue (token_of key iss exp)
token_stands law key iss exp plain fits =
    let signed = dotted_visible (base64url header_text) (base64url (claims_text iss exp)) (base64_visible header_text header_bytes) (base64_visible (claims_text iss exp) (claims_bytes iss exp plain fits)) in
    law.value [] (token_of key iss exp) nothing (omega (arith, length-append (signed_text iss exp) (46 ∷ signature_of key (signed_text iss exp))))
    (dotted_visible (signed_text iss exp) (signature_of key (signed_text iss exp)) signed (base64_visible (hmac_of key (signed_text iss exp)) (sha_bytes _)))
