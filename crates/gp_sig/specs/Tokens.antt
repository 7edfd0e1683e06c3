-- Tokens: JSON Web Tokens (RFC 7519) in the compact form of RFC 7515, signed by HS256.
use Rattle.std.specs.Prelude.{ℕ, ◌≡◌, ◌≢◌, ◌<◌, ◌≤◌, ◌^◌, ◌==◌, List, [], ◌∷◌, ◌++◌, All, codes, ⊤}
use Rattle.std.specs.List.{slice_split}
use Rattle.std.specs.Fmt.{decimal}
use Rattle.base64.specs.GeneralPurpose.{encode_of, IsBytes}
use Rattle.base64.specs.Engines.{url_safe_no_pad}
use Rattle.gp_sig.specs.Hmac.{hmac_of}
use Rattle.gp_sig.specs.declared.fault.SigFault.{SigFault}
use Rattle.gp_sig.specs.declared.fault.SigFault.TheVariants.{Parts, Signature, Claims, Expired, NoMemory}

-- base64url without padding (RFC 4648, section 5)
abbrev pub base64url : List ℕ → List ℕ
base64url bytes = encode_of url_safe_no_pad bytes

abbrev pub header_text : List ℕ
header_text = codes "{\"typ\":\"JWT\",\"alg\":\"HS256\"}"

-- an issuer is printable ASCII without `"` and `\`, so that it stands in JSON as it is
abbrev pub IsPlainByte : ℕ → Type 0
IsPlainByte b = (32 ≤ b) × (b ≤ 126) × (b ≢ 34) × (b ≢ 92)

abbrev pub IsPlain : List ℕ → Type 0
IsPlain iss = All IsPlainByte iss

abbrev pub claims_text : List ℕ → ℕ → List ℕ
claims_text iss exp = codes "{\"exp\":" ++ (decimal exp ++ (codes ",\"iss\":\"" ++ (iss ++ codes "\"}")))

-- two texts with a dot between them
abbrev pub dotted : List ℕ → List ℕ → List ℕ
dotted a b = a ++ 46 ∷ b

-- what is signed: the header and the claims
abbrev pub signed_text : List ℕ → ℕ → List ℕ
signed_text iss exp = dotted (base64url header_text) (base64url (claims_text iss exp))

-- the third part of a token
abbrev pub signature_of : List ℕ → List ℕ → List ℕ
signature_of key signed = base64url (hmac_of key signed)

abbrev pub token_of : List ℕ → List ℕ → ℕ → List ℕ
token_of key iss exp = dotted (signed_text iss exp) (signature_of key (signed_text iss exp))

-- a text that base64url writes for some bytes
abbrev pub IsBase64url : List ℕ → Type 0
IsBase64url text = (bytes : List ℕ) × IsBytes bytes × (text ≡ base64url bytes)

-- no other bytes have this text
abbrev pub IsOnlyReading : List ℕ → List ℕ → Type 0
IsOnlyReading text bytes = (other : List ℕ) → IsBytes other → text ≡ base64url other → other ≡ bytes

-- the text is these three parts with dots between them, each in base64url
pub record HasParts (text head claims signature : List ℕ) : Type 0 where
  pub split : slice_split (λ b. b == 46) text ≡ head ∷ claims ∷ signature ∷ []
  pub head_is : IsBase64url head
  pub claims_is : IsBase64url claims
  pub signature_is : IsBase64url signature

-- the part is what a token with these claims has
pub record HasClaims (part iss : List ℕ) (exp : ℕ) : Type 0 where
  pub plain : IsPlain iss
  pub fits : exp < 2 ^ 64
  pub text : part ≡ base64url (claims_text iss exp)

-- the text has three parts, of which the third signs the first two
pub record IsSigned (key text claims : List ℕ) : Type 0 where
  pub head : List ℕ
  pub signature : List ℕ
  pub parts : HasParts text head claims signature
  pub signs : signature ≡ signature_of key (dotted head claims)

-- why a token is refused, in the order of the checks
abbrev pub IsRefused : List ℕ → List ℕ → ℕ → SigFault → Type 0
IsRefused key text now Parts = (head claims signature : List ℕ) → HasParts text head claims signature → ⊥
IsRefused key text now Signature = (head : List ℕ) × (claims : List ℕ) × (signature : List ℕ) × HasParts text head claims signature × (signature ≢ signature_of key (dotted head claims))
IsRefused key text now Claims = (claims : List ℕ) × IsSigned key text claims × ((iss : List ℕ) (exp : ℕ) → HasClaims claims iss exp → ⊥)
IsRefused key text now (Expired exp) = (claims : List ℕ) × IsSigned key text claims × ((iss : List ℕ) × HasClaims claims iss exp) × (exp ≤ now)
IsRefused key text now NoMemory = ⊤
