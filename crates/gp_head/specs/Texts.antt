-- How heads are written (RFC 9112, sections 3 to 5).
use Rattle.std.specs.Prelude.{◌≡◌, ℕ, ◌+◌, ◌/◌, ◌%◌, ◌≤◌, List, [], ◌∷◌, ◌++◌, length, codes}
use Rattle.std.specs.List.{flat_map}
use Rattle.httparse.specs.Ascii.{digit_zero, crlf_bytes}
use Rattle.gp_plain.specs.declared.item.Field.{Field}
use Rattle.gp_plain.specs.declared.http.Request.{Request}
use Rattle.gp_plain.specs.declared.http.Response.{Response}
use Rattle.gp_head.specs.declared.scan.TheConstants.{MAX_HEAD}
use Rattle.gp_head.specs.declared.read.HeadRead.TheVariants.{Whole}
use Rattle.gp_head.specs.Heads.{IsRead}

-- NAME: VALUE CRLF
abbrev pub field_text : Field → List ℕ
field_text field = field.name ++ codes ": " ++ field.value ++ crlf_bytes

-- the field lines, and an empty line
abbrev pub fields_text : List Field → List ℕ
fields_text fields = flat_map field_text fields ++ crlf_bytes

-- METHOD SP TARGET SP HTTP/1.1 CRLF, and the fields
abbrev pub request_text : Request → List ℕ
request_text request =
    request.method ++ codes " " ++ request.target ++ codes " HTTP/1.1" ++ crlf_bytes ++ fields_text request.fields

-- the last three digits of a number
abbrev pub code_text : ℕ → List ℕ
code_text code =
    (digit_zero + (code / 100) % 10) ∷ (digit_zero + (code / 10) % 10) ∷ (digit_zero + code % 10) ∷ []

-- HTTP/1.1 SP CODE SP REASON CRLF, and the fields
abbrev pub response_text : Response → List ℕ
response_text response =
    codes "HTTP/1.1 " ++ code_text response.code ++ codes " " ++ response.reason ++ crlf_bytes ++ fields_text response.fields

-- a head of version 1.1 that a reader gave is read again from the text, where that is no longer than a head may be
abbrev pub IsReadAgain : {T : Type 0} → (List ℕ → T → Type 0) → (T → ℕ) → T → List ℕ → Type 0
IsReadAgain IsText version head text =
    (bytes : List ℕ) (n : ℕ) → IsRead IsText bytes (Whole head n) → version head ≡ 1 → length text ≤ MAX_HEAD
    → IsRead IsText text (Whole head (length text))
