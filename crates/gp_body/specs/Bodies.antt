-- Which content a text spells as a body (RFC 9112, sections 6 and 7).
use Rattle.std.specs.Prelude.{◌≡◌, ℕ, ◌<◌, ◌≤◌, true, List, [], ◌∷◌, ◌++◌, length, ⊤}
use Rattle.std.specs.List.{flat_map, list_all}
use Rattle.std.specs.Str.Parse.{digits_value}
use Rattle.gp_body.specs.declared.plan.BodyPlan.{BodyPlan}
use Rattle.gp_body.specs.declared.plan.BodyPlan.TheVariants.{None as NoBody, Length, Chunked, ToClose}
use Rattle.gp_body.specs.Steps.{is_hex, is_extension_byte, is_field_byte}

abbrev pub crlf : List ℕ
crlf = 13 ∷ 10 ∷ []

-- nothing, or `;` and bytes other than CR, LF and controls; a tab may stand
abbrev pub IsExtension : List ℕ → Type 0
IsExtension [] = ⊤
IsExtension (b ∷ bs) = (b ≡ 59) × (list_all is_extension_byte bs ≡ true)

-- a size line: 1 to 8 hexadecimal digits, the extension, and CRLF, at most 256 bytes in all
pub record IsSizeLine (line : List ℕ) (size : ℕ) : Type 0 where
  pub digits : List ℕ
  pub extension : List ℕ
  pub line_is : line ≡ digits ++ (extension ++ crlf)
  pub some : 0 < length digits
  pub few : length digits ≤ 8
  pub hex : list_all is_hex digits ≡ true
  pub extends : IsExtension extension
  pub fits : length line ≤ 256
  pub size_is : size ≡ digits_value 16 digits

-- a chunk: its size line, and its bytes
pub record ChunkText : Type 0 where
  pub line : List ℕ
  pub content : List ℕ

-- it has as many bytes as its size line says, and not none
abbrev pub IsChunk : ChunkText → Type 0
IsChunk c = IsSizeLine c.line (length c.content) × (0 < length c.content)

abbrev pub AreChunks : List ChunkText → Type 0
AreChunks [] = ⊤
AreChunks (c ∷ cs) = IsChunk c × AreChunks cs

abbrev pub chunk_text : ChunkText → List ℕ
chunk_text c = c.line ++ (c.content ++ crlf)

-- a field line without its CRLF: it has a byte, and neither CR nor LF
abbrev pub IsField : List ℕ → Type 0
IsField text = (0 < length text) × (list_all is_field_byte text ≡ true)

abbrev pub AreFields : List (List ℕ) → Type 0
AreFields [] = ⊤
AreFields (f ∷ fs) = IsField f × AreFields fs

abbrev pub fields_text : List (List ℕ) → List ℕ
fields_text fields = flat_map (λ (f : List ℕ). f ++ crlf) fields

-- a chunked body: chunks, a last chunk, which is a size line of value 0, field lines of at most 16,384 bytes together,
-- and an empty line
pub record SpellsChunks (content bytes : List ℕ) : Type 0 where
  pub chunks : List ChunkText
  pub last : List ℕ
  pub fields : List (List ℕ)
  pub bytes_are : bytes ≡ flat_map chunk_text chunks ++ (last ++ (fields_text fields ++ crlf))
  pub content_is : content ≡ flat_map (λ (c : ChunkText). c.content) chunks
  pub are_chunks : AreChunks chunks
  pub ends : IsSizeLine last 0
  pub are_fields : AreFields fields
  pub bounded : length (fields_text fields) ≤ 16384

-- the bytes are a body of this plan, and this is its content; a body that goes on to the close ends with the input
abbrev pub Spells : BodyPlan → List ℕ → List ℕ → Type 0
Spells NoBody content bytes = (content ≡ []) × (bytes ≡ [])
Spells (Length n) content bytes = (content ≡ bytes) × (length bytes ≡ n)
Spells Chunked content bytes = SpellsChunks content bytes
Spells ToClose content bytes = content ≡ bytes
