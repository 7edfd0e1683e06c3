-- The grammar of heads on values: what can be written as a head and read again (RFC 9112, sections 3 to 5).
use Rattle.std.specs.Prelude.{◌≡◌, ℕ, ◌<◌, ◌≤◌, Bool, ◌==◌, All, List, ◌∷◌, ◌++◌, length, filter, slice_index, Option, IsUtf8, if◌then◌else◌}
use Rattle.http_header.specs.Token.{lowercase}
use Rattle.http_uri.specs.ByteClasses.{slash}
use Rattle.httparse.specs.Grammar.{AllPass, IsToken, is_uri_byte, is_value_byte, trim_ows}
use Rattle.gp_plain.specs.declared.item.Field.{Field}
use Rattle.gp_plain.specs.declared.http.Request.{Request}
use Rattle.gp_plain.specs.declared.http.Response.{Response}
use Rattle.gp_head.specs.declared.scan.TheConstants.{MAX_HEAD, MAX_FIELDS}
use Rattle.gp_head.specs.declared.read.HeadRead.TheVariants.{Whole}
use Rattle.gp_head.specs.Heads.{IsRequestText, IsResponseText, IsRead}
use Rattle.gp_head.specs.Targets.{IsSplit}
use Rattle.gp_head.specs.Texts.{request_text, response_text}

-- a name of a field: a token in lower case
pub record IsFieldName (name : List ℕ) : Type 0 where
  pub token : IsToken name
  pub lowered : lowercase name ≡ name

-- a value of a field: no control byte but tabs, and no spaces and tabs at its ends
pub record IsFieldValue (value : List ℕ) : Type 0 where
  pub bytes : AllPass is_value_byte value
  pub trimmed : trim_ows value ≡ value

pub record IsWritableField (field : Field) : Type 0 where
  pub name : IsFieldName field.name
  pub value : IsFieldValue field.value

abbrev pub AreWritable : List Field → Type 0
AreWritable fields = All IsWritableField fields

-- a request target: bytes, all visible or past ASCII, in UTF-8
pub record IsTarget (target : List ℕ) : Type 0 where
  pub some : 0 < length target
  pub bytes : AllPass is_uri_byte target
  pub text : IsUtf8 target

pub record IsWritableRequest (head : Request) : Type 0 where
  pub method : IsToken head.method
  pub target : IsTarget head.target
  pub fields : AreWritable head.fields

pub record IsWritableResponse (head : Response) : Type 0 where
  pub code : head.code < 1000
  pub reason : AllPass is_value_byte head.reason
  pub fields : AreWritable head.fields

-- a path and query as a target: `/` stands before one whose path has no byte
abbrev pub with_slash : List ℕ → List ℕ
with_slash path = if slice_index path 0 == slash then path else slash ∷ path

-- bytes that begin with the text of this head are read as this head
abbrev pub IsReadBack : {T : Type 0} → (List ℕ → T → Type 0) → T → List ℕ → Type 0
IsReadBack IsText head text = (more : List ℕ) → IsRead IsText (text ++ more) (Whole head (length text))

-- of every head
pub record HeadLaw : Type 0 where
  -- a head that was read can be written
  pub request_read : (bytes : List ℕ) (head : Request) (n : ℕ) → IsRead IsRequestText bytes (Whole head n) → IsWritableRequest head × (length head.fields ≤ MAX_FIELDS)
  pub response_read : (bytes : List ℕ) (head : Response) (n : ℕ) → IsRead IsResponseText bytes (Whole head n) → IsWritableResponse head × (length head.fields ≤ MAX_FIELDS)
  -- one of version 1.1 that can be written, within the limits of a head, is read whole from its text, whatever follows
  pub request_back : (head : Request) → IsWritableRequest head → head.version ≡ 1 → length head.fields ≤ MAX_FIELDS → length (request_text head) ≤ MAX_HEAD
      → IsReadBack IsRequestText head (request_text head)
  pub response_back : (head : Response) → IsWritableResponse head → head.version ≡ 1 → length head.fields ≤ MAX_FIELDS → length (response_text head) ≤ MAX_HEAD
      → IsReadBack IsResponseText head (response_text head)
  -- the path and query of a target, with `/` where the path is empty, is a target
  pub target : (target path : List ℕ) (authority : Option (List ℕ)) → IsSplit target path authority → IsTarget (with_slash path)
  -- fields can be dropped, and others that can be written added
  pub dropped : (keep : Field → Bool) (fields : List Field) → AreWritable fields → AreWritable (filter keep fields)
  pub added : (fields more : List Field) → AreWritable fields → AreWritable more → AreWritable (fields ++ more)
  -- visible bytes, or bytes past ASCII, behind a value make a value
  pub value : (value more : List ℕ) → IsFieldValue value → 0 < length more → AllPass is_uri_byte more → IsFieldValue (value ++ more)
