-- Which head a text is, and what a reader of heads answers (RFC 9112, sections 3 to 5).
use Rattle.std.specs.Prelude.{◌≡◌, ℕ, List, [], ◌++◌, map, take, ⊤}
use Rattle.http_header.specs.Token.{lowercase}
use Rattle.httparse.specs.Grammar.{Field as Line, RequestHead, ReadsRequest, ResponseHead, ReadsResponse, status_code, reason_phrase}
use Rattle.httparse.specs.Spans.{name_and_value, header_bytes}
use Rattle.httparse.specs.declared.spans.HeaderSpan.{HeaderSpan}
use Rattle.gp_plain.specs.declared.item.Field.{Field}
use Rattle.gp_plain.specs.declared.http.Request.{Request}
use Rattle.gp_plain.specs.declared.http.Response.{Response}
use Rattle.gp_head.specs.declared.scan.Extent.TheVariants.{TooMany as ManyFields, TooLong as Long, More as Open, Ends}
use Rattle.gp_head.specs.declared.parse.Refusal.{Refusal}
use Rattle.gp_head.specs.declared.parse.Refusal.TheVariants.{Bad as BadText, NoMemory as NoRoom}
use Rattle.gp_head.specs.declared.read.HeadRead.{HeadRead}
use Rattle.gp_head.specs.declared.read.HeadRead.TheVariants.{Whole, More, Bad, TooMany, TooLong, NoMemory}
use Rattle.gp_head.specs.Lines.{extent_of}

-- a field of this name, written in any case, and this value
abbrev pub field_named : List ℕ × List ℕ → Field
field_named p = record { name = lowercase p.0; value = p.1 }

-- the field that a line of the grammar is: the name in lower case, and the value without spaces and tabs at its ends
abbrev pub field_of : Line → Field
field_of line = field_named (name_and_value line)

-- the field at a span of the text
abbrev pub field_at : List ℕ → HeaderSpan → Field
field_at text span = field_named (header_bytes text span)

-- the request that a head of the grammar is
abbrev pub request_of : RequestHead → Request
request_of head =
    record { method = head.method; target = head.target; version = head.minor; fields = map field_of head.fields }

-- the response that a head of the grammar is
abbrev pub response_of : ResponseHead → Response
response_of head =
    record { version = head.minor; code = status_code head; reason = reason_phrase head.reason; fields = map field_of head.fields }

-- the whole text is a head of the grammar, and that head is this request
abbrev pub IsRequestText : List ℕ → Request → Type 0
IsRequestText text request = (head : RequestHead) × ReadsRequest text head [] × (request ≡ request_of head)

-- the same for a response
abbrev pub IsResponseText : List ℕ → Response → Type 0
IsResponseText text response = (head : ResponseHead) × ReadsResponse text head [] × (response ≡ response_of head)

module _ {T : Type 0} (IsText : List ℕ → T → Type 0) where
  -- the text is no such head
  abbrev pub IsNoText : List ℕ → Type 0
  IsNoText text = (head : T) → ¬ (IsText text head)

  -- why a text was refused
  abbrev pub IsRefused : List ℕ → Refusal → Type 0
  IsRefused text BadText = IsNoText text
  IsRefused text NoRoom = ⊤

  -- what a reader answers for the bytes
  abbrev pub IsRead : List ℕ → HeadRead T → Type 0
  IsRead bytes TooMany = extent_of bytes ≡ ManyFields
  IsRead bytes TooLong = extent_of bytes ≡ Long
  IsRead bytes More = extent_of bytes ≡ Open
  IsRead bytes Bad = (n : ℕ) × (extent_of bytes ≡ Ends n) × IsNoText (take n bytes)
  IsRead bytes (Whole head n) = (extent_of bytes ≡ Ends n) × IsText (take n bytes) head
  IsRead bytes NoMemory = ⊤

  -- an answer other than More is the answer whatever bytes follow
  abbrev pub IsSettled : List ℕ → HeadRead T → Type 0
  IsSettled bytes TooMany = (more : List ℕ) → IsRead (bytes ++ more) TooMany
  IsSettled bytes TooLong = (more : List ℕ) → IsRead (bytes ++ more) TooLong
  IsSettled bytes More = ⊤
  IsSettled bytes Bad = (more : List ℕ) → IsRead (bytes ++ more) Bad
  IsSettled bytes (Whole head n) = (more : List ℕ) → IsRead (bytes ++ more) (Whole head n)
  IsSettled bytes NoMemory = ⊤
