-- The heads of answers that have fields of an origin or of an item (RFC 9112, section 4).
use Rattle.std.specs.Prelude.{ℕ, Bool, ◌&&◌, not, List, [], ◌∷◌, ◌++◌, filter, take, bytes_eq, codes}
use Rattle.std.specs.Fmt.{decimal}
use Rattle.gp_plain.specs.declared.item.Field.{Field}
use Rattle.gp_plain.specs.declared.http.Response.{Response}
use Rattle.gp_text.specs.Hops.{goes_on}
use Rattle.gp_answer.specs.declared.framing.Framing.{Framing}
use Rattle.gp_answer.specs.declared.framing.Framing.TheVariants.{Length, Chunked, Close}

-- a field that is meant for the proxy
abbrev pub is_for_proxy : List ℕ → Bool
is_for_proxy name = bytes_eq (take 5 name) (codes "grip-")

-- a field of an origin or of an item is passed on
abbrev pub is_passed : List Field → Field → Bool
is_passed fields field = goes_on fields field && not (is_for_proxy field.name)

abbrev pub passed : List Field → List Field
passed fields = filter (is_passed fields) fields

abbrev pub field : List ℕ → List ℕ → Field
field name value = record { name = name; value = value }

-- the connection ends with the answer
abbrev pub close : Field
close = field (codes "connection") (codes "close")

abbrev pub length_field : ℕ → Field
length_field bytes = field (codes "content-length") (decimal bytes)

-- the fields that are added
abbrev pub added : Framing → List Field
added (Length bytes) = length_field bytes ∷ close ∷ []
added Chunked = field (codes "transfer-encoding") (codes "chunked") ∷ close ∷ []
added Close = close ∷ []

abbrev pub answer_head : ℕ → List ℕ → List Field → Framing → Response
answer_head code reason fields framing = record { version = 1; code = code; reason = reason; fields = passed fields ++ added framing }
