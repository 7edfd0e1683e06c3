-- The request that is forwarded (RFC 9110, sections 7.2 and 7.6; RFC 9112, section 3).
use Rattle.std.specs.Prelude.{ℕ, Bool, ◌&&◌, bytes_eq, List, [], ◌∷◌, ◌++◌, length, map, All, codes, Option, Some, None, IfSome, if◌then◌else◌}
use Rattle.std.specs.Fmt.{decimal}
use Rattle.gp_plain.specs.declared.item.Field.{Field}
use Rattle.gp_plain.specs.declared.http.Address.{Address}
use Rattle.gp_plain.specs.declared.http.Request.{Request}
use Rattle.gp_text.specs.Lists.{has_field}
use Rattle.gp_text.specs.Hops.{goes_on, going_on}
use Rattle.gp_head.specs.Targets.{IsSplit}
use Rattle.gp_head.specs.Texts.{request_text}
use Rattle.gp_head.specs.Writable.{IsFieldValue, IsWritableRequest, with_slash}

abbrev pub field : List ℕ → List ℕ → Field
field name value = record { name = name; value = value }

-- the field goes on, and has this name
abbrev pub is_kept : List Field → List ℕ → Field → Bool
is_kept fields name f = goes_on fields f && bytes_eq f.name name

-- the origin's own name and port, where the request has no `host`
abbrev pub host_fields : List Field → Address → List Field
host_fields kept address = if has_field (codes "host") kept then [] else field (codes "host") (address.host ++ codes ":" ++ decimal address.port) ∷ []

-- the length of the body, where the request had one
abbrev pub length_fields : Option (List ℕ) → List Field
length_fields None = []
length_fields (Some body) = field (codes "content-length") (decimal (length body)) ∷ []

abbrev pub close : Field
close = field (codes "connection") (codes "close")

-- the token, where requests are signed
abbrev pub sig_fields : Option (List ℕ) → List Field
sig_fields None = []
sig_fields (Some sig) = field (codes "grip-sig") sig ∷ []

-- the last item of a channel that the client has
abbrev pub last_field : List ℕ → Field
last_field last = field (codes "grip-last") last

-- the fields that are added behind those that were kept
abbrev pub added : List Field → Option (List ℕ) → Address → Option (List ℕ) → List (List ℕ) → List Field
added kept body address sig lasts = host_fields kept address ++ (length_fields body ++ (close ∷ (sig_fields sig ++ map last_field lasts)))

abbrev pub forwarded_fields : List Field → Option (List ℕ) → Address → Option (List ℕ) → List (List ℕ) → List Field
forwarded_fields fields body address sig lasts = going_on fields ++ added (going_on fields) body address sig lasts

-- the head, with the path and query of the target
abbrev pub forwarded_head : Request → List ℕ → Option (List ℕ) → Address → Option (List ℕ) → List (List ℕ) → Request
forwarded_head request path body address sig lasts =
    record { method = request.method; target = with_slash path; version = 1; fields = forwarded_fields request.fields body address sig lasts }

abbrev pub bytes_or : Option (List ℕ) → List ℕ
bytes_or None = []
bytes_or (Some body) = body

abbrev pub forwarded : Request → List ℕ → Option (List ℕ) → Address → Option (List ℕ) → List (List ℕ) → List ℕ
forwarded request path body address sig lasts = request_text (forwarded_head request path body address sig lasts) ++ bytes_or body

-- what can be forwarded: a request in the grammar of heads, a target that is a path or an absolute URI, and values of
-- fields
pub record IsForwardable (request : Request) (address : Address) (sig : Option (List ℕ)) (lasts : List (List ℕ)) : Type 0 where
  pub asks : IsWritableRequest request
  pub target : (path : List ℕ) × (authority : Option (List ℕ)) × IsSplit request.target path authority
  pub host : IsFieldValue address.host
  pub signed : IfSome sig IsFieldValue
  pub told : All IsFieldValue lasts
