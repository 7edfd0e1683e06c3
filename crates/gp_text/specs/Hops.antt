-- Which fields go on from one connection to the next (RFC 9110, section 7.6.1).
use Rattle.std.specs.Prelude.{ℕ, Bool, ◌||◌, not, List, filter, bytes_eq, codes}
use Rattle.gp_plain.specs.declared.item.Field.{Field}
use Rattle.gp_text.specs.Lists.{has_part}

-- fields that are of one connection alone
abbrev pub is_hop : List ℕ → Bool
is_hop name = bytes_eq name (codes "connection") || (bytes_eq name (codes "keep-alive") || (bytes_eq name (codes "proxy-connection")
    || (bytes_eq name (codes "te") || (bytes_eq name (codes "trailer") || (bytes_eq name (codes "transfer-encoding") || bytes_eq name (codes "upgrade"))))))

-- fields that a proxy with holds takes in or writes anew
abbrev pub is_own : List ℕ → Bool
is_own name = bytes_eq name (codes "content-length") || (bytes_eq name (codes "expect") || (bytes_eq name (codes "grip-sig") || bytes_eq name (codes "grip-last")))

-- a field of the message goes on: it is neither, and no `connection` field lists it
abbrev pub goes_on : List Field → Field → Bool
goes_on fields field = not (is_hop field.name || (is_own field.name || has_part (codes "connection") field.name fields))

-- those of a message's fields that go on, in order
abbrev pub going_on : List Field → List Field
going_on fields = filter (goes_on fields) fields
