-- How a body is framed (RFC 9112, section 6.3).
use Rattle.std.specs.Prelude.{ℕ, ◌-◌, Bool, ◌&&◌, count_by, ◌||◌, ◌==◌, nat_lt, nat_le, List, [], ◌∷◌, length, map, filter, take, drop, bytes_eq, codes, Result, Ok, Err, if◌then◌else◌}
use Rattle.std.specs.List.{list_all, list_any, slice_split, before_first, prefix_len, suffix_len}
use Rattle.std.specs.Char.{is_ascii_digit, to_ascii_lowercase}
use Rattle.std.specs.Str.Parse.{digits_value}
use Rattle.gp_plain.specs.declared.item.Field.{Field}
use Rattle.gp_plain.specs.declared.http.Request.{Request}
use Rattle.gp_plain.specs.declared.http.Response.{Response}
use Rattle.gp_body.specs.declared.plan.BodyPlan.{BodyPlan}
use Rattle.gp_body.specs.declared.plan.BodyPlan.TheVariants.{None as NoBody, Length, Chunked, ToClose}
use Rattle.gp_body.specs.declared.plan.BodyFault.{BodyFault}
use Rattle.gp_body.specs.declared.plan.BodyFault.TheVariants.{Both, Coding, Length as BadLength}

abbrev pub is_comma : ℕ → Bool
is_comma b = b == 44

-- a space or a tab
abbrev pub is_blank : ℕ → Bool
is_blank b = (b == 32) || (b == 9)

-- the text without the blanks at its start
abbrev pub from_first : List ℕ → List ℕ
from_first text = drop (prefix_len is_blank text) text

-- the text without the blanks at its end
abbrev pub to_last : List ℕ → List ℕ
to_last text = take (length text - suffix_len is_blank text) text

-- the text without the blanks at its ends
abbrev pub trimmed : List ℕ → List ℕ
trimmed text = to_last (from_first text)

-- the field has this name
abbrev pub is_named : List ℕ → Field → Bool
is_named name field = bytes_eq field.name name

-- the fields of this name, in order
abbrev pub named : List ℕ → List Field → List Field
named name fields = filter (is_named name) fields

-- there is such a field
abbrev pub has : List ℕ → List Field → Bool
has name fields = list_any (is_named name) fields

abbrev pub transfer_encoding : List ℕ
transfer_encoding = codes "transfer-encoding"

abbrev pub content_length : List ℕ
content_length = codes "content-length"

-- `chunked` in either case
abbrev pub is_chunked : Field → Bool
is_chunked field = bytes_eq (map to_ascii_lowercase field.value) (map to_ascii_lowercase (codes "chunked"))

-- one field, which is `chunked`, in a message of HTTP/1.1
abbrev pub coding_plan : List Field → ℕ → Result BodyPlan BodyFault
coding_plan fields version =
    if (count_by (is_named transfer_encoding) fields == 1) && (list_all is_chunked (named transfer_encoding fields) && (version == 1))
    then Ok Chunked else Err Coding

-- 1 to 18 digits
abbrev pub is_count : List ℕ → Bool
is_count digits = nat_lt 0 (length digits) && (nat_le (length digits) 18 && list_all is_ascii_digit digits)

-- a part is this text
abbrev pub is_part : List ℕ → List ℕ → Bool
is_part digits part = bytes_eq (trimmed part) digits

-- each part of the value between commas is this text
abbrev pub parts_are : List ℕ → List ℕ → Bool
parts_are digits value = list_all (is_part digits) (slice_split is_comma value)

abbrev pub says : List ℕ → Field → Bool
says digits field = parts_are digits field.value

-- the first part of the first field
abbrev pub first_part : List Field → List ℕ
first_part [] = []
first_part (field ∷ others) = trimmed (before_first is_comma field.value)

-- all parts of all values are the same digits
abbrev pub length_plan : List Field → Result BodyPlan BodyFault
length_plan fields =
    let digits = first_part (named content_length fields) in
    if is_count digits && list_all (says digits) (named content_length fields) then Ok (Length (digits_value 10 digits)) else Err BadLength

-- of a request: both are refused, and with neither there is no body
unfoldable pub plan_of_request : Request → Result BodyPlan BodyFault
plan_of_request head =
    if has transfer_encoding head.fields
    then (if has content_length head.fields then Err Both else coding_plan head.fields head.version)
    else (if has content_length head.fields then length_plan head.fields else Ok NoBody)

-- no response to HEAD has a body, and none of these codes
abbrev pub is_bare : List ℕ → ℕ → Bool
is_bare method code = bytes_eq method (codes "HEAD") || ((nat_le 100 code && nat_le code 199) || ((code == 204) || (code == 304)))

-- of a response: the coding wins over the length, and with neither the body goes on to the close
unfoldable pub plan_of_response : Response → List ℕ → Result BodyPlan BodyFault
plan_of_response head method =
    if is_bare method head.code then Ok NoBody
    else (if has transfer_encoding head.fields then coding_plan head.fields head.version
    else (if has content_length head.fields then length_plan head.fields else Ok ToClose))
