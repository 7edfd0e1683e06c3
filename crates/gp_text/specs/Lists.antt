-- Lists of fields, and values that are lists with commas (RFC 9110, sections 5.2, 5.3 and 5.6.1).
use Rattle.std.specs.Prelude.{ℕ, Bool, ◌==◌, List, filter, find, bytes_eq, Option, option_map}
use Rattle.std.specs.List.{list_any, slice_split}
use Rattle.gp_plain.specs.declared.item.Field.{Field}
use Rattle.gp_text.specs.Words.{trimmed, is_same}

abbrev pub is_comma : ℕ → Bool
is_comma b = b == 44

-- the field has this name
abbrev pub is_named : List ℕ → Field → Bool
is_named name field = bytes_eq field.name name

-- there is such a field
abbrev pub has_field : List ℕ → List Field → Bool
has_field name fields = list_any (is_named name) fields

-- the value of the first field of a name
abbrev pub first_value : List ℕ → List Field → Option (List ℕ)
first_value name fields = option_map (λ (field : Field). field.value) (find (is_named name) fields)

-- a part is this word, in either case and but for the blanks round it
abbrev pub is_part : List ℕ → List ℕ → Bool
is_part word part = is_same (trimmed part) word

-- some part of the value between commas is this word
abbrev pub lists_word : List ℕ → List ℕ → Bool
lists_word word value = list_any (is_part word) (slice_split is_comma value)

abbrev pub lists : List ℕ → Field → Bool
lists word field = lists_word word field.value

-- some field of this name lists the word
abbrev pub has_part : List ℕ → List ℕ → List Field → Bool
has_part name word fields = list_any (lists word) (filter (is_named name) fields)
