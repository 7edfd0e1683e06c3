-- Which responses have an instruction as their body.
use Rattle.std.specs.Prelude.{ℕ, Bool, false, List, bytes_eq, codes, find, Option, Some, None}
use Rattle.std.specs.List.{before_first}
use Rattle.gp_plain.specs.declared.item.Field.{Field}
use Rattle.gp_instruct.specs.Texts.{is, trimmed_back}

-- the type, without its parameters and the blanks before them
abbrev pub is_instruct_type : List ℕ → Bool
is_instruct_type value = bytes_eq (trimmed_back (before_first (is 59) value)) (codes "application/grip-instruct")

abbrev pub gives_type : Field → Bool
gives_type field = bytes_eq field.name (codes "content-type")

abbrev pub is_type_of : Option Field → Bool
is_type_of None = false
is_type_of (Some field) = is_instruct_type field.value

-- the first field that gives a type gives this one
abbrev pub has_type : List Field → Bool
has_type fields = is_type_of (find gives_type fields)
