-- The fields of a head that GRIP reads.
use Rattle.std.specs.Prelude.{ℕ, ◌||◌, Bool, List, map, filter, bytes_eq, codes}
use Rattle.std.specs.List.{list_any}
use Rattle.gp_plain.specs.declared.item.Field.{Field}

-- the values of the fields of a name, in order
abbrev pub values : List ℕ → List Field → List (List ℕ)
values name fields = map (λ (field : Field). field.value) (filter (λ (field : Field). bytes_eq field.name name) fields)

abbrev pub is_instruction : List ℕ → Bool
is_instruction name =
    bytes_eq name (codes "grip-hold") || bytes_eq name (codes "grip-channel") || bytes_eq name (codes "grip-link") || bytes_eq name (codes "grip-status")

-- a field gives an instruction
abbrev pub is_given : List Field → Bool
is_given fields = list_any (λ (field : Field). is_instruction field.name) fields
