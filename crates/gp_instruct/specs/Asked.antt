-- The channels that fields ask for.
use Rattle.std.specs.Prelude.{ℕ, ◌==◌, List, [], ◌∷◌, length, bytes_eq, codes, Option, Some, None, option_map, if◌then◌else◌}
use Rattle.std.specs.List.{before_first, flat_map, slice_split}
use Rattle.gp_plain.specs.declared.item.Field.{Field}
use Rattle.gp_instruct.specs.declared.instruct.Sub.{Sub}
use Rattle.gp_instruct.specs.Texts.{is, behind, parts_in, trimmed}
use Rattle.gp_instruct.specs.Fields.{values}

-- the previous id that a parameter gives: it stands behind the first `=`
abbrev pub prev_value : List ℕ → Option (List ℕ)
prev_value parameter =
    if bytes_eq (trimmed (before_first (is 61) parameter)) (codes "prev-id") then option_map trimmed (behind 61 parameter) else None

abbrev pub or_else : Option (List ℕ) → Option (List ℕ) → Option (List ℕ)
or_else None other = other
or_else (Some prev) other = Some prev

-- the first of parameters that gives one
abbrev pub first_prev : List (List ℕ) → Option (List ℕ)
first_prev [] = None
first_prev (parameter ∷ more) = or_else (prev_value parameter) (first_prev more)

-- a name, and behind semicolons its parameters
abbrev pub sub_of : List ℕ → Sub
sub_of part = record { name = trimmed (before_first (is 59) part); prev = first_prev (parts_in 59 (behind 59 part)) }

-- a part with blanks alone asks for no channel
abbrev pub part_subs : List ℕ → List Sub
part_subs part = if length (trimmed part) == 0 then [] else sub_of part ∷ []

-- commas part the channels
abbrev pub rest_subs : Option (List ℕ) → List Sub
rest_subs rest = flat_map part_subs (parts_in 44 rest)

abbrev pub subs_in : List ℕ → List Sub
subs_in value = flat_map part_subs (slice_split (is 44) value)

-- the channels that all fields ask for, in order
abbrev pub asked : List Field → List Sub
asked fields = flat_map subs_in (values (codes "grip-channel") fields)
