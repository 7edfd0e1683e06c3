-- How a field's value is cut.
use Rattle.std.specs.Prelude.{ℕ, ◌+◌, ◌-◌, ◌==◌, ◌||◌, Bool, List, [], length, take, drop, nat_lt, min, Option, Some, None, if◌then◌else◌}
use Rattle.std.specs.List.{prefix_len, suffix_len, position_or_len, slice_split}

-- a space or a tab
abbrev pub is_blank : ℕ → Bool
is_blank b = (b == 32) || (b == 9)

-- without the blanks at the front
abbrev pub trimmed_front : List ℕ → List ℕ
trimmed_front text = drop (prefix_len is_blank text) text

-- without the blanks at the end
abbrev pub trimmed_back : List ℕ → List ℕ
trimmed_back text = take (length text - suffix_len is_blank text) text

-- without the blanks at the ends
abbrev pub trimmed : List ℕ → List ℕ
trimmed text = trimmed_back (trimmed_front text)

abbrev pub is : ℕ → ℕ → Bool
is mark b = b == mark

-- what stands behind the first such byte, where it is there
abbrev pub behind : ℕ → List ℕ → Option (List ℕ)
behind mark text =
    if nat_lt (position_or_len (is mark) text) (length text) then Some (drop (position_or_len (is mark) text + 1) text) else None

-- the parts of a rest, where there is one, parted by such bytes
abbrev pub parts_in : ℕ → Option (List ℕ) → List (List ℕ)
parts_in mark None = []
parts_in mark (Some text) = slice_split (is mark) text

-- a number as 32 bits tell it
abbrev pub told : ℕ → ℕ
told n = min n 4294967295
