-- Blanks, and what is the same in either case (RFC 9110, sections 5.6.2 and 5.6.3).
use Rattle.std.specs.Prelude.{ℕ, ◌-◌, Bool, ◌||◌, ◌==◌, List, length, map, take, drop, bytes_eq}
use Rattle.std.specs.List.{prefix_len, suffix_len}
use Rattle.std.specs.Char.{to_ascii_lowercase}

-- a space or a tab
abbrev pub is_blank : ℕ → Bool
is_blank b = (b == 32) || (b == 9)

-- the text without the blanks at its start
abbrev pub from_first : List ℕ → List ℕ
from_first text = drop (prefix_len is_blank text) text

-- the text without the blanks at its end
abbrev pub to_last : List ℕ → List ℕ
to_last text = take (length text - suffix_len is_blank text) text

-- the text without the blanks at its ends
abbrev pub trimmed : List ℕ → List ℕ
trimmed text = to_last (from_first text)

-- the same in either case of ASCII
abbrev pub is_same : List ℕ → List ℕ → Bool
is_same a b = bytes_eq (map to_ascii_lowercase a) (map to_ascii_lowercase b)
