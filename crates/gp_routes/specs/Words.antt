-- The words of a line of the routes file.
use Rattle.std.specs.Prelude.{ℕ, Bool, ◌||◌, List, length, filter, nat_lt, nat_eq}
use Rattle.std.specs.List.{before_first, slice_split}

-- a space or a tab
abbrev pub is_blank : ℕ → Bool
is_blank b = nat_eq b 32 || nat_eq b 9

-- `#`, which begins a comment
abbrev pub is_hash : ℕ → Bool
is_hash b = nat_eq b 35

-- it has a byte
abbrev pub has_byte : List ℕ → Bool
has_byte word = nat_lt 0 (length word)

-- what stands between blanks
abbrev pub words_of : List ℕ → List (List ℕ)
words_of text = filter has_byte (slice_split is_blank text)

-- the words of a line before its comment
abbrev pub words : List ℕ → List (List ℕ)
words line = words_of (before_first is_hash line)
