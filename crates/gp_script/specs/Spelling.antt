-- How a word of a line spells bytes, names, ids and numbers.
use Rattle.std.specs.Prelude.{ℕ, ◌==◌, ◌||◌, Bool, List, [], ◌∷◌, ◌++◌, map, if◌then◌else◌, Option, Some, None, codes}
use Rattle.std.specs.List.{flat_map, join_with_byte}
use Rattle.std.specs.Char.{is_ascii_alphanumeric}
use Rattle.percent_encoding.specs.Percent.{percent_encode_byte}

-- a letter, a digit, `-`, `.`, `_` or `~`
abbrev pub is_plain : ℕ → Bool
is_plain b = is_ascii_alphanumeric b || (b == 45) || (b == 46) || (b == 95) || (b == 126)

-- a plain byte is itself, and any other is `%` and two upper-case hexadecimal digits
abbrev pub spell_byte : ℕ → List ℕ
spell_byte b = if is_plain b then b ∷ [] else percent_encode_byte b

abbrev pub spell : List ℕ → List ℕ
spell bytes = flat_map spell_byte bytes

-- bytes as a word; no bytes are `!`
abbrev pub word : List ℕ → List ℕ
word [] = codes "!"
word (b ∷ bs) = spell (b ∷ bs)

-- an id, or `!` where it is absent
abbrev pub id_word : Option (List ℕ) → List ℕ
id_word None = codes "!"
id_word (Some id) = word id

-- names, parted by commas
abbrev pub names_word : List (List ℕ) → List ℕ
names_word names = join_with_byte 44 (map word names)

-- words, parted by one space
abbrev pub joined : List (List ℕ) → List ℕ
joined words = join_with_byte 32 words

-- a whole line, with its line feed
abbrev pub line_text : List (List ℕ) → List ℕ
line_text words = joined words ++ codes "\n"
