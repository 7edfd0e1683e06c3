-- The head of a chunk (RFC 9112, section 7.1).
use Rattle.std.specs.Prelude.{ℕ, List, [], ◌∷◌, ◌++◌, map}
use Rattle.std.specs.Char.{digit_char}
use Rattle.std.specs.Int.Digits.{digits_of}

-- the digits of the size, the highest first, and CRLF
abbrev pub chunk_head : ℕ → List ℕ
chunk_head size = map digit_char (digits_of 16 size) ++ 13 ∷ 10 ∷ []
