-- Which bytes are a name or an id, and why others are not.
use Rattle.std.specs.Prelude.{ℕ, ◌≡◌, ◌+◌, ◌<◌, ◌≤◌, ◌==◌, ◌||◌, ◌&&◌, Bool, true, false, nat_lt, eqb, List, [], length, slice_index, All}
use Rattle.std.specs.Cmp.Lexicographic.{pointwise}
use Rattle.gp_plain.specs.declared.name.NameFault.{NameFault}
use Rattle.gp_plain.specs.declared.name.NameFault.TheVariants.{Empty, Long, Byte, NoMemory}

-- names and ids are compared byte by byte
abbrev pub same_id : List ℕ → List ℕ → Bool
same_id = pointwise eqb

-- a control, a quotation mark, a comma, a semicolon or the byte 0x7F
abbrev pub is_barred : ℕ → Bool
is_barred b = nat_lt b 32 || (b == 34) || (b == 44) || (b == 59) || (b == 127)

-- a barred byte stands at the place, or an outer space
abbrev pub is_bad_at : List ℕ → ℕ → Bool
is_bad_at bytes k = is_barred (slice_index bytes k) || ((slice_index bytes k == 32) && ((k == 0) || (k + 1 == length bytes)))

-- bytes are below 256
abbrev pub IsBytes : List ℕ → Type 0
IsBytes bytes = All (λ (b : ℕ). b < 256) bytes

-- 1 to 255 bytes, none of which may not stand at its place
pub record IsName (bytes : List ℕ) : Type 0 where
  pub small : IsBytes bytes
  pub some : 0 < length bytes
  pub short : length bytes ≤ 255
  pub clean : (k : ℕ) → k < length bytes → is_bad_at bytes k ≡ false

-- the least place of a byte that may not stand there
pub record IsFirstBad (bytes : List ℕ) (place : ℕ) : Type 0 where
  pub within : place < length bytes
  pub bad : is_bad_at bytes place ≡ true
  pub before : (k : ℕ) → k < place → is_bad_at bytes k ≡ false

-- the refusals, in their order; memory is wanting only for a name
abbrev pub IsNameFault : List ℕ → NameFault → Type 0
IsNameFault bytes Empty = bytes ≡ []
IsNameFault bytes (Long n) = (255 < length bytes) × (n ≡ length bytes)
IsNameFault bytes (Byte place) = (0 < length bytes) × (length bytes ≤ 255) × IsFirstBad bytes place
IsNameFault bytes NoMemory = IsName bytes
