-- Counts that never fall, and told bytes that grow.
use Rattle.std.specs.Prelude.{ℕ, ◌+◌, ◌-◌, ◌^◌, ◌≤◌, min, List, ◌++◌, Option, option_map}

-- the next value of a count, which stands still at its last one
abbrev pub counted : ℕ → ℕ
counted before = min (before + 1) (2 ^ 64 - 1)

-- a count is greater than before, or stands at its last value
abbrev pub Rose : ℕ → ℕ → Type 0
Rose before now = counted before ≤ now

-- told bytes grow by these; what isn't told stays so
abbrev pub grown : Option (List ℕ) → List ℕ → Option (List ℕ)
grown told more = option_map (λ (bytes : List ℕ). bytes ++ more) told
