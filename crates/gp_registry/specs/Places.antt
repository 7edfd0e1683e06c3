-- Where a number stands among numbers that rise.
use Rattle.std.specs.Prelude.{ℕ, ◌≡◌, ◌≢◌, ◌<◌, List, length, slice_index}

-- the number stands at the place, and nowhere before
pub record IsPlaceOf (numbers : List ℕ) (number place : ℕ) : Type 0 where
  pub within : place < length numbers
  pub here : slice_index numbers place ≡ number
  pub before : (k : ℕ) → k < place → slice_index numbers k ≢ number

abbrev pub HasNone : List ℕ → ℕ → Type 0
HasNone numbers number = (k : ℕ) → k < length numbers → slice_index numbers k ≢ number
