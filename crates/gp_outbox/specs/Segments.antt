-- The bytes that wait, in segments.
use Rattle.std.specs.Prelude.{ℕ, List, ◌++◌, drop}
use Rattle.std.specs.List.{flat_map}

-- the bytes of segments, one after the other
abbrev pub joined : List (List ℕ) → List ℕ
joined segments = flat_map (λ (segment : List ℕ). segment) segments

-- what is left of the front segment, then those behind it, and then the last one
abbrev pub waiting : ℕ → List ℕ → List (List ℕ) → List ℕ → List ℕ
waiting done front behind last = drop done front ++ (joined behind ++ last)
