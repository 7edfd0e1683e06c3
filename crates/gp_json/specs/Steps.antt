-- What is read in steps, of which the first that fails decides.
use Rattle.std.specs.Prelude.{List, [], ◌∷◌, Result, Ok, Err}

-- the next step is made of what the first has read
abbrev pub result_and_then : {A B E : Type 0} → Result A E → (A → Result B E) → Result B E
result_and_then (Ok x) next = next x
result_and_then (Err e) next = Err e

-- the elements are read in order
abbrev pub each : {A B E : Type 0} → (A → Result B E) → List A → Result (List B) E
each read [] = Ok []
each read (x ∷ xs) = result_and_then (read x) (λ y. result_and_then (each read xs) (λ ys. Ok (y ∷ ys)))
