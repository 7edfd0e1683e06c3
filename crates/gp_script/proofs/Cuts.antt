-- Words that were joined are cut again.
use Rattle.std.proofs.Common.{◌≡◌, ℕ, eqb, false, List, [], ◌∷◌, All, refl, ap, ◌∙◌}
use Rattle.std.specs.List.{slice_split, join_with_byte}
use Rattle.std.proofs.lemmas.List.Splits.{slice_split_none, slice_split_at}
use Rattle.std.proofs.lemmas.Bool.{eq-eqb}

-- each word is without the mark
abbrev pub Marked : ℕ → List (List ℕ) → Type 0
Marked c [] = Unit {0}
Marked c (w ∷ ws) = All (λ (b : ℕ). eqb b c ≡ false) w × Marked c ws

pub slice_split-joined : (c : ℕ) (w : List ℕ) (ws : List (List ℕ)) → Marked c (w ∷ ws) → slice_split (λ (b : ℕ). eqb b c) (join_with_byte c (w ∷ ws)) ≡ w ∷ ws
slice_split-joined c w [] h = slice_split_none (λ (b : ℕ). eqb b c) w h.0
slice_split-joined c w (x ∷ xs) h =
    slice_split_at (λ (b : ℕ). eqb b c) w c (join_with_byte c (x ∷ xs)) h.0 (eq-eqb c c refl) ∙ ap (λ (rest : List (List ℕ)). w ∷ rest) (slice_split-joined c x xs h.1)
