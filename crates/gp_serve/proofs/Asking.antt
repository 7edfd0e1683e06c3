-- One option, and those behind it.
use Rattle.std.proofs.Common.{◌≡◌, ℕ, ◌-◌, ◌≤◌, get_or, Ok, List, [], ◌∷◌, length, map, take, drop, sym, ap, ◌∙◌, arith}
use Rattle.std.proofs.lemmas.List.{take_all}
use Rattle.gp_serve.specs.Options.{Asked, asked_by, behind, free_choice, option_with, result_then}

pub one_option : {S : Type 0} (f : S → List ℕ) (xs : List S) (name value : S) (place : ℕ) (asked now : Asked) → 2 ≤ length xs → name ≡ get_or xs 0 name → value ≡ get_or xs 1 value
    → option_with place asked (free_choice (f name) asked) (f value) ≡ Ok now → asked_by (behind place 2) (map f (take (length xs - 2) (drop 2 xs))) now ≡ asked_by place (map f xs) asked
one_option f [] name value place asked now long first second is = absurd (omega arith)
one_option f (x ∷ []) name value place asked now long first second is = absurd (omega arith)
one_option f (x ∷ y ∷ rest) name value place asked now long first second is =
    let here : option_with place asked (free_choice (f x) asked) (f y) ≡ Ok now =
    sym (ap (λ s. option_with place asked (free_choice (f s) asked) (f value)) first ∙ ap (λ s. option_with place asked (free_choice (f x) asked) (f s)) second) ∙ is in
    ap (λ ws. asked_by (behind place 2) (map f ws) now) (take_all (length (x ∷ y ∷ rest) - 2) rest (omega arith))
    ∙ sym (ap (λ r. result_then (λ (now : Asked). asked_by (behind place 2) (map f rest) now) r) here)
