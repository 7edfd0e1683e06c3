-- The elements of a list, as far as they were read.
use Rattle.std.proofs.Common.{◌≡◌, List, ◌∷◌, [], ◌++◌, append_assoc, Result, Ok, Err, refl, ap, ◌∙◌, sym}
use Rattle.gp_json.specs.Steps.{result_and_then, each}

-- what is read behind what was read
abbrev pub after : {B E : Type 0} → List B → Result (List B) E → Result (List B) E
after done rest = result_and_then rest (λ ys. Ok (done ++ ys))

pub one_more : {B E : Type 0} (done : List B) (y : B) (rest : Result (List B) E) → after done (result_and_then rest (λ ys. Ok (y ∷ ys))) ≡ after (done ++ y ∷ []) rest
one_more done y (Ok ys) = ap Ok (sym (append_assoc done (y ∷ []) ys))
one_more done y (Err e) = refl

pub each_more : {A B E : Type 0} (read : A → Result B E) (whole : Result (List B) E) (done : List B) (x : A) (rest : List A) (y : B) → whole ≡ after done (each read (x ∷ rest)) → read x ≡ Ok y
    → whole ≡ after (done ++ y ∷ []) (each read rest)
each_more read whole done x rest y so_far here = so_far ∙ ap (λ r. after done (result_and_then r (λ z. result_and_then (each read rest) (λ ys. Ok (z ∷ ys))))) here ∙ one_more done y (each read rest)
