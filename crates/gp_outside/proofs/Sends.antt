-- A part that was written after those before it.
use Rattle.std.proofs.Common.{◌≡◌, ℕ, ◌+◌, ◌-◌, ◌≤◌, length, List, ◌++◌, take, drop, arith, ap, ◌∙◌, sym, append_assoc, Option, Some, None, length-drop, refl}
use Rattle.std.proofs.Math.Seq.{take-add}
use Rattle.std.proofs.lemmas.List.{take_all}
use Rattle.gp_outside.specs.Counts.{grown}

-- told bytes that grow twice
grown-twice : (told : Option (List ℕ)) (xs ys : List ℕ) → grown (grown told xs) ys ≡ grown told (xs ++ ys)
grown-twice None xs ys = refl
grown-twice (Some bytes) xs ys = ap Some (append_assoc bytes xs ys)

sent_more : (bytes : List ℕ) (done n : ℕ) → n ≤ length bytes - done
    → take done bytes ++ take n (take (length bytes - done) (drop done bytes)) ≡ take (done + n) bytes
sent_more bytes done n le =
    let all : take (length bytes - done) (drop done bytes) ≡ drop done bytes = take_all (length bytes - done) (drop done bytes) (omega (arith, length-drop done bytes)) in
    rw all (sym (take-add done n bytes))

pub sent_within : (bytes : List ℕ) (done n : ℕ) → n ≤ length (take (length bytes - done) (drop done bytes)) → n ≤ length bytes - done
sent_within bytes done n le =
    let all : take (length bytes - done) (drop done bytes) ≡ drop done bytes = take_all (length bytes - done) (drop done bytes) (omega (arith, length-drop done bytes)) in
    omega (arith, ap length all, length-drop done bytes)

-- what a write took of the rest is told after what stood before it
pub told_more : (bytes : List ℕ) (begun before now : Option (List ℕ)) (done n : ℕ) → n ≤ length bytes - done
    → now ≡ grown before (take n (take (length bytes - done) (drop done bytes)))
    → before ≡ grown begun (take done bytes)
    → now ≡ grown begun (take (done + n) bytes)
told_more bytes begun before now done n le took was =
    took ∙ ap (λ (t : Option (List ℕ)). grown t (take n (take (length bytes - done) (drop done bytes)))) was
    ∙ grown-twice begun (take done bytes) _ ∙ ap (grown begun) (sent_more bytes done n le)
