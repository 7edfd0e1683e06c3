-- What a read copies to the front of a slice, and what is left of the input.
use Rattle.std.proofs.Common.{◌≡◌, ℕ, ◌+◌, ◌-◌, ◌≤◌, length, List, [], ◌++◌, take, drop, arith, ◌∙◌, refl, length-drop}
use Rattle.std.proofs.Math.Seq.{take-add}
use Rattle.std.proofs.lemmas.List.{take_all, length-take-le, take-append-le}
use Rattle.std.proofs.lemmas.Grind.{common_steps}

first : (s t : List ℕ) (n : ℕ) → n ≤ length s → take n (take n s ++ t) ≡ take n s
first s t n le = take-append-le n (take n s) t (omega (arith, length-take-le n s le)) ∙ take_all n (take n s) (omega (arith, length-take-le n s le))

-- the input from a place on, as a slice of so many bytes
pub part_of : (input given : List ℕ) (d n : ℕ) → given ≡ input → take ((d + n) - d) (drop d given) ≡ take n (drop d input)
part_of input given d n same =
    let k : (d + n) - d ≡ n = omega arith in
    rw (same, k) refl

pub read_first : (input given into rest : List ℕ) (d n : ℕ) → d + n ≤ length input → given ≡ input → into ≡ take ((d + n) - d) (drop d given) ++ rest → take n into ≡ take n (drop d input)
read_first input given into rest d n le same is =
    rw (is, part_of input given d n same) (first (drop d input) rest n (omega (arith, length-drop d input)))

pub read_on : (input : List ℕ) (d n : ℕ) → take (d + n) input ≡ take d input ++ take n (drop d input)
read_on input d n = take-add d n input

pub left_on : (input : List ℕ) (d n : ℕ) → drop (d + n) input ≡ drop n (drop d input)
left_on input d n = grind (arith, common_steps)

pub drop_nil : (n : ℕ) → drop {A = ℕ} n [] ≡ []
drop_nil n = grind (arith, common_steps)
