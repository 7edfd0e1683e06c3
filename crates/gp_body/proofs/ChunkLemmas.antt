-- The digits of a chunk's size.
use Rattle.std.proofs.Common.{◌≡◌, ℕ, zero, suc, ◌+◌, ◌*◌, ◌/◌, ◌%◌, ◌^◌, ◌<◌, ◌≤◌, List, [], ◌∷◌, ◌++◌, map, length, take, drop, set, refl, sym, ap, ◌∙◌, append_assoc, length-take, arith, lit≤}
use Rattle.std.specs.Char.{digit_char}
use Rattle.std.specs.Int.Digits.{digits_of}
use Rattle.std.proofs.Math.Nat.{pow-suc}
use Rattle.std.proofs.Math.Seq.{take-set-lt}
use Rattle.std.proofs.lemmas.List.{drop-set, map-append}
use Rattle.std.proofs.lemmas.Int.Digits.{digits_of_step, length-digits_of_step}

none_of_zero : digits_of 16 0 ≡ []
none_of_zero = refl

-- so many digits at most
pub few_digits : (k n : ℕ) → n < 16 ^ k → length (digits_of 16 n) ≤ k
few_digits k zero small = omega arith
few_digits zero (suc n) small = absurd (omega arith)
few_digits (suc k) (suc n) small =
    let power : 16 ^ suc k ≡ 16 ^ k * 16 = pow-suc 16 k in
    let less : suc n / 16 < 16 ^ k = omega (arith, power, small) in
    omega (arith, length-digits_of_step 16 (suc n) (lit≤ tt) (omega arith), few_digits k (suc n / 16) less)

pub one_fewer : (n : ℕ) → 0 < n → length (digits_of 16 n) ≡ length (digits_of 16 (n / 16)) + 1
one_fewer n some = length-digits_of_step 16 n (lit≤ tt) some

pub some_left : (n : ℕ) → 0 < length (digits_of 16 n) → 0 < n
some_left zero some = let none : length (digits_of 16 0) ≡ 0 = ap length none_of_zero in absurd (omega arith)
some_left (suc n) some = omega arith

-- the last digit that isn't written yet stands before those that are
pub one_written : (into all : List ℕ) (count place left v : ℕ) → place < count → count ≤ length into → 0 < left → v ≡ digit_char (left % 16)
    → map digit_char (digits_of 16 left) ++ drop (place + 1) (take count into) ≡ all
    → map digit_char (digits_of 16 (left / 16)) ++ drop place (take count (set into place v)) ≡ all
one_written into all count place left v inside room some is before =
    let front = take count into in
    let within : place < length front = omega (arith, length-take count into) in
    let written : drop place (take count (set into place v)) ≡ v ∷ drop (place + 1) front =
    ap (drop place) (take-set-lt count into place v inside) ∙ drop-set front place v within in
    let last : map digit_char (digits_of 16 left) ≡ map digit_char (digits_of 16 (left / 16)) ++ v ∷ [] =
    ap (map digit_char) (digits_of_step 16 left (lit≤ tt) some) ∙ map-append digit_char (digits_of 16 (left / 16)) (left % 16 ∷ []) ∙ ap (λ (d : ℕ). map digit_char (digits_of 16 (left / 16)) ++ d ∷ []) (sym is) in
    rw written (sym (append_assoc (map digit_char (digits_of 16 (left / 16))) (v ∷ []) (drop (place + 1) front)) ∙ ap (λ (ds : List ℕ). ds ++ drop (place + 1) front) (sym last) ∙ before)
