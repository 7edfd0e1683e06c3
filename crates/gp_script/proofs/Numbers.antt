-- The number that decimal digits write.
use Rattle.std.proofs.Common.{◌≡◌, ℕ, ◌+◌, ◌/◌, ◌%◌, ◌^◌, ◌<◌, eqb, false, List, [], ◌∷◌, ◌++◌, All, get_or, refl, ap, ◌∙◌, arith}
use Rattle.std.specs.List.{fold}
use Rattle.std.specs.Fmt.{decimal}
use Rattle.std.proofs.lemmas.Fmt.{decimal_by_steps, digits_decimal}
use Rattle.std.proofs.lemmas.Str.Parse.{tells_digits, numerals_by_value, digit_at}
use Rattle.std.proofs.lemmas.Bool.{ne_eqb}
use Rattle.std.proofs.lemmas.List.Elements.{All-from_get_or}
use Rattle.std.specs.Str.Parse.{AllDigits}
use Rattle.gp_script.specs.Guess.{with_digit, number_of}

fold-push : (n : ℕ) (ds : List ℕ) (d : ℕ) → fold with_digit n (ds ++ d ∷ []) ≡ with_digit (fold with_digit n ds) d
fold-push n [] d = refl
fold-push n (x ∷ xs) d = fold-push (with_digit n x) xs d

one_digit : (n : ℕ) → n < 10 → with_digit 0 (48 + n) ≡ n
one_digit n h = omega arith

more_digits : (n : ℕ) → n < 2 ^ 64 → with_digit (n / 10) (48 + n % 10) ≡ n
more_digits n h = omega arith

abbrev Reads : ℕ → List ℕ → Type 0
Reads n ds = n < 2 ^ 64 → fold with_digit 0 ds ≡ n

pub number_of-decimal : (n : ℕ) → n < 2 ^ 64 → number_of (decimal n) ≡ n
number_of-decimal n small =
    decimal_by_steps Reads
    (λ m h _. one_digit m h)
    (λ m ds h front wide. fold-push 0 ds (48 + m % 10) ∙ ap (λ (f : ℕ). with_digit f (48 + m % 10)) (front (omega arith)) ∙ more_digits m wide)
    n small small

pub decimal_spaceless : (n : ℕ) → n < 2 ^ 64 → All (λ (b : ℕ). eqb b 32 ≡ false) (decimal n)
decimal_spaceless n small =
    let digits : AllDigits 10 (decimal n) = digits_decimal (numerals_by_value (AllDigits 10) tells_digits) n small in
    All-from_get_or (λ (b : ℕ). eqb b 32 ≡ false) (decimal n) 0 (λ i within. let here = digit_at (decimal n) i digits within in ne_eqb (get_or (decimal n) i 0) 32 (λ e. absurd (omega arith)))
