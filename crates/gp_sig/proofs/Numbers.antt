-- The decimal digits of a number.
use Rattle.std.proofs.Common.{◌≡◌, ◌≢◌, ℕ, ◌^◌, ◌<◌, List, sym, ap, ◌∙◌, subst, arith, Result, Ok}
use Rattle.std.specs.List.{All}
use Rattle.std.specs.Fmt.{decimal}
use Rattle.std.specs.Str.{IsUtf8}
use Rattle.std.specs.Str.Parse.{ParsesUnsigned}
use Rattle.std.proofs.lemmas.Fmt.{IsAscii-decimal, parse-decimal, decimal_is_IsNumeral}
use Rattle.std.proofs.lemmas.Str.Parse.{digit_at}
use Rattle.std.proofs.lemmas.List.Elements.{All-from_get_or}
use Rattle.std.proofs.lemmas.Str.{IsUtf8-from_ascii}

pub decimal_utf8 : (n : ℕ) → n < 2 ^ 64 → IsUtf8 (decimal n)
decimal_utf8 n h = IsUtf8-from_ascii (decimal n) (IsAscii-decimal n h)

pub not_utf8 : (text : List ℕ) (n : ℕ) → n < 2 ^ 64 → text ≡ decimal n → (IsUtf8 text → ⊥) → ⊥
not_utf8 text n h e bad = bad (subst IsUtf8 (sym e) (decimal_utf8 n h))

pub parsed_one : {E : Type 0} (text : List ℕ) (n : ℕ) (r : Result ℕ E) → n < 2 ^ 64 → text ≡ decimal n → ParsesUnsigned 64 10 text r → r ≡ Ok n
parsed_one text n r h e p = parse-decimal 64 n text r h h e p

-- a text that parses as a number is its digits, or the digits of none
pub other_text : {E : Type 0} (text : List ℕ) (number n : ℕ) (r : Result ℕ E) → n < 2 ^ 64 → text ≡ decimal n → ParsesUnsigned 64 10 text r → r ≡ Ok number → decimal number ≡ text
other_text text number n r h e p is =
    let same : number ≡ n = let one = parsed_one text n r h e p in cc in ap decimal same ∙ sym e

-- no digit is a comma
pub no_commas : (n : ℕ) → n < 2 ^ 64 → All (λ b. b ≢ 44) (decimal n)
no_commas n h = let d = decimal_is_IsNumeral n h in All-from_get_or (λ (b : ℕ). b ≢ 44) (decimal n) 0 (λ i lt e. let r = digit_at (decimal n) i d.0.1 lt in omega arith)

pub digits_bytes : (n : ℕ) → n < 2 ^ 64 → All (λ b. b < 256) (decimal n)
digits_bytes n h = let d = decimal_is_IsNumeral n h in All-from_get_or (λ (b : ℕ). b < 256) (decimal n) 0 (λ i lt. let r = digit_at (decimal n) i d.0.1 lt in omega arith)
