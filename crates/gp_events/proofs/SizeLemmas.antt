-- The size at the front of a text.
use Rattle.std.proofs.Common.{◌≡◌, ℕ, zero, suc, ◌+◌, ◌*◌, ◌^◌, ◌<◌, ◌≤◌, Bool, true, false, List, [], ◌∷◌, length, take, get_or, refl, arith, lit≤}
use Rattle.std.specs.Char.{digit_value, is_ascii_hexdigit}
use Rattle.std.specs.List.{prefix_len}
use Rattle.std.specs.Str.Parse.{AllDigits, digits_value}
use Rattle.std.proofs.lemmas.Bool.Decides.{nat_tests}
use Rattle.std.proofs.Math.Nat.{pow-le-pow_right}
use Rattle.std.proofs.lemmas.Int.Digits.{digits_value-lt, digits_value_more}
use Rattle.std.proofs.lemmas.Str.Parse.{digits_value-take-le}

pub digit_below : (radix : ℕ) (ds : List ℕ) (k : ℕ) → AllDigits radix ds → k < length ds → digit_value (get_or ds k 0) < radix
digit_below radix [] k all within = absurd (omega arith)
digit_below radix (d ∷ ds) zero all within = all.0
digit_below radix (d ∷ ds) (suc k) all within = digit_below radix ds k all.1 (omega arith)

-- 8 digits fit
pub size_bound : (ds : List ℕ) → AllDigits 16 ds → length ds ≤ 8 → digits_value 16 ds < 16 ^ 8
size_bound ds all few = omega (arith, digits_value-lt 16 ds all, pow-le-pow_right {n = 16} (omega arith) few)

pub size_step : (ds : List ℕ) (k : ℕ) → AllDigits 16 ds → length ds ≤ 8 → k < length ds
    → digits_value 16 (take k ds) * 16 + digit_value (get_or ds k 0) < 16 ^ 8
size_step ds k all few within =
    omega (arith, digits_value_more 16 ds k within, digits_value-take-le 16 ds (k + 1) (lit≤ tt), size_bound ds all few)

pub hex_below : (b : ℕ) → is_ascii_hexdigit b ≡ true → digit_value b < 16
hex_below b hex = grind (arith, nat_tests)

front_by_test : (b : ℕ) (bs : List ℕ) (test : Bool) → is_ascii_hexdigit b ≡ test → AllDigits 16 (take (prefix_len is_ascii_hexdigit bs) bs)
    → AllDigits 16 (take (prefix_len is_ascii_hexdigit (b ∷ bs)) (b ∷ bs))
front_by_test b bs true hex rest =
    let one_more : 1 + prefix_len is_ascii_hexdigit bs ≡ suc (prefix_len is_ascii_hexdigit bs) = omega arith in
    rw (hex, one_more) (hex_below b hex, rest)
front_by_test b bs false hex rest = rw hex tt

pub front_digits : (text : List ℕ) → AllDigits 16 (take (prefix_len is_ascii_hexdigit text) text)
front_digits [] = tt
front_digits (b ∷ bs) = front_by_test b bs (is_ascii_hexdigit b) refl (front_digits bs)
