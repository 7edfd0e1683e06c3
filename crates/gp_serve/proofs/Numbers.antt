-- The number that digits write, as it grows.
use Rattle.std.proofs.Common.{◌≡◌, ℕ, ◌+◌, ◌*◌, ◌-◌, ◌<◌, ◌≤◌, true, false, leb, None, List, [], ◌∷◌, ◌++◌, length, get_or, take, drop, refl, ap, arith, take-append-drop}
use Rattle.std.specs.Char.{digit_value, is_ascii_digit}
use Rattle.std.proofs.lemmas.Bool.{lt-leb, and_right}
use Rattle.std.proofs.lemmas.Bool.Decides.{nat_tests}
use Rattle.std.proofs.lemmas.Int.Digits.{digits_value_more}
use Rattle.gp_routes.specs.Parts.{is_numeral}
use Rattle.gp_serve.specs.Options.{ranged}
use Rattle.std.specs.Str.Parse.{digits_value, digits_value_after}

pub value_grows : (n : ℕ) (ds : List ℕ) → n ≤ digits_value_after 10 n ds
value_grows n [] = omega arith
value_grows n (d ∷ ds) = omega (arith, value_grows (n * 10 + digit_value d) ds)

value_of_both : (n : ℕ) (xs ys : List ℕ) → digits_value_after 10 n (xs ++ ys) ≡ digits_value_after 10 (digits_value_after 10 n xs) ys
value_of_both n [] ys = refl
value_of_both n (x ∷ xs) ys = value_of_both (n * 10 + digit_value x) xs ys

-- the digits so far write no more than all of them
front_value : (ds : List ℕ) (i : ℕ) → digits_value 10 (take i ds) ≤ digits_value 10 ds
front_value ds i =
    omega (arith, value_grows (digits_value 10 (take i ds)) (drop i ds), value_of_both 0 (take i ds) (drop i ds), ap (digits_value 10) (take-append-drop i ds))

-- the digit is this number
digit_is : (d : ℕ) → is_ascii_digit d ≡ true → digit_value d ≡ d - 48
digit_is d digit = grind (arith, nat_tests)

-- one more digit
pub one_more_digit : (ds : List ℕ) (i n value : ℕ) → i < length ds → n ≡ digits_value 10 (take i ds) → is_ascii_digit (get_or ds i 0) ≡ true → value ≡ get_or ds i 0 - 48
    → n * 10 + value ≡ digits_value 10 (take (i + 1) ds)
one_more_digit ds i n value inside so_far digit is =
    let more = digits_value_more 10 ds i inside in
    let here = digit_is (get_or ds i 0) digit in
    omega (arith, more, here, so_far, is)

-- a number that is too large already
pub too_large : (most : ℕ) (ds : List ℕ) (i n : ℕ) → n ≡ digits_value 10 (take i ds) → most < n → ranged most ds ≡ None
too_large most ds i n so_far large =
    let over : leb (digits_value 10 ds) most ≡ false = lt-leb (digits_value 10 ds) most (omega (arith, front_value ds i)) in
    rw (over, and_right (is_numeral ds) false refl) refl
