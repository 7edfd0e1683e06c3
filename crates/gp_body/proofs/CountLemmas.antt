-- The number that 1 to 18 digits write.
use Rattle.std.proofs.Common.{◌≡◌, ℕ, ◌+◌, ◌*◌, ◌-◌, ◌^◌, ◌<◌, ◌≤◌, Bool, true, false, leb, ltb, ◌&&◌, List, [], ◌∷◌, length, get_or, take, refl, arith, lit<, lit≤}
use Rattle.std.specs.List.{list_all}
use Rattle.std.specs.Char.{digit_value, is_ascii_digit}
use Rattle.std.specs.Str.Parse.{digits_value, AllDigits}
use Rattle.std.proofs.Math.Nat.{pow-le-pow_right}
use Rattle.std.proofs.lemmas.Bool.{and_parts}
use Rattle.std.proofs.lemmas.Bool.Decides.{nat_tests}
use Rattle.std.proofs.lemmas.List.Folds.{list_all_at}
use Rattle.std.proofs.lemmas.Int.Digits.{digits_value-lt, digits_value_more}
use Rattle.std.proofs.lemmas.Str.Parse.{digits_value-take-le}
use Rattle.gp_body.specs.Plans.{is_count}

digit_below : (d : ℕ) → is_ascii_digit d ≡ true → digit_value d < 10
digit_below d digit = grind (arith, nat_tests)

digit_is : (d : ℕ) → is_ascii_digit d ≡ true → digit_value d ≡ d - 48
digit_is d digit = grind (arith, nat_tests)

digit_above : (d : ℕ) → is_ascii_digit d ≡ true → 48 ≤ d
digit_above d digit = grind (arith, nat_tests)

all_digits : (cs : List ℕ) → list_all is_ascii_digit cs ≡ true → AllDigits 10 cs
all_digits [] h = tt
all_digits (c ∷ cs) h = let parts = and_parts (is_ascii_digit c) (list_all is_ascii_digit cs) h in (digit_below c parts.0, all_digits cs parts.1)

digit_at : (cs : List ℕ) (i : ℕ) → list_all is_ascii_digit cs ≡ true → i < length cs → is_ascii_digit (get_or cs i 0) ≡ true
digit_at cs i all inside = by_digit (is_ascii_digit (get_or cs i 0)) refl
  where
    by_digit : (b : Bool) → is_ascii_digit (get_or cs i 0) ≡ b → is_ascii_digit (get_or cs i 0) ≡ true
    by_digit true e = e
    by_digit false e = let none = list_all_at is_ascii_digit cs i 0 inside e in cc

pub record IsNumber (ds : List ℕ) : Type 0 where
  pub few : length ds ≤ 18
  pub digits : list_all is_ascii_digit ds ≡ true

pub is_number : (ds : List ℕ) → is_count ds ≡ true → IsNumber ds
is_number ds h =
    let outer = and_parts (ltb 0 (length ds)) (leb (length ds) 18 && list_all is_ascii_digit ds) h in
    let inner = and_parts (leb (length ds) 18) (list_all is_ascii_digit ds) outer.1 in
    let e = inner.0 in
    record { few = grind (arith, nat_tests, e); digits = inner.1 }

pub below : (ds : List ℕ) (i : ℕ) → IsNumber ds → digits_value 10 (take i ds) < 10 ^ 18
below ds i number =
    let front = digits_value-take-le 10 ds i (lit≤ tt) in
    let whole = digits_value-lt 10 ds (all_digits ds number.digits) in
    let most : 10 ^ length ds ≤ 10 ^ 18 = pow-le-pow_right {n = 10} (lit< tt) {i = length ds} {j = 18} number.few in
    omega (arith, front, whole, most)

pub digit_from : (ds : List ℕ) (i : ℕ) → IsNumber ds → i < length ds → 48 ≤ get_or ds i 0
digit_from ds i number inside = digit_above (get_or ds i 0) (digit_at ds i number.digits inside)

pub one_more : (ds : List ℕ) (i n value : ℕ) → IsNumber ds → i < length ds → n ≡ digits_value 10 (take i ds) → value ≡ get_or ds i 0 - 48
    → n * 10 + value ≡ digits_value 10 (take (i + 1) ds)
one_more ds i n value number inside so_far is =
    let more = digits_value_more 10 ds i inside in
    let here = digit_is (get_or ds i 0) (digit_at ds i number.digits inside) in
    omega (arith, more, here, so_far, is)
