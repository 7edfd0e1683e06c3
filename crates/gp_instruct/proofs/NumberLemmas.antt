-- The number that digits write, as it grows.
use Rattle.std.proofs.Common.{◌≡◌, ℕ, zero, suc, ◌+◌, ◌*◌, ◌-◌, ◌^◌, ◌<◌, ◌≤◌, Bool, true, false, Some, None, cond, List, length, get_or, take, sym, ap, ◌∙◌, subst, arith}
use Rattle.std.specs.Char.{digit_value, is_ascii_digit}
use Rattle.std.specs.List.{list_all}
use Rattle.std.specs.Str.Parse.{digits_value}
use Rattle.std.proofs.Math.Nat.{pow-suc}
use Rattle.std.proofs.lemmas.Bool.Decides.{nat_tests}
use Rattle.std.proofs.lemmas.Int.Digits.{digits_value_more}
use Rattle.std.proofs.lemmas.List.{take_all}
use Rattle.std.proofs.lemmas.List.Folds.{list_all_at}
use Rattle.gp_instruct.specs.Numbers.{number_of}

-- the digit is this number
digit_is : (d : ℕ) → is_ascii_digit d ≡ true → digit_value d ≡ d - 48
digit_is d digit = grind (arith, nat_tests)

-- one more digit
pub one_more_digit : (ds : List ℕ) (i n value : ℕ) → i < length ds → n ≡ digits_value 10 (take i ds) → is_ascii_digit (get_or ds i 0) ≡ true → value ≡ get_or ds i 0 - 48
    → n * 10 + value ≡ digits_value 10 (take (i + 1) ds)
one_more_digit ds i n value inside so_far digit is =
    let more = digits_value_more 10 ds i inside in
    let here = digit_is (get_or ds i 0) digit in
    omega (arith, more, here, so_far, is)

ten_more : (i : ℕ) → 10 ^ (i + 1) ≡ 10 ^ i * 10
ten_more i = let next : i + 1 ≡ suc i = omega arith in ap (λ (k : ℕ). 10 ^ k) next ∙ pow-suc 10 i

ten_up : (i d : ℕ) → 10 ^ i ≤ 10 ^ (i + d)
ten_up i zero = let same : i + 0 ≡ i = omega arith in subst (λ (k : ℕ). 10 ^ i ≤ 10 ^ k) (sym same) (omega arith)
ten_up i (suc d) =
    let next : i + suc d ≡ (i + d) + 1 = omega arith in
    let more = ten_more (i + d) in
    let before = ten_up i d in
    subst (λ (k : ℕ). 10 ^ i ≤ 10 ^ k) (sym next) (omega (arith, more, before))

-- eight digits write less than this
pub ten_small : (i : ℕ) → i < 9 → 10 ^ i ≤ 100000000
ten_small i small =
    let whole : i + (8 - i) ≡ 8 = omega arith in
    subst (λ (k : ℕ). 10 ^ i ≤ 10 ^ k) whole (ten_up i (8 - i))

digit_small : (d : ℕ) → is_ascii_digit d ≡ true → d - 48 ≤ 9
digit_small d digit = grind (arith, nat_tests)

pub number_small : (ds : List ℕ) (i n value : ℕ) → i < length ds → length ds ≤ 9 → n < 10 ^ i → is_ascii_digit (get_or ds i 0) ≡ true → value ≡ get_or ds i 0 - 48 → n * 10 + value < 1000000000
number_small ds i n value inside short small digit is =
    omega (arith, ten_small i (omega arith), digit_small (get_or ds i 0) digit, is, small)

pub number_grows : (ds : List ℕ) (i n value : ℕ) → n < 10 ^ i → is_ascii_digit (get_or ds i 0) ≡ true → value ≡ get_or ds i 0 - 48 → n * 10 + value < 10 ^ (i + 1)
number_grows ds i n value small digit is =
    omega (arith, ten_more i, digit_small (get_or ds i 0) digit, is, small)

pub no_number : (ds : List ℕ) (i : ℕ) → i < length ds → is_ascii_digit (get_or ds i 0) ≡ false → None ≡ number_of ds
unfolding number_of
no_number ds i inside other = sym (ap (λ (b : Bool). cond b (Some (digits_value 10 ds)) None) (list_all_at is_ascii_digit ds i 0 inside other))

pub whole_number : (ds : List ℕ) (i n : ℕ) → length ds ≤ i → list_all is_ascii_digit (take i ds) ≡ true → n ≡ digits_value 10 (take i ds) → Some n ≡ number_of ds
unfolding number_of
whole_number ds i n end digits is =
    let all = take_all i ds end in
    let good = ap (list_all is_ascii_digit) (sym all) ∙ digits in
    ap Some (is ∙ ap (digits_value 10) all) ∙ sym (ap (λ (b : Bool). cond b (Some (digits_value 10 ds)) None) good)
