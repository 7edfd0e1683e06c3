-- In how many ranges a number stands.
use Rattle.std.proofs.Common.{◌≡◌, ℕ, ◌+◌, ◌-◌, ◌<◌, ◌≤◌, cond, List, [], ◌∷◌, ◌++◌, arith}
use Rattle.std.proofs.lemmas.Bool.Decides.{nat_tests}
use Rattle.std.proofs.lemmas.List.Sums.{sum_by-cons, sum_by-append}
use Rattle.gp_turn.specs.declared.range.Range.{Range}
use Rattle.gp_turn.specs.Passes.{range, is_in, times_in}

abbrev pub once : ℕ → Range → ℕ
once n r = cond (is_in n r) 1 0

pub times-cons : (n : ℕ) (r : Range) (rs : List Range) → times_in n (r ∷ rs) ≡ once n r + times_in n rs
times-cons n r rs = sum_by-cons (once n) r rs

pub times-append : (n : ℕ) (rs ss : List Range) → times_in n (rs ++ ss) ≡ times_in n rs + times_in n ss
times-append n rs ss = sum_by-append (once n) rs ss

once-split : (n first spare count : ℕ) → count ≤ spare → once n (range first (spare - count)) + once n (range (first + (spare - count)) count) ≡ once n (range first spare)
once-split n first spare count le = grind (arith, nat_tests)

once-first : (first spare : ℕ) → 0 < spare → once first (range first spare) ≡ 1
once-first first spare some = grind (arith, nat_tests)

once-later : (n first spare : ℕ) → once n (range (first + 1) (spare - 1)) ≤ once n (range first spare)
once-later n first spare = grind (arith, nat_tests)

once-own : (first spare : ℕ) → once first (range (first + 1) (spare - 1)) ≡ 0
once-own first spare = grind (arith, nat_tests)

once-none : (n : ℕ) → once n (range 0 0) ≡ 0
once-none n = grind (arith, nat_tests)

-- two ranges that a range is cut into
pub times-split : (n first spare count : ℕ) (past : List Range) → count ≤ spare
    → times_in n (range first (spare - count) ∷ past) + times_in n (range (first + (spare - count)) count ∷ []) ≡ times_in n (range first spare ∷ past)
times-split n first spare count past le =
    omega (arith, once-split n first spare count le, times-cons n (range first (spare - count)) past, times-cons n (range (first + (spare - count)) count) [], times-cons n (range first spare) past)

pub times-first : (first spare : ℕ) (past : List Range) → 0 < spare → 0 < times_in first (range first spare ∷ past)
times-first first spare past some = omega (arith, once-first first spare some, times-cons first (range first spare) past)

pub times-none : (n : ℕ) → times_in n (range 0 0 ∷ []) ≡ 0
times-none n = omega (arith, once-none n, times-cons n (range 0 0) [])

-- the numbers of a range behind its first
pub times-later : (n first spare : ℕ) (past : List Range) → times_in n (range (first + 1) (spare - 1) ∷ []) ≤ times_in n (range first spare ∷ past)
times-later n first spare past = omega (arith, once-later n first spare, times-cons n (range (first + 1) (spare - 1)) [], times-cons n (range first spare) past)

pub times-own : (first spare : ℕ) → times_in first (range (first + 1) (spare - 1) ∷ []) ≡ 0
times-own first spare = omega (arith, once-own first spare, times-cons first (range (first + 1) (spare - 1)) [])

once-most : (n : ℕ) (r : Range) → once n r ≤ 1
once-most n r = grind (arith, nat_tests)

pub times-one : (n first spare : ℕ) → times_in n (range first spare ∷ []) ≤ 1
times-one n first spare = omega (arith, once-most n (range first spare), times-cons n (range first spare) [])

once-empty : (n first : ℕ) → once n (range first 0) ≡ 0
once-empty n first = grind (arith, nat_tests)

pub times-empty : (n first : ℕ) → times_in n (range first 0 ∷ []) ≡ 0
times-empty n first = omega (arith, once-empty n first, times-cons n (range first 0) [])
