-- A decimal number as the value of a field.
use Rattle.std.proofs.Common.{◌≡◌, ℕ, zero, suc, ◌-◌, ◌<◌, true, false, not, ◌&&◌, List, [], ◌∷◌, length, take, drop, get_or, refl, ap, ◌∙◌, arith}
use Rattle.std.specs.List.{AllByRecursion, list_all, slice_split, before_first}
use Rattle.std.specs.Char.{digit_value, is_ascii_digit}
use Rattle.std.specs.Str.Parse.{AllDigits}
use Rattle.std.proofs.lemmas.Bool.Decides.{nat_tests}
use Rattle.std.proofs.lemmas.List.{take_all}
use Rattle.std.proofs.lemmas.List.Elements.{All-from_recursion}
use Rattle.std.proofs.lemmas.List.Splits.{slice_split_none}
use Rattle.std.proofs.lemmas.List.Sums.{prefix_len_is, suffix_len_is}
use Rattle.gp_body.specs.Plans.{is_blank, is_comma, from_first, to_last, trimmed}

digit_at : (cs : List ℕ) (k : ℕ) → AllDigits 10 cs → k < length cs → digit_value (get_or cs k 0) < 10
digit_at [] k h l = absurd (omega (arith, l))
digit_at (c ∷ cs) zero h l = h.0
digit_at (c ∷ cs) (suc k) h l = digit_at cs k h.1 (omega (arith, l))

not_blank : (c : ℕ) → digit_value c < 10 → is_blank c ≡ false
not_blank c h = grind (arith, nat_tests)

not_comma : (c : ℕ) → digit_value c < 10 → is_comma c ≡ false
not_comma c h = grind (arith, nat_tests)

is_digit : (c : ℕ) → digit_value c < 10 → is_ascii_digit c ≡ true
is_digit c h = grind (arith, nat_tests)

from_same : (cs : List ℕ) → AllDigits 10 cs → from_first cs ≡ cs
from_same cs all = ap (λ n. drop n cs) (prefix_len_is is_blank cs 0 0 (omega arith) (λ k l. absurd (omega (arith, l))) (λ l. not_blank (get_or cs 0 0) (digit_at cs 0 all l)))

to_same : (cs : List ℕ) → AllDigits 10 cs → to_last cs ≡ cs
to_same cs all =
    ap (λ n. take (length cs - n) cs) (suffix_len_is is_blank cs (length cs) 0 (omega arith) (λ k a b. absurd (omega (arith, a, b))) (λ p. not_blank (get_or cs (length cs - 1) 0) (digit_at cs (length cs - 1) all (omega (arith, p)))))
    ∙ take_all (length cs - (length cs - length cs)) cs (omega arith)

pub trimmed_same : (cs : List ℕ) → AllDigits 10 cs → trimmed cs ≡ cs
trimmed_same cs all = ap to_last (from_same cs all) ∙ to_same cs all

no_commas : (cs : List ℕ) → AllDigits 10 cs → AllByRecursion (λ b. is_comma b ≡ false) cs
no_commas [] h = tt
no_commas (c ∷ cs) h = (not_comma c h.0, no_commas cs h.1)

pub one_part : (cs : List ℕ) → AllDigits 10 cs → slice_split is_comma cs ≡ cs ∷ []
one_part cs h = slice_split_none is_comma cs (All-from_recursion (λ b. is_comma b ≡ false) cs (no_commas cs h))

pub before_same : (cs : List ℕ) → AllDigits 10 cs → before_first is_comma cs ≡ cs
before_same cs h =
    ap (λ n. take n cs) (prefix_len_is (λ b. not (is_comma b)) cs (length cs) 0 (omega arith) (λ k l. ap not (not_comma (get_or cs k 0) (digit_at cs k h l))) (λ l. absurd (omega (arith, l))))
    ∙ take_all (length cs) cs (omega arith)

pub all_digits : (cs : List ℕ) → AllDigits 10 cs → list_all is_ascii_digit cs ≡ true
all_digits [] h = refl
all_digits (c ∷ cs) h = ap (λ b. b && list_all is_ascii_digit cs) (is_digit c h.0) ∙ all_digits cs h.1
