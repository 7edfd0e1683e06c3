-- Visible bytes behind a value make a value (RFC 9110, section 5.5).
use Rattle.std.proofs.Common.{◌≡◌, ℕ, ◌+◌, ◌-◌, ◌<◌, ◌≤◌, Bool, true, false, List, [], ◌∷◌, ◌++◌, length, reverse, refl, sym, ap, ◌∙◌, subst, arith}
use Rattle.std.proofs.lemmas.Bool.Decides.{nat_tests}
use Rattle.std.proofs.lemmas.List.{reverse-append, reverse-reverse, length-reverse}
use Rattle.std.proofs.lemmas.List.Elements.{All-append, All-head, All-weaker}
use Rattle.httparse.specs.Grammar.{AllPass, is_value_byte, is_uri_byte, is_ows, skip_ows, trim_ows}
use Rattle.httparse.proofs.TrimLemmas.{AllPass-reverse}
use Rattle.gp_head.specs.Writable.{IsFieldValue}
use Rattle.gp_head.proofs.RoundTrip.{StartsFilled, not_skipped, starts_filled}

visible_fills : (b : ℕ) → is_uri_byte b ≡ true → is_ows b ≡ false
visible_fills b visible = grind (arith, nat_tests)

visible_stands : (b : ℕ) → is_uri_byte b ≡ true → is_value_byte b ≡ true
visible_stands b visible = grind (arith, nat_tests)

filled_by : (xs : List ℕ) → AllPass is_uri_byte xs → StartsFilled xs
filled_by [] all = tt
filled_by (b ∷ bs) all = visible_fills b (All-head (λ x. is_uri_byte x ≡ true) b bs all)

front_filled : (value more : List ℕ) → StartsFilled value → AllPass is_uri_byte more → StartsFilled (value ++ more)
front_filled [] more filled all = filled_by more all
front_filled (b ∷ value) more filled all = filled

more_filled : (xs ys : List ℕ) → 0 < length xs → StartsFilled xs → StartsFilled (xs ++ ys)
more_filled [] ys some filled = absurd (omega (arith, some))
more_filled (x ∷ xs) ys some filled = filled

is_trimmed : (whole : List ℕ) → StartsFilled whole → StartsFilled (reverse whole) → trim_ows whole ≡ whole
unfolding trim_ows
is_trimmed whole front back =
    ap (λ (x : List ℕ). reverse (skip_ows (reverse x))) (not_skipped whole front)
    ∙ ap reverse (not_skipped (reverse whole) back)
    ∙ reverse-reverse whole

pub value_goes_on : (value more : List ℕ) → IsFieldValue value → 0 < length more → AllPass is_uri_byte more → IsFieldValue (value ++ more)
value_goes_on value more stands some all = record {
  bytes = All-append (λ x. is_value_byte x ≡ true) value more stands.bytes (All-weaker (λ x. is_uri_byte x ≡ true) (λ x. is_value_byte x ≡ true) visible_stands more all);
  trimmed = is_trimmed (value ++ more) (front_filled value more (subst StartsFilled stands.trimmed (starts_filled value)) all)
      (subst StartsFilled (sym (reverse-append value more)) (more_filled (reverse more) (reverse value) (subst (λ n. 0 < n) (sym (length-reverse more)) some) (filled_by (reverse more) (AllPass-reverse is_uri_byte more all))));
}
