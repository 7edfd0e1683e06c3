-- Where the last such byte of a text stands, and the first rule that is met.
use Rattle.std.proofs.Common.{◌≡◌, ℕ, ◌-◌, ◌<◌, ◌≤◌, ◌⊎◌, inl, inr, false, not, eqb, ltb, List, length, get_or, sym, ap, ◌∙◌, arith, lt-ltb, le-ltb}
use Rattle.std.specs.List.{suffix_len, list_any}
use Rattle.std.proofs.lemmas.Bool.{cases_lt, ne_eqb, eq-eqb}
use Rattle.std.proofs.lemmas.List.Elements.{All-from_get_or}
use Rattle.std.proofs.lemmas.List.Folds.{list_any_at, list_any_none}
use Rattle.std.proofs.lemmas.List.Sums.{suffix_len_is}

module _ (byte : ℕ) (text : List ℕ) (behind : ℕ) (within : behind ≤ length text)
    (none : (k : ℕ) → behind ≤ k → k < length text → get_or text k 0 ≡ byte → ⊥)
    (here : 0 < behind → get_or text (behind - 1) 0 ≡ byte) where
  pub behind_is : behind ≡ length text - suffix_len (λ (b : ℕ). not (eqb b byte)) text
  behind_is =
      let others = suffix_len_is (λ (b : ℕ). not (eqb b byte)) text behind 0 within (λ k past inside. ap not (ne_eqb (get_or text k 0) byte (none k past inside))) (λ some. ap not (eq-eqb (get_or text (behind - 1) 0) byte (here some))) in
      omega (arith, others, within)

  pub behind_found : ltb 0 behind ≡ list_any (λ (b : ℕ). eqb b byte) text
  behind_found = by_place (cases_lt 0 behind)
    where
      by_place : (0 < behind) ⊎ (behind ≤ 0) → ltb 0 behind ≡ list_any (λ (b : ℕ). eqb b byte) text
      by_place (inl some) =
          lt-ltb 0 behind some ∙ sym (list_any_at (λ (b : ℕ). eqb b byte) text (behind - 1) 0 (omega arith) (eq-eqb (get_or text (behind - 1) 0) byte (here some)))
      by_place (inr zero_is) =
          le-ltb 0 behind zero_is ∙ sym (list_any_none (λ (b : ℕ). eqb b byte) text (All-from_get_or (λ (b : ℕ). eqb b byte ≡ false) text 0 (λ k inside. ne_eqb (get_or text k 0) byte (none k (omega arith) inside))))
