-- The first word of a text, and the words behind it.
use Rattle.std.proofs.Common.{◌≡◌, ℕ, ◌+◌, ◌-◌, ◌<◌, ◌≤◌, ◌⊎◌, inl, inr, add-zero, Bool, true, false, List, [], ◌∷◌, length, get_or, take, drop, suc, refl, sym, ap, ◌∙◌, subst, arith}
use Rattle.std.specs.Prelude.{filter}
use Rattle.std.specs.List.{slice_split, prefix_len, position_or_len}
use Rattle.std.proofs.lemmas.Bool.{lt-ltb, cases_lt, false≢true}
use Rattle.std.proofs.lemmas.List.{drop_all, drop_more, take_all, take_rest, nil_from_length, get_or-drop, length-drop, length-take-le}
use Rattle.std.proofs.lemmas.List.Elements.{All-from_get_or}
use Rattle.std.proofs.lemmas.List.Splits.{slice_split-cons_yes, slice_split_first, slice_split_none}
use Rattle.std.proofs.lemmas.List.Sums.{fails_before_first, passes_at_first, prefix_len_stops}
use Rattle.gp_routes.specs.Words.{is_blank, has_byte, words_of}

-- a blank at the front makes no word
words_after_blank : (b : ℕ) (bs : List ℕ) → is_blank b ≡ true → words_of (b ∷ bs) ≡ words_of bs
words_after_blank b bs blank = ap (filter has_byte) (slice_split-cons_yes is_blank b bs blank)

pub words_after_blanks : (text : List ℕ) → words_of (drop (prefix_len is_blank text) text) ≡ words_of text
words_after_blanks [] = refl
words_after_blanks (b ∷ bs) = by_test (words_after_blanks bs) (is_blank b) refl
  where
    by_test : words_of (drop (prefix_len is_blank bs) bs) ≡ words_of bs → (t : Bool) → is_blank b ≡ t → words_of (drop (prefix_len is_blank (b ∷ bs)) (b ∷ bs)) ≡ words_of (b ∷ bs)
    by_test behind true blank =
        let one : prefix_len is_blank (b ∷ bs) ≡ suc (prefix_len is_blank bs) = rw blank (omega arith) in
        ap (λ (n : ℕ). words_of (drop n (b ∷ bs))) one ∙ behind ∙ sym (words_after_blank b bs blank)
    by_test behind false other =
        let none : prefix_len is_blank (b ∷ bs) ≡ 0 = rw other refl in
        ap (λ (n : ℕ). words_of (drop n (b ∷ bs))) none

-- no blank is left at the front
pub no_blank_left : (text : List ℕ) (n : ℕ) → n ≡ prefix_len is_blank text → n < length text → is_blank (get_or (drop n text) 0 0) ≡ false
no_blank_left text n is inside =
    let stops = prefix_len_stops is_blank text 0 (omega arith) in
    ap is_blank (get_or-drop n text 0 0 ∙ ap (λ (k : ℕ). get_or text k 0) (add-zero n ∙ is)) ∙ stops

pub first_word : (text : List ℕ) (n : ℕ) → n ≡ position_or_len is_blank text → 0 < length text → is_blank (get_or text 0 0) ≡ false
    → words_of text ≡ take n text ∷ words_of (drop n text)
first_word text n place some filled = by_length (cases_lt n (length text))
  where
    at_blank : n < length text → is_blank (get_or text n 0) ≡ true
    at_blank inside = ap (λ (k : ℕ). is_blank (get_or text k 0)) place ∙ passes_at_first is_blank text 0 (omega arith)

    not_first : n ≡ 0 → ⊥
    not_first zero_is =
        let blank = subst (λ (k : ℕ). is_blank (get_or text k 0) ≡ true) zero_is (at_blank (omega arith)) in
        false≢true (sym filled ∙ blank)

    by_length : (n < length text) ⊎ (length text ≤ n) → words_of text ≡ take n text ∷ words_of (drop n text)
    by_length (inl inside) =
        let first : slice_split is_blank text ≡ take n text ∷ slice_split is_blank (drop (n + 1) text) =
        slice_split_first is_blank text 0 (omega arith) ∙ ap (λ (k : ℕ). take k text ∷ slice_split is_blank (drop (k + 1) text)) (sym place) in
        let filled_word : has_byte (take n text) ≡ true = lt-ltb 0 (length (take n text)) (omega (arith, length-take-le n text (omega arith), not_first)) in
        let rest : words_of (drop n text) ≡ words_of (drop (n + 1) text) =
        ap words_of (drop_more text n 0 inside) ∙ words_after_blank (get_or text n 0) (drop (n + 1) text) (at_blank inside) in
        ap (filter has_byte) first ∙ rw filled_word refl ∙ ap (λ (ws : List (List ℕ)). take n text ∷ ws) (sym rest)
    by_length (inr past) =
        let none : slice_split is_blank text ≡ text ∷ [] =
        slice_split_none is_blank text (All-from_get_or (λ (b : ℕ). is_blank b ≡ false) text 0 (λ k inside. fails_before_first is_blank text k 0 (omega arith))) in
        let filled_word : has_byte text ≡ true = lt-ltb 0 (length text) some in
        let empty : drop n text ≡ [] = drop_all n text past in
        let whole : take n text ≡ text = take_all n text past in
        ap (filter has_byte) none ∙ rw (filled_word, whole, empty) refl

-- the text behind the blanks, as it is cut
pub no_word : (text : List ℕ) (n : ℕ) → n ≡ prefix_len is_blank text → length (take (length text - n) (drop n text)) ≡ 0 → words_of text ≡ []
no_word text n blanks none =
    let rest : drop n text ≡ [] = sym (take_rest text n) ∙ nil_from_length (take (length text - n) (drop n text)) none in
    sym (words_after_blanks text) ∙ ap words_of (ap (λ (k : ℕ). drop k text) (sym blanks) ∙ rest)

pub a_word : (text : List ℕ) (n m : ℕ) → n ≡ prefix_len is_blank text → (length (take (length text - n) (drop n text)) ≡ 0 → ⊥)
    → m ≡ position_or_len is_blank (take (length text - n) (drop n text))
    → words_of text ≡ take m (take (length text - n) (drop n text)) ∷ words_of (drop m (take (length text - n) (drop n text)))
a_word text n m blanks some place =
    let rest = take_rest text n in
    let len = ap length rest in
    let found : 0 < length (drop n text) = omega (arith, some, len) in
    let word = first_word (drop n text) m (place ∙ ap (position_or_len is_blank) rest) found (no_blank_left text n blanks (omega (arith, found, length-drop n text))) in
    rw take_rest (sym (words_after_blanks text) ∙ ap (λ (k : ℕ). words_of (drop k text)) (sym blanks) ∙ word)
