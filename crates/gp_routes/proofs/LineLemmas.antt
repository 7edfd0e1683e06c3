-- The first line of a text, and the lines behind it.
use Rattle.std.proofs.Common.{◌≡◌, ℕ, ◌+◌, ◌-◌, ◌<◌, ◌≤◌, ◌⊎◌, inl, inr, Bool, true, false, eqb, List, [], ◌∷◌, length, get_or, take, drop, refl, sym, ap, ◌∙◌, subst, arith}
use Rattle.std.specs.List.{slice_split, position_or_len}
use Rattle.std.specs.Str.Lines.{lines, lines_of_parts, strip_carriage_return}
use Rattle.std.proofs.lemmas.Bool.{ne_eqb, cases_lt}
use Rattle.std.proofs.lemmas.List.{drop_all, get_or-take, take-take, take_rest, length-take-le}
use Rattle.std.proofs.lemmas.List.Elements.{All-from_get_or}
use Rattle.std.proofs.lemmas.List.Splits.{slice_split_first, slice_split_none}
use Rattle.std.proofs.lemmas.List.Sums.{fails_before_first}

-- a split has a first part
pub parts_of : (p : ℕ → Bool) (xs : List ℕ) → (part : List ℕ) × (more : List (List ℕ)) × (slice_split p xs ≡ part ∷ more)
parts_of p [] = ([], [], refl)
parts_of p (x ∷ xs) = by_test (parts_of p xs) (p x) refl
  where
    by_test : (part : List ℕ) × (more : List (List ℕ)) × (slice_split p xs ≡ part ∷ more) → (t : Bool) → p x ≡ t
        → (part : List ℕ) × (more : List (List ℕ)) × (slice_split p (x ∷ xs) ≡ part ∷ more)
    by_test behind true passes = ([], slice_split p xs, rw passes refl)
    by_test behind false fails = (x ∷ behind.0, behind.1, rw (fails, behind.2) refl)

-- a line that a line feed ends
pub lines_cut : (text : List ℕ) (n : ℕ) → n ≡ position_or_len (λ (b : ℕ). eqb b 10) text → n < length text
    → lines text ≡ strip_carriage_return (take n text) ∷ lines (drop (n + 1) text)
lines_cut text n place inside =
    let first : slice_split (λ (b : ℕ). eqb b 10) text ≡ take n text ∷ slice_split (λ (b : ℕ). eqb b 10) (drop (n + 1) text) =
    slice_split_first (λ (b : ℕ). eqb b 10) text 0 (omega arith) ∙ ap (λ (k : ℕ). take k text ∷ slice_split (λ (b : ℕ). eqb b 10) (drop (k + 1) text)) (sym place) in
    let parts = parts_of (λ (b : ℕ). eqb b 10) (drop (n + 1) text) in
    ap lines_of_parts (first ∙ ap (λ (ps : List (List ℕ)). take n text ∷ ps) parts.2)
    ∙ ap (λ (ps : List (List ℕ)). strip_carriage_return (take n text) ∷ lines_of_parts ps) (sym parts.2)

-- the last line, without a line feed
pub lines_last : (text : List ℕ) (n : ℕ) → n ≡ position_or_len (λ (b : ℕ). eqb b 10) text → n ≡ length text → 0 < length text
    → lines text ≡ text ∷ lines (drop n text)
lines_last text n place whole some =
    let none : slice_split (λ (b : ℕ). eqb b 10) text ≡ text ∷ [] =
    slice_split_none (λ (b : ℕ). eqb b 10) text (All-from_get_or (λ (b : ℕ). eqb b 10 ≡ false) text 0 (λ k inside. fails_before_first (λ (b : ℕ). eqb b 10) text k 0 (omega arith))) in
    let empty : drop n text ≡ [] = drop_all n text (omega arith) in
    let one : eqb (length text) 0 ≡ false = ne_eqb (length text) 0 (omega arith) in
    ap lines_of_parts none ∙ rw (one, empty) refl

-- with and without a carriage return before the line feed
pub strip_return : (text : List ℕ) (n : ℕ) → 0 < n → n ≤ length text → get_or text (n - 1) 0 ≡ 13 → strip_carriage_return (take n text) ≡ take (n - 1) (take n text)
strip_return text n some inside return =
    let len = length-take-le n text inside in
    let last : get_or (take n text) (n - 1) 0 ≡ 13 = get_or-take n text (n - 1) 0 (omega arith) ∙ return in
    rw (len, last) refl

pub keep_line : (text : List ℕ) (n : ℕ) → n ≤ length text → (0 < n → get_or text (n - 1) 0 ≡ 13 → ⊥) → strip_carriage_return (take n text) ≡ take n text
keep_line text n inside other = by_length (cases_lt 0 n)
  where
    by_length : (0 < n) ⊎ (n ≤ 0) → strip_carriage_return (take n text) ≡ take n text
    by_length (inl some) =
        let len = length-take-le n text inside in
        let last = get_or-take n text (n - 1) 0 (omega arith) in
        let kept : eqb (get_or (take n text) (n - 1) 0) 13 ≡ false = ne_eqb _ 13 (λ e. other some (sym last ∙ e)) in
        rw (len, kept) refl
    by_length (inr none) =
        let zero_is : n ≡ 0 = omega arith in
        subst (λ (k : ℕ). strip_carriage_return (take k text) ≡ take k text) (sym zero_is) refl

-- the first line as it is cut
pub cut_last : (text : List ℕ) (n : ℕ) → n ≡ position_or_len (λ (b : ℕ). eqb b 10) text → n ≡ length text → 0 < length text
    → lines text ≡ text ∷ lines (take (length text - n) (drop n text))
cut_last text n place whole some = rw take_rest (lines_last text n place whole some)

pub cut_returned : (text : List ℕ) (n : ℕ) → n ≡ position_or_len (λ (b : ℕ). eqb b 10) text → n ≤ length text → (n ≡ length text → ⊥) → 0 < n → get_or text (n - 1) 0 ≡ 13
    → lines text ≡ take (n - 1) text ∷ lines (take (length text - (n + 1)) (drop (n + 1) text))
cut_returned text n place within inside some return =
    let line : strip_carriage_return (take n text) ≡ take (n - 1) text = strip_return text n some within return ∙ take-take (n - 1) n text (omega arith) in
    rw take_rest (lines_cut text n place (omega arith) ∙ ap (λ (l : List ℕ). l ∷ lines (drop (n + 1) text)) line)

pub cut_plain : (text : List ℕ) (n : ℕ) → n ≡ position_or_len (λ (b : ℕ). eqb b 10) text → n ≤ length text → (n ≡ length text → ⊥) → (0 < n → get_or text (n - 1) 0 ≡ 13 → ⊥)
    → lines text ≡ take n text ∷ lines (take (length text - (n + 1)) (drop (n + 1) text))
cut_plain text n place within inside other =
    rw take_rest (lines_cut text n place (omega arith) ∙ ap (λ (l : List ℕ). l ∷ lines (drop (n + 1) text)) (keep_line text n within other))
