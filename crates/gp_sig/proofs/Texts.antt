-- Texts that begin, end and are cut.
use Rattle.std.proofs.Common.{◌≡◌, ◌≢◌, ℕ, ◌+◌, ◌-◌, ◌==◌, List, [], ◌∷◌, ◌++◌, length, take, drop, sym, refl, ap, ◌∙◌, arith, Bool, true, false, IsTrue, ◌↔◌, length-append, append_assoc, ne_eqb}
use Rattle.std.specs.List.{All}
use Rattle.std.proofs.lemmas.List.Elements.{All-head, All-tail, All-weaker}
use Rattle.std.proofs.lemmas.List.{append_cancel_left, append_cancel_right}
use Rattle.std.specs.List.{slice_split}
use Rattle.std.proofs.lemmas.List.Splits.{slice_split_none, slice_split_at, length-slice_split}
use Rattle.std.proofs.Math.Seq.{take-append_seam, drop-append_seam}

pub begins : (text front rest : List ℕ) → text ≡ front ++ rest → take (length front) text ≡ front
begins text front rest e = ap (take (length front)) e ∙ take-append_seam front rest

pub ends : (text front back : List ℕ) → text ≡ front ++ back → drop (length text - length back) text ≡ back
ends text front back e =
    let n : length text - length back ≡ length front = let l : length text ≡ length (front ++ back) = ap length e in omega (arith, length-append front back) in
    rw n (ap (drop (length front)) e ∙ drop-append_seam front back)

-- a text is cut at its first mark in one way only
pub cut_once : (mark : ℕ) (a b c d : List ℕ) → All (λ x. x ≢ mark) a → All (λ x. x ≢ mark) c → a ++ mark ∷ b ≡ c ++ mark ∷ d → (a ≡ c) × (b ≡ d)
cut_once mark [] b [] d p q e = (refl, cc)
cut_once mark [] b (y ∷ c) d p q e = let other = All-head (λ (x : ℕ). x ≢ mark) y c q in absurd (other (cc))
cut_once mark (x ∷ a) b [] d p q e = let other = All-head (λ (x : ℕ). x ≢ mark) x a p in absurd (other (cc))
cut_once mark (x ∷ a) b (y ∷ c) d p q e =
    let tails : a ++ mark ∷ b ≡ c ++ mark ∷ d = cc in
    let rest = cut_once mark a b c d (All-tail (λ (x : ℕ). x ≢ mark) x a p) (All-tail (λ (x : ℕ). x ≢ mark) y c q) tails in
    ((let h = rest.0 in cc), rest.1)

-- a text without the mark is none that has it
pub no_cut : (mark : ℕ) (text a b : List ℕ) → All (λ x. x ≢ mark) text → text ≡ a ++ mark ∷ b → ⊥
no_cut mark [] [] b p e = cc
no_cut mark [] (y ∷ a) b p e = cc
no_cut mark (x ∷ xs) [] b p e = All-head (λ (x : ℕ). x ≢ mark) x xs p (cc)
no_cut mark (x ∷ xs) (y ∷ a) b p e = no_cut mark xs a b (All-tail (λ (x : ℕ). x ≢ mark) x xs p) (cc)

-- where a test came out false, what it tests doesn't hold
pub not_both : {P : Type 0} {b : Bool} → IsTrue b ↔ P → b ≡ false → P → ⊥
not_both t e p = let h : _ ≡ true = t.1 p in cc

pub so_it_is : {P : Type 0} {b : Bool} → IsTrue b ↔ P → b ≡ true → P
so_it_is t e = t.0 e

-- what is read behind a beginning
pub behind : (text front a b : List ℕ) → text ≡ front ++ a → text ≡ front ++ b → a ≡ b
behind text front a b p q = append_cancel_left front a b (sym p ∙ q)

-- a text in which no comma follows its beginning isn't this one
pub no_comma : (text front rest digits more : List ℕ) → text ≡ front ++ rest → All (λ x. x ≢ 44) rest → text ≡ front ++ (digits ++ 44 ∷ more) → ⊥
no_comma text front rest digits more p none q = no_cut 44 rest digits more none (behind text front rest (digits ++ 44 ∷ more) p q)

-- a text with fixed parts and a comma is read in one way only
pub one_rest : (text front rest digits more digits' more' : List ℕ) → All (λ x. x ≢ 44) digits → All (λ x. x ≢ 44) digits' → text ≡ front ++ rest → rest ≡ digits ++ 44 ∷ more → text ≡ front ++ (digits' ++ 44 ∷ more') → (digits ≡ digits') × (more ≡ more')
one_rest text front rest digits more digits' more' none none' p is q = cut_once 44 digits more digits' more' none none' (sym is ∙ behind text front rest (digits' ++ 44 ∷ more') p q)

pub one_issuer : (more middle back iss iss' : List ℕ) → more ≡ middle ++ (iss ++ back) → more ≡ middle ++ (iss' ++ back) → iss ≡ iss'
one_issuer more middle back iss iss' p q = append_cancel_right iss iss' back (behind more middle (iss ++ back) (iss' ++ back) p q)

unmarked : (mark : ℕ) (xs : List ℕ) → All (λ x. x ≢ mark) xs → All (λ x. (x == mark) ≡ false) xs
unmarked mark xs h = All-weaker (λ (x : ℕ). x ≢ mark) (λ (x : ℕ). (x == mark) ≡ false) (λ x ne. ne_eqb x mark ne) xs h

-- the pieces of a text between its dots
abbrev pub pieces : List ℕ → List (List ℕ)
pieces text = slice_split (λ (b : ℕ). b == 46) text

pub one_piece : (text : List ℕ) → All (λ x. x ≢ 46) text → pieces text ≡ text ∷ []
one_piece text h = slice_split_none (λ (b : ℕ). b == 46) text (unmarked 46 text h)

pub first_piece : (text a b : List ℕ) → All (λ x. x ≢ 46) a → text ≡ a ++ 46 ∷ b → pieces text ≡ a ∷ pieces b
first_piece text a b h e = ap pieces e ∙ slice_split_at (λ (b : ℕ). b == 46) a 46 b (unmarked 46 a h) refl

pub some_piece : (text : List ℕ) → pieces text ≡ [] → ⊥
some_piece text e = let n = length-slice_split (λ (b : ℕ). b == 46) text in let m : length (pieces text) ≡ 0 = ap length e in absurd (omega arith)

-- what stands before the second dot
pub before_second : (text head rest claims signature : List ℕ) → text ≡ head ++ 46 ∷ rest → rest ≡ claims ++ 46 ∷ signature → take (length head + 1 + length claims) text ≡ head ++ 46 ∷ claims
before_second text head rest claims signature p q =
    let whole : text ≡ (head ++ 46 ∷ claims) ++ 46 ∷ signature = p ∙ (ap (λ (r : List ℕ). head ++ 46 ∷ r) q ∙ sym (append_assoc head (46 ∷ claims) (46 ∷ signature))) in
    let n : length head + 1 + length claims ≡ length (head ++ 46 ∷ claims) = omega (arith, length-append head (46 ∷ claims)) in
    rw n (begins text (head ++ 46 ∷ claims) (46 ∷ signature) whole)

pub one_not_three : (text h p s : List ℕ) → All (λ x. x ≢ 46) text → pieces text ≡ h ∷ p ∷ s ∷ [] → ⊥
one_not_three text h p s none e = let one = one_piece text none in cc

pub two_not_three : (text a b h p s : List ℕ) → All (λ x. x ≢ 46) a → text ≡ a ++ 46 ∷ b → All (λ x. x ≢ 46) b → pieces text ≡ h ∷ p ∷ s ∷ [] → ⊥
two_not_three text a b h p s free is none e = let two = first_piece text a b free is in let one = one_piece b none in cc

pub four_not_three : (text a b c d x y h p s : List ℕ) → All (λ x. x ≢ 46) a → text ≡ a ++ 46 ∷ b → All (λ x. x ≢ 46) c → b ≡ c ++ 46 ∷ d → All (λ x. x ≢ 46) x → d ≡ x ++ 46 ∷ y
    → pieces text ≡ h ∷ p ∷ s ∷ [] → ⊥
four_not_three text a b c d x y h p s free is free' is' free'' is'' e =
    let one = first_piece text a b free is in
    let two = first_piece b c d free' is' in
    let three = first_piece d x y free'' is'' in
    let rest : pieces y ≡ [] = cc in
    some_piece y rest

pub three_pieces : (text a b c d : List ℕ) → All (λ x. x ≢ 46) a → text ≡ a ++ 46 ∷ b → All (λ x. x ≢ 46) c → b ≡ c ++ 46 ∷ d → All (λ x. x ≢ 46) d → pieces text ≡ a ∷ c ∷ d ∷ []
three_pieces text a b c d free is free' is' none =
    let one = first_piece text a b free is in
    let two = first_piece b c d free' is' in
    let three = one_piece d none in cc
