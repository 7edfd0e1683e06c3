-- A word spells its bytes, and no others.
use Rattle.std.proofs.Common.{IsAscii, ◌≡◌, ◌≢◌, ℕ, zero, suc, ◌<◌, ◌≤◌, ◌⊎◌, inl, inr, ⊎_elim, eqb, Bool, true, false, not, ◌&&◌, ◌||◌, cond, List, [], ◌∷◌, length, All, Option, Some, None, refl, ap, sym, subst, ◌∙◌, arith, codes, ◌++◌}
use borrow.Author.Count.{below_more}
use mathlib.Core.Bool.{true≢false}
use Rattle.std.specs.List.{flat_map, list_all, list_any}
use Rattle.std.specs.Cmp.Lexicographic.{pointwise, same_text}
use Rattle.std.proofs.lemmas.Bool.Decides.{nat_tests}
use Rattle.std.proofs.lemmas.Bool.{and_parts, cases_lt, eq-eqb, cond-false, cond-true, ne_eqb}
use Rattle.std.proofs.lemmas.List.Elements.{All-nil, All-cons, All-head, All-weaker}
use Rattle.std.proofs.lemmas.Str.Ascii.{IsAscii-from_all}
use Rattle.percent_encoding.specs.Percent.{percent_encode, percent_encode_byte, percent_decode, encode_byte}
use Rattle.percent_encoding.specs.AsciiSet.{should_percent_encode}
use Rattle.percent_encoding.proofs.PercentLemmas.{All-percent_encode, IsEscapeByte, percent_decode-nil, percent_decode_not_percent, round_trip}
use Rattle.gp_script.specs.declared.line.TheConstants.{ESCAPED}
use Rattle.gp_script.specs.Guess.{bytes_of, id_of, is_word}
use Rattle.gp_script.specs.Lines.{IsBytes, IsSomeId}
use Rattle.gp_script.specs.Spelling.{is_plain, spell, spell_byte, word, id_word}

all_below : (ℕ → Bool) → ℕ → Bool
all_below p zero = true
all_below p (suc n) = p n && all_below p n

from_all_below : (p : ℕ → Bool) (n k : ℕ) → all_below p n ≡ true → k < n → p k ≡ true
unfolding all_below
from_all_below p zero k all h = absurd (omega arith)
from_all_below p (suc n) k all h =
    let both = and_parts (p n) (all_below p n) all in
    below_more (λ (j : ℕ). p j ≡ true) n (λ j hj. from_all_below p n j both.1 hj) both.0 k (omega arith)

same : Bool → Bool → Bool
same true b = b
same false b = not b

same-is : (a b : Bool) → same a b ≡ true → a ≡ b
unfolding same
same-is true true e = refl
same-is true false e = sym e
same-is false true e = e
same-is false false e = refl

ascii_table : all_below (λ b. same (should_percent_encode ESCAPED b) (not (is_plain b))) 128 ≡ true
unfolding all_below same should_percent_encode
ascii_table = refl

not_plain : (b : ℕ) → 128 ≤ b → is_plain b ≡ false
not_plain b h = grind (arith, nat_tests)

past_ascii : (b : ℕ) → 128 ≤ b → should_percent_encode ESCAPED b ≡ true
unfolding should_percent_encode
past_ascii b h = grind (arith, nat_tests)

pub escaped-is : (b : ℕ) → should_percent_encode ESCAPED b ≡ not (is_plain b)
escaped-is b =
    ⊎_elim
    (λ h. same-is _ _ (from_all_below (λ n. same (should_percent_encode ESCAPED n) (not (is_plain n))) 128 b ascii_table h))
    (λ h. past_ascii b h ∙ sym (ap not (not_plain b h)))
    (cases_lt b 128)

other_way : (t : Bool) (xs ys : List ℕ) → cond (not t) xs ys ≡ cond t ys xs
other_way true xs ys = refl
other_way false xs ys = refl

encode_byte-is : (b : ℕ) → encode_byte ESCAPED b ≡ spell_byte b
encode_byte-is b = ap (λ (t : Bool). cond t (percent_encode_byte b) (b ∷ [])) (escaped-is b) ∙ other_way (is_plain b) (percent_encode_byte b) (b ∷ [])

flat_map-by : (f g : ℕ → List ℕ) → ((b : ℕ) → f b ≡ g b) → (bytes : List ℕ) → flat_map f bytes ≡ flat_map g bytes
flat_map-by f g e [] = refl
flat_map-by f g e (b ∷ bs) = ap (λ x. x ++ flat_map f bs) (e b) ∙ ap (λ x. g b ++ x) (flat_map-by f g e bs)

-- what the kit writes is the spelling
pub percent_encode-is : (bytes : List ℕ) → percent_encode ESCAPED bytes ≡ spell bytes
unfolding percent_encode
percent_encode-is bytes = flat_map-by (encode_byte ESCAPED) spell_byte encode_byte-is bytes

pub percent_encode-word : (bytes : List ℕ) → 1 ≤ length bytes → percent_encode ESCAPED bytes ≡ word bytes
percent_encode-word [] h = absurd (omega arith)
percent_encode-word (b ∷ bs) h = percent_encode-is (b ∷ bs)

-- ---- bytes that spell themselves

not_not : (t : Bool) → not (not t) ≡ t
not_not true = refl
not_not false = refl

pub kept-is : (b : ℕ) → not (should_percent_encode ESCAPED b) ≡ is_plain b
kept-is b = ap not (escaped-is b) ∙ not_not (is_plain b)

plain_spell : (bytes : List ℕ) → list_all is_plain bytes ≡ true → spell bytes ≡ bytes
plain_spell [] plain = refl
plain_spell (b ∷ bs) plain =
    let both = and_parts (is_plain b) (list_all is_plain bs) plain in
    ap (λ x. x ++ spell bs) (cond-true (is_plain b) (b ∷ []) (percent_encode_byte b) both.0) ∙ ap (λ xs. b ∷ xs) (plain_spell bs both.1)

plain_small : (b : ℕ) → is_plain b ≡ true → b < 128
plain_small b h = grind (arith, nat_tests)

all_small : (bytes : List ℕ) → list_all is_plain bytes ≡ true → All (λ (b : ℕ). b < 128) bytes
all_small [] plain = All-nil (λ (b : ℕ). b < 128)
all_small (b ∷ bs) plain =
    let both = and_parts (is_plain b) (list_all is_plain bs) plain in
    All-cons (λ (b : ℕ). b < 128) b bs (plain_small b both.0) (all_small bs both.1)

pub plain_ascii : (bytes : List ℕ) → list_all is_plain bytes ≡ true → IsAscii bytes
plain_ascii bytes plain = IsAscii-from_all bytes (all_small bytes plain)

pub plain_word : (bytes : List ℕ) → list_all is_plain bytes ≡ true → 1 ≤ length bytes → word bytes ≡ bytes
plain_word [] plain some = absurd (omega arith)
plain_word (b ∷ bs) plain some = plain_spell (b ∷ bs) plain

-- ---- the bytes of a word

-- a byte of a word that spells something: `%`, or from `-` on
abbrev pub IsClear : ℕ → Type 0
IsClear b = (b ≡ 37) ⊎ (45 ≤ b)

plain_clear : (b : ℕ) → is_plain b ≡ true → IsClear b
plain_clear b h = inr (grind (arith, nat_tests))

not-false : (t : Bool) → not t ≡ false → t ≡ true
not-false true e = refl
not-false false e = sym e

kept_clear : (b : ℕ) → should_percent_encode ESCAPED b ≡ false → IsClear b
kept_clear b kept = plain_clear b (not-false (is_plain b) (sym (escaped-is b) ∙ kept))

escape_clear : (b : ℕ) → IsEscapeByte b → IsClear b
escape_clear b (inl e) = inl e
escape_clear b (inr (inl h)) = inr (omega arith)
escape_clear b (inr (inr h)) = inr (omega arith)

pub word_clear : (b : ℕ) (bs : List ℕ) → All IsClear (word (b ∷ bs))
word_clear b bs = subst (All IsClear) (percent_encode-is (b ∷ bs)) (All-percent_encode IsClear ESCAPED (b ∷ bs) kept_clear escape_clear)

one_byte : (P : ℕ → Type 0) (b : ℕ) → P b → All P (b ∷ [])
one_byte P b h = All-cons P b [] h (All-nil P)

-- no word has a space, nor a comma
pub word_spaceless : (v : List ℕ) → All (λ (b : ℕ). eqb b 32 ≡ false) (word v)
word_spaceless [] = one_byte (λ (b : ℕ). eqb b 32 ≡ false) 33 refl
word_spaceless (b ∷ bs) = All-weaker IsClear (λ (n : ℕ). eqb n 32 ≡ false) (λ n h. ne_eqb n 32 (λ e. ⊎_elim (λ p. absurd (omega arith)) (λ p. absurd (omega arith)) h)) (word (b ∷ bs)) (word_clear b bs)

pub word_commaless : (v : List ℕ) → All (λ (b : ℕ). eqb b 44 ≡ false) (word v)
word_commaless [] = one_byte (λ (b : ℕ). eqb b 44 ≡ false) 33 refl
word_commaless (b ∷ bs) = All-weaker IsClear (λ (n : ℕ). eqb n 44 ≡ false) (λ n h. ne_eqb n 44 (λ e. ⊎_elim (λ p. absurd (omega arith)) (λ p. absurd (omega arith)) h)) (word (b ∷ bs)) (word_clear b bs)

-- ---- a word without `%` is read as it stands

neither : (a b : Bool) → (a || b) ≡ false → (a ≡ false) × (b ≡ false)
neither true b e = absurd (true≢false e)
neither false b e = (refl, e)

pub no_percent : (word : List ℕ) → list_any (λ b. eqb b 37) word ≡ false → percent_decode word ≡ word
no_percent [] none = percent_decode-nil
no_percent (b ∷ bs) none =
    let both = neither (eqb b 37) (list_any (λ b. eqb b 37) bs) none in
    percent_decode_not_percent b bs (λ is. true≢false (sym (eq-eqb b 37 is) ∙ both.0)) ∙ ap (λ xs. b ∷ xs) (no_percent bs both.1)

-- ---- what a word spells is read from it

decided : (xs ys : List ℕ) (b : Bool) → pointwise eqb xs ys ≡ b → xs ≢ ys → b ≡ false
decided xs ys true e n = absurd (n (same_text xs ys (sym e)))
decided xs ys false e n = refl

not_bang : (b : ℕ) (bs : List ℕ) → word (b ∷ bs) ≢ codes "!"
not_bang b bs e =
    ⊎_elim (λ (p : 33 ≡ 37). absurd (omega arith)) (λ (p : 45 ≤ 33). absurd (omega arith)) (All-head IsClear 33 [] (subst (All IsClear) e (word_clear b bs)))

pub is_bang : (b : ℕ) (bs : List ℕ) → is_word (word (b ∷ bs)) (codes "!") ≡ false
is_bang b bs = decided (word (b ∷ bs)) (codes "!") (is_word (word (b ∷ bs)) (codes "!")) refl (not_bang b bs)

pub bytes_of-word : (v : List ℕ) → IsBytes v → bytes_of (word v) ≡ v
bytes_of-word [] small = refl
bytes_of-word (b ∷ bs) small =
    cond-false _ _ _ (is_bang b bs) ∙ ap percent_decode (sym (percent_encode-is (b ∷ bs))) ∙ round_trip ESCAPED (b ∷ bs) refl small

pub id_of-word : (id : Option (List ℕ)) → IsSomeId id → id_of (id_word id) ≡ id
id_of-word None h = refl
id_of-word (Some []) h = absurd (omega (arith, h.form.some))
id_of-word (Some (b ∷ bs)) h = cond-false _ _ _ (is_bang b bs) ∙ ap Some (bytes_of-word (b ∷ bs) h.small)
