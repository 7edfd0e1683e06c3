-- How far a head reaches, from what the scanner finds in the bytes that it looks at, and that later bytes do not change it.
use Rattle.std.proofs.Common.{◌≡◌, ℕ, ◌+◌, ◌-◌, ◌<◌, ◌≤◌, ◌⊎◌, false, leb, List, [], ◌++◌, length, take, drop, Option, Some, None, refl, sym, ap, ◌∙◌, arith, inl, inr, append-nil, take_all, length-append, lt-ltb, le-ltb, le-leb}
use Rattle.std.proofs.lemmas.Bool.{lt-leb, cases_lt, and_right}
use Rattle.std.proofs.Math.Seq.{take-append-add}
use Rattle.std.proofs.lemmas.List.{take-append-le, length-take-le, take-append-drop}
use Rattle.gp_head.specs.declared.scan.State.TheVariants.{Before}
use Rattle.gp_head.specs.declared.scan.Extent.TheVariants.{TooMany, TooLong, More, Ends}
use Rattle.gp_head.specs.Lines.{begun_fields, head_end, extent_of}
use Rattle.gp_head.proofs.StepLemmas.{end_from-head_end, begun_from-begun_fields, ends_in, begun_from-append}

-- an end that is there stays, and is that of the bytes up to it
pub record EndStays (text more : List ℕ) (n : ℕ) : Type 0 where
  pub inside : n ≤ length text
  pub longer : head_end (text ++ more) ≡ Some n
  pub cut : head_end (take n text) ≡ Some n
  pub begun_longer : begun_fields (text ++ more) ≡ begun_fields text
  pub begun_cut : begun_fields (take n text) ≡ begun_fields text

pub end_stays : (text more : List ℕ) (n : ℕ) → head_end text ≡ Some n → EndStays text more n
end_stays text more n e =
    let ends = ends_in text more Before n (end_from-head_end text ∙ e) in record {
      inside = ends.inside;
      longer = sym (end_from-head_end (text ++ more)) ∙ ends.longer;
      cut = sym (end_from-head_end (take n text)) ∙ ends.cut;
      begun_longer = sym (begun_from-begun_fields (text ++ more)) ∙ ends.begun_longer ∙ begun_from-begun_fields text;
      begun_cut = sym (begun_from-begun_fields (take n text)) ∙ ends.begun_cut ∙ begun_from-begun_fields text;
    }

pub begun_fields-append : (text more : List ℕ) → begun_fields text ≤ begun_fields (text ++ more)
begun_fields-append text more =
    omega (arith, begun_from-append text more Before, begun_from-begun_fields text, begun_from-begun_fields (text ++ more))

-- ---- the cases

pub extent_too_many : (bytes : List ℕ) → 64 < begun_fields (take 16384 bytes) → extent_of bytes ≡ TooMany
unfolding extent_of
extent_too_many bytes many = rw (lt-ltb 64 (begun_fields (take 16384 bytes)) many) refl

pub extent_too_long : (bytes : List ℕ) → begun_fields (take 16384 bytes) ≤ 64 → head_end (take 16384 bytes) ≡ None → 16384 ≤ length bytes
    → extent_of bytes ≡ TooLong
unfolding extent_of
extent_too_long bytes few none long = rw (le-ltb 64 _ few, none, le-leb 16384 (length bytes) long) refl

more_from_whole : (bytes : List ℕ) → begun_fields (take 16384 bytes) ≤ 64 → head_end bytes ≡ None → length bytes < 16384
    → extent_of bytes ≡ More
unfolding extent_of
more_from_whole bytes few none short = rw (le-ltb 64 _ few, none, lt-leb 16384 (length bytes) short) refl

pub extent_more : (bytes : List ℕ) → begun_fields (take 16384 bytes) ≤ 64 → head_end (take 16384 bytes) ≡ None → length bytes < 16384
    → extent_of bytes ≡ More
extent_more bytes few none short =
    let all : take 16384 bytes ≡ bytes = take_all 16384 bytes (omega arith) in
    more_from_whole bytes few (sym (ap head_end all) ∙ none) short

ends_from_whole : (bytes : List ℕ) (n : ℕ) → begun_fields (take 16384 bytes) ≤ 64 → head_end (take 16384 bytes) ≡ Some n → head_end bytes ≡ Some n
    → extent_of bytes ≡ Ends n
unfolding extent_of
ends_from_whole bytes n few found whole =
    rw (le-ltb 64 (begun_fields (take 16384 bytes)) few, found, whole, and_right (leb 16384 (length bytes)) false refl) refl

pub extent_ends : (bytes : List ℕ) (n : ℕ) → begun_fields (take 16384 bytes) ≤ 64 → head_end (take 16384 bytes) ≡ Some n
    → extent_of bytes ≡ Ends n
extent_ends bytes n few found =
    let stays = end_stays (take 16384 bytes) (drop 16384 bytes) n found in
    ends_from_whole bytes n few found (rw take-append-drop at stays.longer)

-- ---- what the case says

-- the head ends there, in the bytes that a head may have, with as many field lines as it may have
pub record EndsAt (bytes : List ℕ) (n : ℕ) : Type 0 where
  pub few : begun_fields (take 16384 bytes) ≤ 64
  pub front : head_end (take 16384 bytes) ≡ Some n
  pub whole : head_end bytes ≡ Some n

pub ends_at : (bytes : List ℕ) (n : ℕ) → extent_of bytes ≡ Ends n → EndsAt bytes n
ends_at bytes n e = by_count (cases_lt 64 (begun_fields (take 16384 bytes)))
  where
    by_length : begun_fields (take 16384 bytes) ≤ 64 → head_end (take 16384 bytes) ≡ None → (length bytes < 16384) ⊎ (16384 ≤ length bytes) → EndsAt bytes n
    by_length few none (inl short) =
        let other = extent_more bytes few none short in cc
    by_length few none (inr long) = let other = extent_too_long bytes few none long in cc

    by_end : begun_fields (take 16384 bytes) ≤ 64 → (end : Option ℕ) → head_end (take 16384 bytes) ≡ end → EndsAt bytes n
    by_end few None none = by_length few none (cases_lt (length bytes) 16384)
    by_end few (Some m) found =
        let stays = end_stays (take 16384 bytes) (drop 16384 bytes) m found in
        let other = extent_ends bytes m few found in
        let same : m ≡ n = cc in
        record { few = few; front = found ∙ ap (λ (k : ℕ). Some k) same; whole = rw take-append-drop at stays.longer ∙ ap (λ (k : ℕ). Some k) same }

    by_count : (64 < begun_fields (take 16384 bytes)) ⊎ (begun_fields (take 16384 bytes) ≤ 64) → EndsAt bytes n
    by_count (inl many) = let other = extent_too_many bytes many in cc
    by_count (inr few) = by_end few (head_end (take 16384 bytes)) refl

-- ---- more bytes

-- the front of more bytes is the front of these, and then some
front_of_more : (n : ℕ) (bytes more : List ℕ) → (rest : List ℕ) × (take n (bytes ++ more) ≡ take n bytes ++ rest) × (n ≤ length bytes → rest ≡ [])
front_of_more n bytes more = by_length (cases_lt (length bytes) n)
  where
    by_length : (length bytes < n) ⊎ (n ≤ length bytes) → (rest : List ℕ) × (take n (bytes ++ more) ≡ take n bytes ++ rest) × (n ≤ length bytes → rest ≡ [])
    by_length (inl short) =
        let some : length bytes + (n - length bytes) ≡ n = omega arith in
        let all : take n bytes ≡ bytes = take_all n bytes (omega arith) in
        (take (n - length bytes) more, ap (λ (k : ℕ). take k (bytes ++ more)) (sym some) ∙ take-append-add bytes more (n - length bytes) ∙ ap (λ (xs : List ℕ). xs ++ take (n - length bytes) more) (sym all), λ long. absurd (omega arith))
    by_length (inr long) = ([], take-append-le n bytes more long ∙ sym (append-nil (take n bytes)), λ _. refl)

-- a case other than More stays, whatever follows
pub extent_stays : (bytes more : List ℕ) → (extent_of bytes ≡ More → ⊥) → extent_of (bytes ++ more) ≡ extent_of bytes
extent_stays bytes more told = by_count (cases_lt 64 (begun_fields (take 16384 bytes)))
  where
    by_length : begun_fields (take 16384 bytes) ≤ 64 → head_end (take 16384 bytes) ≡ None → (length bytes < 16384) ⊎ (16384 ≤ length bytes)
        → extent_of (bytes ++ more) ≡ extent_of bytes
    by_length few none (inl short) =
        absurd (told (extent_more bytes few none short))
    by_length few none (inr long) =
        let same : take 16384 (bytes ++ more) ≡ take 16384 bytes = take-append-le 16384 bytes more long in
        extent_too_long (bytes ++ more) (omega (arith, ap begun_fields same)) (ap head_end same ∙ none) (omega (arith, length-append bytes more))
        ∙ sym (extent_too_long bytes few none long)

    by_end : begun_fields (take 16384 bytes) ≤ 64 → (end : Option ℕ) → head_end (take 16384 bytes) ≡ end → extent_of (bytes ++ more) ≡ extent_of bytes
    by_end few None none = by_length few none (cases_lt (length bytes) 16384)
    by_end few (Some n) found =
        let longer = front_of_more 16384 bytes more in
        let stays = end_stays (take 16384 bytes) longer.0 n found in
        extent_ends (bytes ++ more) n (omega (arith, ap begun_fields longer.1, stays.begun_longer)) (ap head_end longer.1 ∙ stays.longer)
        ∙ sym (extent_ends bytes n few found)

    by_count : (64 < begun_fields (take 16384 bytes)) ⊎ (begun_fields (take 16384 bytes) ≤ 64) → extent_of (bytes ++ more) ≡ extent_of bytes
    by_count (inl many) =
        let longer = front_of_more 16384 bytes more in
        extent_too_many (bytes ++ more) (omega (arith, ap begun_fields longer.1, begun_fields-append (take 16384 bytes) longer.0))
        ∙ sym (extent_too_many bytes many)
    by_count (inr few) = by_end few (head_end (take 16384 bytes)) refl

-- ---- the head text

-- the text up to the end of the head
pub record IsHeadText (bytes : List ℕ) (n : ℕ) : Type 0 where
  pub inside : n ≤ length bytes
  pub length_is : length (take n bytes) ≡ n
  pub end : head_end (take n bytes) ≡ Some (length (take n bytes))
  pub few : begun_fields (take n bytes) ≤ 64

pub is_head_text : (bytes : List ℕ) (n : ℕ) → Ends n ≡ extent_of bytes → IsHeadText bytes n
is_head_text bytes n e =
    let at = ends_at bytes n (sym e) in
    let whole = end_stays bytes [] n at.whole in
    let front = end_stays (take 16384 bytes) (drop 16384 bytes) n at.front in
    let begun : begun_fields bytes ≡ begun_fields (take 16384 bytes) = ap begun_fields (sym (take-append-drop 16384 bytes)) ∙ front.begun_longer in
    let number : length (take n bytes) ≡ n = length-take-le n bytes whole.inside in record {
      inside = whole.inside;
      length_is = number;
      end = whole.cut ∙ ap (λ (k : ℕ). Some k) (sym number);
      few = omega (arith, whole.begun_cut, begun, at.few);
    }
