-- A head of the grammar ends at the first empty line behind its first line, and has as many field lines as have begun
-- before that.
use Rattle.std.proofs.Common.{◌≡◌, ℕ, ◌+◌, ◌≤◌, Bool, true, false, eqb, List, [], ◌∷◌, ◌++◌, length, Option, Some, None, refl, sym, ap, ◌∙◌, subst, arith, append_assoc, length-append}
use Rattle.std.specs.Prelude.{All}
use Rattle.std.specs.List.{flat_map}
use Rattle.std.specs.Char.{is_ascii_digit}
use Rattle.std.proofs.lemmas.Bool.{or_parts, ne_eqb}
use Rattle.std.proofs.lemmas.List.Elements.{All-head, All-tail}
use Rattle.httparse.specs.Grammar.{AllPass, is_token_byte, is_uri_byte, is_value_byte, LineEnd, crlf, lf, print_end, print_blank, print_version, Field, print_field, IsField, print_section, RequestHead, print_request, ReadsRequest, ResponseHead, print_response, ReadsResponse, print_reason, reason_phrase}
use Rattle.httparse.specs.Pieces.{Stops, is_newline}
use Rattle.httparse.proofs.PieceLemmas.{Stops_token, print_field-append}
use Rattle.httparse.proofs.GrammarLemmas.{print_request-append, print_response-append, cons-append}
use Rattle.gp_head.specs.Lines.{first_line, later_lines, lines, is_empty_line, has_begun, after_first, field_count, length_to_empty, length_to_end, begun_fields, head_end}
use Rattle.gp_head.proofs.StepLemmas.{later, later_later, later_zero, field_count-cons}

-- no line feed is among the bytes
abbrev pub IsOneLine : List ℕ → Type 0
IsOneLine [] = Unit {0}
IsOneLine (b ∷ bs) = (b ≡ 10 → ⊥) × IsOneLine bs

pub IsOneLine-append : (xs ys : List ℕ) → IsOneLine xs → IsOneLine ys → IsOneLine (xs ++ ys)
IsOneLine-append [] ys x y = y
IsOneLine-append (b ∷ xs) ys x y = (x.0, IsOneLine-append xs ys x.1 y)

pub IsOneLine-from_pass : (test : ℕ → Bool) (xs : List ℕ) → test 10 ≡ false → AllPass test xs → IsOneLine xs
IsOneLine-from_pass test [] fails pass = tt
IsOneLine-from_pass test (b ∷ xs) fails pass =
    let here : test b ≡ true = All-head (λ v. test v ≡ true) b xs pass in
    (λ e. (let there : test 10 ≡ true = subst (λ (v : ℕ). test v ≡ true) e here in cc), IsOneLine-from_pass test xs fails (All-tail (λ v. test v ≡ true) b xs pass))

feed_is_no_token : is_token_byte 10 ≡ false
unfolding is_token_byte
feed_is_no_token = refl

-- the lines of a text that begins with a line
pub record BeginsWithLine (text line rest : List ℕ) : Type 0 where
  pub first : first_line text ≡ line
  pub others : later_lines text ≡ lines rest

pub begins_with_line : (word rest : List ℕ) → IsOneLine word → BeginsWithLine (word ++ 10 ∷ rest) (word ++ 10 ∷ []) rest
begins_with_line [] rest one = record { first = refl; others = refl }
begins_with_line (b ∷ word) rest one =
    let behind = begins_with_line word rest one.1 in
    let other = ne_eqb b 10 one.0 in record {
      first = rw other (ap (λ (bs : List ℕ). b ∷ bs) behind.first);
      others = rw other behind.others;
    }

pub lines_of_line : (word rest : List ℕ) → IsOneLine word → lines (word ++ 10 ∷ rest) ≡ (word ++ 10 ∷ []) ∷ lines rest
lines_of_line word rest one = let begins = begins_with_line word rest one in λ i. begins.first i ∷ begins.others i

-- a line that begins with another byte than a carriage return and a line feed has begun, and isn't empty
pub filled : (word : List ℕ) → Stops is_newline word → (is_empty_line (word ++ 10 ∷ []) ≡ false) × (has_begun (word ++ 10 ∷ []) ≡ true)
filled [] stops = absurd stops
filled (b ∷ word) stops = let other = or_parts (eqb b 13) (eqb b 10) stops in (rw (other.0, other.1) refl, rw (other.0, other.1) refl)

-- what stands before the line feed of a line end
abbrev pub return_of : LineEnd → List ℕ
return_of crlf = 13 ∷ []
return_of lf = []

pub print_end_is : (end : LineEnd) (rest : List ℕ) → print_end end ++ rest ≡ return_of end ++ 10 ∷ rest
print_end_is crlf rest = refl
print_end_is lf rest = refl

return_is_one_line : (end : LineEnd) → IsOneLine (return_of end)
return_is_one_line crlf = (λ e. omega arith, tt)
return_is_one_line lf = tt

-- ---- field lines

abbrev pub word_of : Field → List ℕ
word_of f = f.name ++ 58 ∷ (f.raw ++ return_of f.end)

pub print_field_is : (f : Field) (rest : List ℕ) → print_field f ++ rest ≡ word_of f ++ 10 ∷ rest
print_field_is f rest =
    let text = print_field-append f rest in
    rw print_end_is at text ∙ sym (simp (append_assoc, cons-append))

word_is_one_line : (f : Field) → IsField f → IsOneLine (word_of f)
word_is_one_line f field =
    IsOneLine-append f.name _ (IsOneLine-from_pass is_token_byte f.name feed_is_no_token field.name.1)
    (λ e. omega arith, IsOneLine-append f.raw _ (IsOneLine-from_pass is_value_byte f.raw refl field.raw) (return_is_one_line f.end))

-- where the field lines at the front end, and how many they are
pub record HasFields (text : List ℕ) (n fields : ℕ) : Type 0 where
  pub end : length_to_empty (lines text) ≡ Some n
  pub begun : field_count (lines text) ≡ fields

section-cons : (f : Field) (fs : List Field) (last : LineEnd) (rest : List ℕ) → print_section (f ∷ fs) last ++ rest ≡ word_of f ++ 10 ∷ (print_section fs last ++ rest)
section-cons f fs last rest =
    ap (λ (t : List ℕ). t ++ rest) (append_assoc (print_field f) (flat_map print_field fs) (print_end last))
    ∙ append_assoc (print_field f) (print_section fs last) rest ∙ print_field_is f (print_section fs last ++ rest)

pub section_has_fields : (fs : List Field) (last : LineEnd) (rest : List ℕ) → All IsField fs → HasFields (print_section fs last ++ rest) (length (print_section fs last)) (length fs)
section_has_fields [] crlf rest all = record { end = refl; begun = field_count-cons (13 ∷ 10 ∷ []) (lines rest) }
section_has_fields [] lf rest all = record { end = refl; begun = field_count-cons (10 ∷ []) (lines rest) }
section_has_fields (f ∷ fs) last rest all =
    let field : IsField f = All-head IsField f fs all in
    let behind = section_has_fields fs last rest (All-tail IsField f fs all) in
    let cut = ap lines (section-cons f fs last rest) ∙ lines_of_line (word_of f) (print_section fs last ++ rest) (word_is_one_line f field) in
    let first = filled (word_of f) (Stops_token f.name _ field.name.0 field.name.1) in
    let length_is : length (word_of f ++ 10 ∷ []) + length (print_section fs last) ≡ length (print_section (f ∷ fs) last) =
    omega (arith, ap length (section-cons f fs last []), length-append (print_section (f ∷ fs) last) [], length-append (word_of f) (10 ∷ (print_section fs last ++ [])), length-append (print_section fs last) [], length-append (word_of f) (10 ∷ [])) in record {
      end = ap length_to_empty cut ∙ rw (first.0, behind.end) (ap (λ (n : ℕ). Some n) length_is);
      begun = ap field_count cut ∙ field_count-cons (word_of f ++ 10 ∷ []) (lines (print_section fs last ++ rest)) ∙ rw (first.0, first.1, behind.begun) (omega arith);
    }

-- ---- the lines before them

lines_of_blank : (end : LineEnd) (rest : List ℕ) → lines (print_end end ++ rest) ≡ print_end end ∷ lines rest
lines_of_blank crlf rest = refl
lines_of_blank lf rest = refl

blank_is_empty : (end : LineEnd) → is_empty_line (print_end end) ≡ true
blank_is_empty crlf = refl
blank_is_empty lf = refl

blank_lines : (es : List LineEnd) (rest : List ℕ) → (length_to_end (lines (print_blank es ++ rest)) ≡ later (length (print_blank es)) (length_to_end (lines rest))) × (after_first (lines (print_blank es ++ rest)) ≡ after_first (lines rest))
blank_lines [] rest = (sym (later_zero (length_to_end (lines rest))), refl)
blank_lines (e ∷ es) rest =
    let behind = blank_lines es rest in
    let cut : lines (print_blank (e ∷ es) ++ rest) ≡ print_end e ∷ lines (print_blank es ++ rest) =
    ap lines (append_assoc (print_end e) (print_blank es) rest) ∙ lines_of_blank e (print_blank es ++ rest) in (
      ap length_to_end cut ∙ rw (blank_is_empty e, behind.0) (later_later (length (print_end e)) (length (print_blank es)) (length_to_end (lines rest)) ∙ ap (λ (n : ℕ). later n (length_to_end (lines rest))) (sym (length-append (print_end e) (print_blank es)))),
      ap after_first cut ∙ rw (blank_is_empty e) behind.1,
    )

-- empty lines, a first line, field lines and an empty line: the head ends there
pub record HeadEnds (text rest : List ℕ) (fields : ℕ) : Type 0 where
  pub length_of : ℕ
  pub end : head_end text ≡ Some length_of
  pub behind : length_of + length rest ≡ length text
  pub begun : begun_fields text ≡ fields

pub head_of_lines : (es : List LineEnd) (word : List ℕ) (fs : List Field) (last : LineEnd) (rest : List ℕ) → IsOneLine word → Stops is_newline word → All IsField fs
    → HeadEnds (print_blank es ++ (word ++ 10 ∷ (print_section fs last ++ rest))) rest (length fs)
unfolding head_end begun_fields
head_of_lines es word fs last rest one stops all =
    let blank = blank_lines es (word ++ 10 ∷ (print_section fs last ++ rest)) in
    let cut = lines_of_line word (print_section fs last ++ rest) one in
    let first = filled word stops in
    let section = section_has_fields fs last rest all in
    let to_end : length_to_end (lines (word ++ 10 ∷ (print_section fs last ++ rest))) ≡ Some (length (word ++ 10 ∷ []) + length (print_section fs last)) =
    ap length_to_end cut ∙ rw (first.0, section.end) refl in
    let others : after_first (lines (word ++ 10 ∷ (print_section fs last ++ rest))) ≡ lines (print_section fs last ++ rest) =
    ap after_first cut ∙ rw first.0 refl in record {
      length_of = length (print_blank es) + (length (word ++ 10 ∷ []) + length (print_section fs last));
      end = blank.0 ∙ ap (later (length (print_blank es))) to_end;
      behind = omega (arith, length-append (print_blank es) (word ++ 10 ∷ (print_section fs last ++ rest)), length-append word (10 ∷ (print_section fs last ++ rest)), length-append (print_section fs last) rest, length-append word (10 ∷ []));
      begun = ap field_count (blank.1 ∙ others) ∙ section.begun;
    }

-- ---- requests and responses

version_is_one_line : (minor : ℕ) → minor ≤ 1 → IsOneLine (print_version minor)
version_is_one_line minor small =
    (λ e. omega arith, (λ e. omega arith, (λ e. omega arith, (λ e. omega arith, (λ e. omega arith, (λ e. omega arith, (λ e. omega arith, (λ e. omega arith, tt))))))))

-- the first line without its line feed
abbrev request_word : RequestHead → List ℕ
request_word h = h.method ++ 32 ∷ (h.target ++ 32 ∷ (print_version h.minor ++ return_of h.line_end))

request_word_is_one_line : (text : List ℕ) (h : RequestHead) (rest : List ℕ) → ReadsRequest text h rest → IsOneLine (request_word h)
request_word_is_one_line text h rest reads =
    IsOneLine-append h.method _ (IsOneLine-from_pass is_token_byte h.method feed_is_no_token reads.0.method.1) (
      λ e. omega arith,
      IsOneLine-append h.target _ (IsOneLine-from_pass is_uri_byte h.target refl reads.0.target.1)
          (λ e. omega arith, IsOneLine-append (print_version h.minor) _ (version_is_one_line h.minor reads.0.minor) (return_is_one_line h.line_end)),
    )

request_text_is : (h : RequestHead) (rest : List ℕ) → print_request h ++ rest ≡ print_blank h.blank ++ (request_word h ++ 10 ∷ (print_section h.fields h.last ++ rest))
request_text_is h rest =
    rw print_end_is at (print_request-append h rest) ∙ sym (simp (append_assoc, cons-append))

-- a request head of the grammar ends at its first empty line behind the first line
pub request_ends : (text : List ℕ) (h : RequestHead) (rest : List ℕ) → ReadsRequest text h rest
    → (head_end text ≡ Some (length (print_request h))) × (begun_fields text ≡ length h.fields)
request_ends text h rest reads =
    let ends = head_of_lines h.blank (request_word h) h.fields h.last rest (request_word_is_one_line text h rest reads) (Stops_token h.method _ reads.0.method.0 reads.0.method.1) reads.0.fields in
    let whole = reads.1 ∙ request_text_is h rest in
    let same : ends.length_of ≡ length (print_request h) = omega (arith, ends.behind, ap length (request_text_is h rest), length-append (print_request h) rest) in
    (ap head_end whole ∙ ends.end ∙ ap (λ (n : ℕ). Some n) same, ap begun_fields whole ∙ ends.begun)

abbrev response_word : ResponseHead → List ℕ
response_word h = print_version h.minor ++ 32 ∷ (h.digits ++ (print_reason h.reason ++ return_of h.line_end))

reason_is_one_line : (reason : Option (List ℕ)) → AllPass is_value_byte (reason_phrase reason) → IsOneLine (print_reason reason)
reason_is_one_line None pass = tt
reason_is_one_line (Some phrase) pass = (λ e. omega arith, IsOneLine-from_pass is_value_byte phrase refl pass)

response_word_is_one_line : (text : List ℕ) (h : ResponseHead) (rest : List ℕ) → ReadsResponse text h rest → IsOneLine (response_word h)
response_word_is_one_line text h rest reads =
    IsOneLine-append (print_version h.minor) (32 ∷ (h.digits ++ (print_reason h.reason ++ return_of h.line_end))) (version_is_one_line h.minor reads.0.minor) (
      λ e. omega arith,
      IsOneLine-append h.digits _ (IsOneLine-from_pass is_ascii_digit h.digits refl reads.0.digits.1)
          (IsOneLine-append (print_reason h.reason) _ (reason_is_one_line h.reason reads.0.reason) (return_is_one_line h.line_end)),
    )

response_text_is : (h : ResponseHead) (rest : List ℕ) → print_response h ++ rest ≡ print_blank h.blank ++ (response_word h ++ 10 ∷ (print_section h.fields h.last ++ rest))
response_text_is h rest =
    rw print_end_is at (print_response-append h rest) ∙ sym (simp (append_assoc, cons-append))

-- a response head of the grammar ends at its first empty line behind the first line
pub response_ends : (text : List ℕ) (h : ResponseHead) (rest : List ℕ) → ReadsResponse text h rest
    → (head_end text ≡ Some (length (print_response h))) × (begun_fields text ≡ length h.fields)
response_ends text h rest reads =
    let ends = head_of_lines h.blank (response_word h) h.fields h.last rest (response_word_is_one_line text h rest reads) refl reads.0.fields in
    let whole = reads.1 ∙ response_text_is h rest in
    let same : ends.length_of ≡ length (print_response h) = omega (arith, ends.behind, ap length (response_text_is h rest), length-append (print_response h) rest) in
    (ap head_end whole ∙ ends.end ∙ ap (λ (n : ℕ). Some n) same, ap begun_fields whole ∙ ends.begun)
