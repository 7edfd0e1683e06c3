-- A head that was read can be written, and one that can be written is read again from its text.
use Rattle.std.proofs.Common.{◌≡◌, ℕ, ◌+◌, ◌-◌, ◌/◌, ◌%◌, ◌<◌, ◌≤◌, Bool, true, false, List, [], ◌∷◌, ◌++◌, length, take, map, reverse, Some, refl, sym, ap, ◌∙◌, subst, arith, append_assoc, append-nil, take_all}
use Rattle.std.specs.Prelude.{All}
use Rattle.std.specs.List.{flat_map}
use Rattle.std.specs.Char.{is_ascii_digit, digit_value, to_ascii_lowercase}
use Rattle.std.specs.Str.Parse.{digits_value}
use Rattle.std.proofs.lemmas.Bool.{cond-true, cond-false}
use Rattle.std.proofs.lemmas.Bool.Decides.{nat_tests}
use Rattle.std.proofs.lemmas.List.{reverse-append, reverse-reverse, length-map}
use Rattle.std.proofs.lemmas.List.Elements.{All-nil, All-cons, All-head, All-tail, All-map, All-weaker}
use Rattle.httparse.specs.Grammar.{AllPass, IsToken, is_value_byte, is_ows, skip_ows, trim_ows, crlf, Field as Line, IsField, print_field, print_section, RequestHead, print_request, ReadsRequest, ResponseHead, print_response, ReadsResponse}
use Rattle.httparse.proofs.TrimLemmas.{trim_ows_space, AllPass-trim_ows}
use Rattle.httparse.proofs.GrammarLemmas.{print_request-append, print_response-append, cons-append}
use Rattle.http_header.specs.Token.{lowercase, is_token_byte as header_token}
use Rattle.http_header.proofs.TokenLemmas.{lowercase-lowercase_lem, is_token_byte-to_ascii_lowercase}
use Rattle.gp_plain.specs.declared.item.Field.{Field}
use Rattle.gp_plain.specs.declared.http.Request.{Request}
use Rattle.gp_plain.specs.declared.http.Response.{Response}
use Rattle.gp_head.specs.declared.read.HeadRead.TheVariants.{Whole}
use Rattle.gp_head.specs.Lines.{begun_fields, head_end}
use Rattle.gp_head.specs.Heads.{field_of, request_of, response_of, IsRequestText, IsResponseText, IsRead}
use Rattle.gp_head.specs.Texts.{field_text, fields_text, code_text, request_text, response_text, IsReadAgain}
use Rattle.gp_head.specs.Writable.{IsWritableField, AreWritable, IsWritableRequest, IsWritableResponse, IsReadBack}
use Rattle.gp_head.proofs.SettledLemmas.{settled}
use Rattle.gp_head.proofs.ExtentLemmas.{extent_ends, is_head_text}
use Rattle.gp_head.proofs.GrammarEnds.{request_ends, response_ends}
use Rattle.gp_head.proofs.ByteClasses.{IsToken-to_header, IsToken-from_header}

-- ---- values without blanks at their ends

-- the first byte, if there is one, is no blank
abbrev pub StartsFilled : List ℕ → Type 0
StartsFilled [] = Unit {0}
StartsFilled (b ∷ bs) = is_ows b ≡ false

skipped : (xs : List ℕ) → StartsFilled (skip_ows xs)
skipped [] = tt
skipped (b ∷ bs) = by_test (skipped bs) (is_ows b) refl
  where
    by_test : StartsFilled (skip_ows bs) → (t : Bool) → is_ows b ≡ t → StartsFilled (skip_ows (b ∷ bs))
    by_test behind true blank = rw blank behind
    by_test behind false other = rw other other

pub not_skipped : (xs : List ℕ) → StartsFilled xs → skip_ows xs ≡ xs
not_skipped [] filled = refl
not_skipped (b ∷ bs) filled = rw filled refl

StartsFilled-front : (xs ys : List ℕ) → StartsFilled (xs ++ ys) → StartsFilled xs
StartsFilled-front [] ys filled = tt
StartsFilled-front (b ∷ xs) ys filled = filled

-- what is skipped stands before what is left
skip_splits : (xs : List ℕ) → (blanks : List ℕ) × (xs ≡ blanks ++ skip_ows xs)
skip_splits [] = ([], refl)
skip_splits (b ∷ bs) = by_test (skip_splits bs) (is_ows b) refl
  where
    by_test : (blanks : List ℕ) × (bs ≡ blanks ++ skip_ows bs) → (t : Bool) → is_ows b ≡ t → (blanks : List ℕ) × (b ∷ bs ≡ blanks ++ skip_ows (b ∷ bs))
    by_test behind true blank = (b ∷ behind.0, ap (λ (l : List ℕ). b ∷ l) behind.1 ∙ ap (λ (l : List ℕ). b ∷ (behind.0 ++ l)) (sym (cond-true (is_ows b) (skip_ows bs) (b ∷ bs) blank)))
    by_test behind false other = ([], sym (cond-false (is_ows b) (skip_ows bs) (b ∷ bs) other))

-- a value is written behind a space, and comes back
pub trim_again : (raw : List ℕ) → trim_ows (32 ∷ trim_ows raw) ≡ trim_ows raw
unfolding trim_ows
trim_again raw =
    let front = skip_ows raw in
    let back = skip_ows (reverse front) in
    let split = skip_splits (reverse front) in
    let whole : front ≡ reverse back ++ reverse split.0 =
    sym (reverse-reverse front) ∙ ap reverse split.1 ∙ reverse-append split.0 back in
    let first : StartsFilled (reverse back) = StartsFilled-front (reverse back) (reverse split.0) (subst StartsFilled whole (skipped raw)) in
    let last : skip_ows (reverse (reverse back)) ≡ reverse (reverse back) =
    ap skip_ows (reverse-reverse back) ∙ not_skipped back (skipped (reverse front)) ∙ sym (reverse-reverse back) in
    trim_ows_space (reverse back) (not_skipped (reverse back) first) last

pub starts_filled : (raw : List ℕ) → StartsFilled (trim_ows raw)
unfolding trim_ows
starts_filled raw =
    let front = skip_ows raw in
    let back = skip_ows (reverse front) in
    let split = skip_splits (reverse front) in
    let whole : front ≡ reverse back ++ reverse split.0 =
    sym (reverse-reverse front) ∙ ap reverse split.1 ∙ reverse-append split.0 back in
    StartsFilled-front (reverse back) (reverse split.0) (subst StartsFilled whole (skipped raw))

-- what is trimmed is trimmed
pub trim_twice : (raw : List ℕ) → trim_ows (trim_ows raw) ≡ trim_ows raw
unfolding trim_ows
trim_twice raw =
    let front = skip_ows raw in
    let back = skip_ows (reverse front) in
    let split = skip_splits (reverse front) in
    let whole : front ≡ reverse back ++ reverse split.0 =
    sym (reverse-reverse front) ∙ ap reverse split.1 ∙ reverse-append split.0 back in
    let first : StartsFilled (reverse back) = StartsFilled-front (reverse back) (reverse split.0) (subst StartsFilled whole (skipped raw)) in
    ap (λ (l : List ℕ). reverse (skip_ows (reverse l))) (not_skipped (reverse back) first)
    ∙ ap (λ (l : List ℕ). reverse (skip_ows l)) (reverse-reverse back) ∙ ap reverse (not_skipped back (skipped (reverse front)))

-- ---- fields

lower_token : (name : List ℕ) → IsToken name → IsToken (lowercase name)
lower_token name token =
    let known = IsToken-to_header name token in
    let same = length-map name to_ascii_lowercase in
    IsToken-from_header (lowercase name)
    (omega (arith, known.0), All-map (λ (b : ℕ). header_token b ≡ true) to_ascii_lowercase name (All-weaker (λ (b : ℕ). header_token b ≡ true) (λ (b : ℕ). header_token (to_ascii_lowercase b) ≡ true) is_token_byte-to_ascii_lowercase name known.1))

-- a field that was read can be written
field_is_writable : (f : Line) → IsField f → IsWritableField (field_of f)
field_is_writable f field = record {
  name = record { token = lower_token f.name field.name; lowered = lowercase-lowercase_lem f.name };
  value = record { bytes = AllPass-trim_ows is_value_byte f.raw field.raw; trimmed = trim_twice f.raw };
}

fields_are_writable : (fs : List Line) → All IsField fs → AreWritable (map field_of fs)
fields_are_writable [] all = All-nil IsWritableField
fields_are_writable (f ∷ fs) all =
    All-cons IsWritableField (field_of f) (map field_of fs) (field_is_writable f (All-head IsField f fs all)) (fields_are_writable fs (All-tail IsField f fs all))

-- a field line as it is written
abbrev line_of : Field → Line
line_of f = record { name = f.name; raw = 32 ∷ f.value; end = crlf }

line_is_field : (f : Field) → IsWritableField f → IsField (line_of f)
line_is_field f is = record { name = is.name.token; raw = All-cons (λ (b : ℕ). is_value_byte b ≡ true) 32 f.value refl is.value.bytes }

lines_are_fields : (fs : List Field) → AreWritable fs → All IsField (map line_of fs)
lines_are_fields [] all = All-nil IsField
lines_are_fields (f ∷ fs) all =
    All-cons IsField (line_of f) (map line_of fs) (line_is_field f (All-head IsWritableField f fs all)) (lines_are_fields fs (All-tail IsWritableField f fs all))

-- it is the same field
same_field : (f : Field) → IsWritableField f → field_of (line_of f) ≡ f
same_field f is =
    let value : trim_ows (32 ∷ f.value) ≡ f.value = ap (λ (v : List ℕ). trim_ows (32 ∷ v)) (sym is.value.trimmed) ∙ trim_again f.value ∙ is.value.trimmed in
    λ i. record { name = is.name.lowered i; value = value i }

same_fields : (fs : List Field) → AreWritable fs → map field_of (map line_of fs) ≡ fs
same_fields [] all = refl
same_fields (f ∷ fs) all =
    let first = same_field f (All-head IsWritableField f fs all) in
    let others = same_fields fs (All-tail IsWritableField f fs all) in
    λ i. first i ∷ others i

-- and its text is what is written
line_text : (f : Field) → print_field (line_of f) ≡ field_text f
line_text f = simp (append_assoc, cons-append)

line_texts : (fs : List Field) → flat_map print_field (map line_of fs) ≡ flat_map field_text fs
line_texts [] = refl
line_texts (f ∷ fs) = λ i. line_text f i ++ line_texts fs i

section_text : (fs : List Field) → print_section (map line_of fs) crlf ≡ fields_text fs
section_text fs = ap (λ (t : List ℕ). t ++ 13 ∷ 10 ∷ []) (line_texts fs)

-- the text of a head, within the limits, is that head, whatever follows
read_back : {T : Type 0} (IsText : List ℕ → T → Type 0) (text : List ℕ) (head : T) → head_end text ≡ Some (length text) → begun_fields text ≤ 64
    → length text ≤ 16384 → IsText text head → IsReadBack IsText head text
read_back IsText text head ends few short is =
    let front : take 16384 text ≡ text = take_all 16384 text short in
    let all : take (length text) text ≡ text = take_all (length text) text (omega arith) in
    settled IsText text (Whole head (length text)) (
      extent_ends text (length text) (omega (arith, ap begun_fields front, few)) (ap head_end front ∙ ends),
      subst (λ (t : List ℕ). IsText t head) (sym all) is,
    )

-- ---- requests

pub request_is_writable : (bytes : List ℕ) (head : Request) (n : ℕ) → IsRead IsRequestText bytes (Whole head n) → IsWritableRequest head × (length head.fields ≤ 64)
request_is_writable bytes head n read =
    let h = read.1.0 in
    let few = (is_head_text bytes n (sym read.0)).few in
    let fields = (request_ends (take n bytes) h [] read.1.1).1 in
    let writable : IsWritableRequest (request_of h) = record {
      method = read.1.1.0.method;
      target = record { some = read.1.1.0.target.0; bytes = read.1.1.0.target.1; text = read.1.1.0.target_text };
      fields = fields_are_writable h.fields read.1.1.0.fields;
    } in
    let count : length (request_of h).fields ≤ 64 = omega (arith, fields, few, length-map h.fields field_of) in
    subst (λ (r : Request). IsWritableRequest r × (length r.fields ≤ 64)) (sym read.1.2) (writable, count)

-- a head as it is written
abbrev written_request : Request → RequestHead
written_request r = record {
  blank = [];
  method = r.method;
  target = r.target;
  minor = 1;
  line_end = crlf;
  fields = map line_of r.fields;
  last = crlf;
}

written_request_text : (r : Request) → print_request (written_request r) ≡ request_text r
written_request_text r =
    sym (append-nil (print_request (written_request r))) ∙ print_request-append (written_request r) []
    ∙ ap (λ (t : List ℕ). r.method ++ 32 ∷ (r.target ++ 32 ∷ 72 ∷ 84 ∷ 84 ∷ 80 ∷ 47 ∷ 49 ∷ 46 ∷ 49 ∷ 13 ∷ 10 ∷ t)) (append-nil (print_section (map line_of r.fields) crlf) ∙ section_text r.fields)
    ∙ sym (simp (append_assoc, cons-append))

pub request_is_read_back : (head : Request) → IsWritableRequest head → head.version ≡ 1 → length head.fields ≤ 64 → length (request_text head) ≤ 16384 → IsReadBack IsRequestText head (request_text head)
request_is_read_back head is version few short =
    let text = request_text head in
    let printed : text ≡ print_request (written_request head) = sym (written_request_text head) in
    let reads : ReadsRequest text (written_request head) [] = (
      record {
        method = is.method;
        target = (is.target.some, is.target.bytes);
        target_text = is.target.text;
        minor = omega arith;
        fields = lines_are_fields head.fields is.fields;
      },
      printed ∙ sym (append-nil (print_request (written_request head))),
    ) in
    let ends = request_ends text (written_request head) [] reads in
    let same = same_fields head.fields is.fields in
    let again : head ≡ request_of (written_request head) =
    λ i. record { method = head.method; target = head.target; version = version i; fields = sym same i } in
    read_back IsRequestText text head (ends.0 ∙ ap (λ (t : List ℕ). Some (length t)) (sym printed))
    (omega (arith, ends.1, few, length-map head.fields line_of)) short (written_request head, reads, again)

pub request_is_read_again : (head : Request) (text : List ℕ) → text ≡ request_text head → IsReadAgain IsRequestText (λ (r : Request). r.version) head text
request_is_read_again head text is bytes n read version short =
    let known = request_is_writable bytes head n read in
    let back = request_is_read_back head known.0 version known.1 (omega (arith, ap length is, short)) [] in
    let whole : request_text head ++ [] ≡ text = append-nil (request_text head) ∙ sym is in
    let ends : IsRead IsRequestText text (Whole head (length (request_text head))) = subst (λ (t : List ℕ). IsRead IsRequestText t (Whole head (length (request_text head)))) whole back in
    subst (λ (k : ℕ). IsRead IsRequestText text (Whole head k)) (ap length (sym is)) ends

-- ---- responses

-- a digit, and its value
record IsDigit (d : ℕ) : Type 0 where
  low : 48 ≤ d
  high : d ≤ 57
  value : digit_value d ≡ d - 48

is_digit : (d : ℕ) → is_ascii_digit d ≡ true → IsDigit d
is_digit d digit = record { low = grind (arith, nat_tests); high = grind (arith, nat_tests); value = grind (arith, nat_tests) }

digit_of : (k : ℕ) → k < 10 → (is_ascii_digit (48 + k) ≡ true) × (digit_value (48 + k) ≡ k)
digit_of k low = (grind (arith, nat_tests), grind (arith, nat_tests))

-- three digits write less than 1,000
three_digits : (ds : List ℕ) → length ds ≡ 3 → AllPass is_ascii_digit ds → digits_value 10 ds < 1000
three_digits [] three all = absurd (omega arith)
three_digits (a ∷ []) three all = absurd (omega arith)
three_digits (a ∷ b ∷ []) three all = absurd (omega arith)
three_digits (a ∷ b ∷ c ∷ []) three all =
    let da = is_digit a (all 0 0 (omega arith)) in
    let db = is_digit b (all 1 0 (omega arith)) in
    let dc = is_digit c (all 2 0 (omega arith)) in
    omega (arith, da.low, da.high, da.value, db.low, db.high, db.value, dc.low, dc.high, dc.value)
three_digits (a ∷ b ∷ c ∷ d ∷ ds) three all = absurd (omega arith)

-- a code of at most three digits is written by its digits
record IsCodeText (code : ℕ) : Type 0 where
  three : length (code_text code) ≡ 3
  digits : AllPass is_ascii_digit (code_text code)
  value : digits_value 10 (code_text code) ≡ code

is_code_text : (code : ℕ) → code < 1000 → IsCodeText code
is_code_text code low =
    let x = (code / 100) % 10 in
    let y = (code / 10) % 10 in
    let z = code % 10 in
    let dx = digit_of x (omega arith) in
    let dy = digit_of y (omega arith) in
    let dz = digit_of z (omega arith) in
    let P : ℕ → Type 0 = λ b. is_ascii_digit b ≡ true in
    record {
      three = refl;
      digits = All-cons P (48 + x) ((48 + y) ∷ (48 + z) ∷ []) dx.0 (All-cons P (48 + y) ((48 + z) ∷ []) dy.0 (All-cons P (48 + z) [] dz.0 (All-nil P)));
      value = omega (arith, dx.1, dy.1, dz.1, low);
    }

pub response_is_writable : (bytes : List ℕ) (head : Response) (n : ℕ) → IsRead IsResponseText bytes (Whole head n) → IsWritableResponse head × (length head.fields ≤ 64)
response_is_writable bytes head n read =
    let h = read.1.0 in
    let few = (is_head_text bytes n (sym read.0)).few in
    let fields = (response_ends (take n bytes) h [] read.1.1).1 in
    let writable : IsWritableResponse (response_of h) = record {
      code = three_digits h.digits read.1.1.0.digits.0 read.1.1.0.digits.1;
      reason = read.1.1.0.reason;
      fields = fields_are_writable h.fields read.1.1.0.fields;
    } in
    let count : length (response_of h).fields ≤ 64 = omega (arith, fields, few, length-map h.fields field_of) in
    subst (λ (r : Response). IsWritableResponse r × (length r.fields ≤ 64)) (sym read.1.2) (writable, count)

abbrev written_response : Response → ResponseHead
written_response r = record {
  blank = [];
  minor = 1;
  digits = code_text r.code;
  reason = Some r.reason;
  line_end = crlf;
  fields = map line_of r.fields;
  last = crlf;
}

written_response_text : (r : Response) → print_response (written_response r) ≡ response_text r
written_response_text r =
    sym (append-nil (print_response (written_response r))) ∙ print_response-append (written_response r) []
    ∙ ap (λ (t : List ℕ). 72 ∷ 84 ∷ 84 ∷ 80 ∷ 47 ∷ 49 ∷ 46 ∷ 49 ∷ 32 ∷ (code_text r.code ++ 32 ∷ (r.reason ++ 13 ∷ 10 ∷ t))) (append-nil (print_section (map line_of r.fields) crlf) ∙ section_text r.fields)
    ∙ sym (simp (append_assoc, cons-append))

pub response_is_read_back : (head : Response) → IsWritableResponse head → head.version ≡ 1 → length head.fields ≤ 64 → length (response_text head) ≤ 16384 → IsReadBack IsResponseText head (response_text head)
response_is_read_back head is version few short =
    let text = response_text head in
    let printed : text ≡ print_response (written_response head) = sym (written_response_text head) in
    let code = is_code_text head.code is.code in
    let reads : ReadsResponse text (written_response head) [] = (
      record {
        minor = omega arith;
        digits = (code.three, code.digits);
        reason = is.reason;
        fields = lines_are_fields head.fields is.fields;
      },
      printed ∙ sym (append-nil (print_response (written_response head))),
    ) in
    let ends = response_ends text (written_response head) [] reads in
    let same = same_fields head.fields is.fields in
    let value = code.value in
    let again : head ≡ response_of (written_response head) =
    λ i. record { version = version i; code = sym value i; reason = head.reason; fields = sym same i } in
    read_back IsResponseText text head (ends.0 ∙ ap (λ (t : List ℕ). Some (length t)) (sym printed))
    (omega (arith, ends.1, few, length-map head.fields line_of)) short (written_response head, reads, again)

pub response_is_read_again : (head : Response) (text : List ℕ) → text ≡ response_text head → IsReadAgain IsResponseText (λ (r : Response). r.version) head text
response_is_read_again head text is bytes n read version short =
    let known = response_is_writable bytes head n read in
    let back = response_is_read_back head known.0 version known.1 (omega (arith, ap length is, short)) [] in
    let whole : response_text head ++ [] ≡ text = append-nil (response_text head) ∙ sym is in
    let ends : IsRead IsResponseText text (Whole head (length (response_text head))) = subst (λ (t : List ℕ). IsRead IsResponseText t (Whole head (length (response_text head)))) whole back in
    subst (λ (k : ℕ). IsRead IsResponseText text (Whole head k)) (ap length (sym is)) ends
