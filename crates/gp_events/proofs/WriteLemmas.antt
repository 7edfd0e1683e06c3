-- The size that is written, and that what is written spells the events.
use Rattle.std.proofs.Common.{◌≡◌, ℕ, zero, suc, eqb, ◌/◌, ◌%◌, ◌^◌, ◌<◌, ◌≤◌, true, false, List, [], ◌∷◌, ◌++◌, map, length, Option, Some, None, refl, sym, ap, ◌∙◌, append_assoc, length-append, arith, lit≤}
use Rattle.std.specs.Char.{digit_value, is_ascii_hexdigit}
use Rattle.std.specs.List.{list_all}
use Rattle.std.specs.Int.Digits.{digits_of, number_from_digits, AllBelowBase}
use Rattle.std.specs.Str.Parse.{digits_value}
use Rattle.std.proofs.lemmas.Bool.{ne_eqb}
use Rattle.std.proofs.lemmas.Bool.Decides.{nat_tests}
use Rattle.std.proofs.lemmas.List.{length-map, map-append}
use Rattle.std.proofs.lemmas.Int.Digits.{all_below_base_digits_of, digits_of_step, digits_value_is, length-digits_of-le, length-digits_of_step, number_digits_of}
use Rattle.gp_events.specs.declared.event.WsEvent.{WsEvent}
use Rattle.gp_events.specs.Spellings.{name_of, crlf, size_text, upper_digit, content_text, event_text, spell, IsSize, IsContentText, AreSpelled}

size_text-some : (n : ℕ) → 0 < n → size_text n ≡ map upper_digit (digits_of 16 n)
size_text-some zero some = absurd (omega arith)
size_text-some (suc n) some =
    let not_none : eqb (suc n) 0 ≡ false = ne_eqb (suc n) 0 (omega arith) in rw not_none refl

digits_more : (n : ℕ) → 0 < n → size_text n ≡ map upper_digit (digits_of 16 (n / 16)) ++ upper_digit (n % 16) ∷ []
digits_more n some = size_text-some n some ∙ ap (map upper_digit) (digits_of_step 16 n (lit≤ tt) some) ∙ map-append upper_digit (digits_of 16 (n / 16)) (n % 16 ∷ [])

-- the last digit of a size of several
pub size_text-more : (n : ℕ) → 16 ≤ n → size_text n ≡ size_text (n / 16) ++ upper_digit (n % 16) ∷ []
size_text-more n more =
    digits_more n (omega arith) ∙ ap (λ (ds : List ℕ). ds ++ upper_digit (n % 16) ∷ []) (sym (size_text-some (n / 16) (omega arith)))

-- a size of one digit
pub size_text-one : (n : ℕ) → n < 16 → size_text n ≡ upper_digit (n % 16) ∷ []
size_text-one zero less = refl
size_text-one (suc n) less =
    let none : suc n / 16 ≡ 0 = omega arith in
    digits_more (suc n) (omega arith) ∙ ap (λ (k : ℕ). map upper_digit (digits_of 16 k) ++ upper_digit (suc n % 16) ∷ []) none

pub added_more : (old front new : List ℕ) (n digit : ℕ) → 16 ≤ n → digit ≡ upper_digit (n % 16) → front ≡ old ++ size_text (n / 16) → new ≡ front ++ digit ∷ []
    → new ≡ old ++ size_text n
added_more old front new n digit more is front_is new_is =
    rw (new_is, front_is, is, size_text-more n more) (append_assoc old (size_text (n / 16)) (upper_digit (n % 16) ∷ []))

pub added_one : (old front new : List ℕ) (n digit : ℕ) → n < 16 → digit ≡ upper_digit (n % 16) → front ≡ old → new ≡ front ++ digit ∷ [] → new ≡ old ++ size_text n
added_one old front new n digit less is front_is new_is = rw (new_is, front_is, is, size_text-one n less) refl

-- ---- what is written is a spelling

upper_is_hex : (d : ℕ) → d < 16 → is_ascii_hexdigit (upper_digit d) ≡ true
upper_is_hex d below = grind (arith, nat_tests)

upper_value : (d : ℕ) → d < 16 → digit_value (upper_digit d) ≡ d
upper_value d below = grind (arith, nat_tests)

all_hex : (ds : List ℕ) → AllBelowBase 16 ds → list_all is_ascii_hexdigit (map upper_digit ds) ≡ true
all_hex [] below = refl
all_hex (d ∷ ds) below = rw (upper_is_hex d below.0) (all_hex ds below.1)

values_back : (ds : List ℕ) → AllBelowBase 16 ds → map digit_value (map upper_digit ds) ≡ ds
values_back [] below = refl
values_back (d ∷ ds) below = ap (λ (x : ℕ). x ∷ map digit_value (map upper_digit ds)) (upper_value d below.0) ∙ ap (λ (xs : List ℕ). d ∷ xs) (values_back ds below.1)

some_digits : (n : ℕ) → 0 < n → 0 < length (digits_of 16 n)
some_digits n some = omega (arith, length-digits_of_step 16 n (lit≤ tt) some)

-- a size below 16^8
pub size_is : (n : ℕ) → n < 16 ^ 8 → IsSize (size_text n) n
size_is zero small = record { some = omega arith; few = omega arith; hex = refl; size_is = refl }
size_is (suc n) small =
    let text : size_text (suc n) ≡ map upper_digit (digits_of 16 (suc n)) = size_text-some (suc n) (omega arith) in
    let below = all_below_base_digits_of 16 (suc n) (lit≤ tt) in
    record {
      some = rw text (omega (arith, some_digits (suc n) (omega arith), length-map (digits_of 16 (suc n)) upper_digit));
      few = rw text (omega (arith, length-digits_of-le 16 8 (suc n) (lit≤ tt) small, length-map (digits_of 16 (suc n)) upper_digit));
      hex = rw text (all_hex (digits_of 16 (suc n)) below);
      size_is =
          ap (digits_value 16) text ∙ digits_value_is 16 (map upper_digit (digits_of 16 (suc n)))
          ∙ ap (number_from_digits 16) (values_back (digits_of 16 (suc n)) below) ∙ number_digits_of 16 (suc n) (lit≤ tt);
    }

content_spelled : (content : Option (List ℕ)) → length (content_text content) ≤ 1048576 → IsContentText content (content_text content)
content_spelled None short = refl
content_spelled (Some content) short =
    let long : length content ≤ length (content_text (Some content)) =
    omega (arith, length-append (size_text (length content)) (crlf ++ (content ++ crlf)), length-append content crlf) in
    (size_text (length content), size_is (length content) (omega arith), refl)

pub events_spelled : (events : List WsEvent) → length (spell events) ≤ 1048576 → AreSpelled events (spell events)
events_spelled [] short = refl
events_spelled (event ∷ events) short =
    let all = length-append (event_text event) (spell events) in
    let one = length-append (name_of event.kind) (content_text event.content) in
    (event_text event, spell events, (content_text event.content, content_spelled event.content (omega arith), refl), events_spelled events (omega arith), refl)
