-- Which plan the head has that is written.
use Rattle.std.proofs.Common.{◌≡◌, ℕ, ◌^◌, ◌<◌, ◌≤◌, Bool, true, false, not, ◌&&◌, ◌||◌, cond, List, [], ◌∷◌, ◌++◌, length, filter, Option, Some, None, Result, Ok, Err, map, codes, refl, sym, ap, ◌∙◌, arith}
use Rattle.std.specs.List.{list_any, list_all}
use Rattle.std.specs.Str.{bytes_eq}
use Rattle.std.specs.Fmt.{decimal}
use Rattle.std.specs.Str.Parse.{digits_value, AllDigits}
use Rattle.std.proofs.lemmas.Bool.Decides.{nat_tests}
use Rattle.std.proofs.lemmas.Fmt.{decimal_is_IsNumeral, length-decimal-le}
use Rattle.std.proofs.lemmas.List.Elements.{filter-append}
use Rattle.std.proofs.lemmas.List.Folds.{list_any-append}
use Rattle.std.proofs.lemmas.Map.Views.{any-filter_same}
use Rattle.std.proofs.lemmas.Slice.Eq.{bytes_eq-Decides}
use Rattle.gp_plain.specs.declared.item.Field.{Field}
use Rattle.gp_plain.specs.declared.http.Address.{Address}
use Rattle.gp_plain.specs.declared.http.Request.{Request}
use Rattle.gp_body.specs.declared.plan.BodyPlan.{BodyPlan}
use Rattle.gp_body.specs.declared.plan.BodyFault.{BodyFault}
use Rattle.gp_body.specs.declared.plan.BodyFault.TheVariants.{Both, Length as BadLength}
use Rattle.gp_body.specs.declared.plan.BodyPlan.TheVariants.{None as NoBody, Length}
use Rattle.gp_body.specs.Plans.{content_length, transfer_encoding, is_named, named, has, is_count, is_part, says, trimmed, first_part, coding_plan, length_plan, plan_of_request}
use Rattle.gp_text.specs.Hops.{goes_on, going_on, is_hop, is_own}
use Rattle.gp_text.specs.Lists.{has_field, has_part}
use Rattle.gp_forward.specs.Forwards.{field, close, host_fields, length_fields, sig_fields, last_field, added, forwarded_fields, forwarded_head}
use Rattle.gp_forward.specs.Alone.{IsPlanned}
use Rattle.gp_forward.proofs.Digits.{trimmed_same, one_part, before_same, all_digits}

name_is : (name : List ℕ) (f : Field) → is_named name f ≡ true → f.name ≡ name
name_is name f e = (bytes_eq-Decides f.name name).0 e

abbrev stays : List Field → List ℕ → Bool
stays fields name = not (is_hop name || (is_own name || has_part (codes "connection") name fields))

-- no field that is dropped is left among those that go on
coding_dropped : (fields : List Field) (f : Field) → is_named transfer_encoding f ≡ true → goes_on fields f ≡ false
coding_dropped fields f e = ap (stays fields) (name_is transfer_encoding f e)

length_dropped : (fields : List Field) (f : Field) → is_named content_length f ≡ true → goes_on fields f ≡ false
length_dropped fields f e = ap (stays fields) (name_is content_length f e)

no_coding : (fields : List Field) → has transfer_encoding (going_on fields) ≡ false
no_coding fields = any-filter_same (is_named transfer_encoding) (goes_on fields) false (coding_dropped fields) fields

no_length : (fields : List Field) → has content_length (going_on fields) ≡ false
no_length fields = any-filter_same (is_named content_length) (goes_on fields) false (length_dropped fields) fields

none_passes : (p : Field → Bool) (fs : List Field) → list_any p fs ≡ false → filter p fs ≡ []
none_passes p [] e = refl
none_passes p (f ∷ fs) e = grind (arith, none_passes p fs)

-- the fields that are added have no coding, and the length of the body alone
lasts_have_none : (p : Field → Bool) → ((v : List ℕ) → p (last_field v) ≡ false) → (lasts : List (List ℕ)) → list_any p (map last_field lasts) ≡ false
lasts_have_none p absent [] = refl
lasts_have_none p absent (l ∷ lasts) = ap (λ b. b || list_any p (map last_field lasts)) (absent l) ∙ lasts_have_none p absent lasts

sig_has_none : (p : Field → Bool) → ((v : List ℕ) → p (field (codes "grip-sig") v) ≡ false) → (sig : Option (List ℕ)) → list_any p (sig_fields sig) ≡ false
sig_has_none p absent None = refl
sig_has_none p absent (Some v) = ap (λ b. b || false) (absent v)

host_has_none : (p : Field → Bool) → ((v : List ℕ) → p (field (codes "host") v) ≡ false) → (kept : List Field) (address : Address) → list_any p (host_fields kept address) ≡ false
host_has_none p absent kept address = by_host (has_field (codes "host") kept) _
  where
    by_host : (b : Bool) (v : List ℕ) → list_any p (cond b [] (field (codes "host") v ∷ [])) ≡ false
    by_host true v = refl
    by_host false v = ap (λ b. b || false) (absent v)

no_coding_in_length : (body : Option (List ℕ)) → has transfer_encoding (length_fields body) ≡ false
no_coding_in_length None = refl
no_coding_in_length (Some body) = refl

or_false : (a b : Bool) → a ≡ false → b ≡ false → (a || b) ≡ false
or_false true b e f = e
or_false false b e f = f

joined : (p : Field → Bool) (xs ys : List Field) → list_any p xs ≡ false → list_any p ys ≡ false → list_any p (xs ++ ys) ≡ false
joined p xs ys e f = list_any-append p xs ys ∙ or_false (list_any p xs) (list_any p ys) e f

pub coding_is_gone : (fields : List Field) (body : Option (List ℕ)) (address : Address) (sig : Option (List ℕ)) (lasts : List (List ℕ)) → has transfer_encoding (forwarded_fields fields body address sig lasts) ≡ false
coding_is_gone fields body address sig lasts =
    let p = is_named transfer_encoding in
    joined p (going_on fields) (added (going_on fields) body address sig lasts) (no_coding fields)
    (joined p (host_fields (going_on fields) address) (length_fields body ++ (close ∷ (sig_fields sig ++ map last_field lasts))) (host_has_none p (λ v. refl) (going_on fields) address)
    (joined p (length_fields body) (close ∷ (sig_fields sig ++ map last_field lasts)) (no_coding_in_length body)
    (joined p (sig_fields sig) (map last_field lasts) (sig_has_none p (λ v. refl) sig) (lasts_have_none p (λ v. refl) lasts))))

-- the fields that tell a length are those that were added for the body
pub lengths_are : (fields : List Field) (body : Option (List ℕ)) (address : Address) (sig : Option (List ℕ)) (lasts : List (List ℕ)) → named content_length (forwarded_fields fields body address sig lasts) ≡ length_fields body
lengths_are fields body address sig lasts =
    let p = is_named content_length in
    let rest = sig_fields sig ++ map last_field lasts in
    let behind = none_passes p rest (joined p (sig_fields sig) (map last_field lasts) (sig_has_none p (λ v. refl) sig) (lasts_have_none p (λ v. refl) lasts)) in
    let front = none_passes p (going_on fields) (no_length fields) in
    let host = none_passes p (host_fields (going_on fields) address) (host_has_none p (λ v. refl) (going_on fields) address) in
    filter-append p (going_on fields) (added (going_on fields) body address sig lasts)
    ∙ ap (λ x. x ++ filter p (added (going_on fields) body address sig lasts)) front
    ∙ filter-append p (host_fields (going_on fields) address) (length_fields body ++ (close ∷ rest))
    ∙ ap (λ x. x ++ filter p (length_fields body ++ (close ∷ rest))) host
    ∙ told body rest behind
  where
    told : (body : Option (List ℕ)) (rest : List Field) → filter (is_named content_length) rest ≡ [] → filter (is_named content_length) (length_fields body ++ (close ∷ rest)) ≡ length_fields body
    told None rest e = e
    told (Some body) rest e = ap (λ x. field (codes "content-length") (decimal (length body)) ∷ x) e

has_some : (fs : List Field) (f : Field) → named content_length fs ≡ f ∷ [] → has content_length fs ≡ true
has_some fs f e = by_has (has content_length fs) refl
  where
    by_has : (b : Bool) → has content_length fs ≡ b → has content_length fs ≡ true
    by_has true h = h
    by_has false h = let none = none_passes (is_named content_length) fs h in grind (arith, sym e ∙ none)

has_none : (fs : List Field) → named content_length fs ≡ [] → has content_length fs ≡ false
has_none [] e = refl
has_none (g ∷ gs) e = grind (arith, has_none gs)

-- a text of digits that are a number
record IsNumberText (d : List ℕ) (n : ℕ) : Type 0 where
  pub some : 0 < length d
  pub few : length d ≤ 18
  pub digits : AllDigits 10 d
  pub value : digits_value 10 d ≡ n

written : (n : ℕ) → n < 10 ^ 18 → IsNumberText (decimal n) n
written n low =
    let numeral = decimal_is_IsNumeral n (omega (arith, low)) in
    record { some = numeral.0.0; few = length-decimal-le 18 n (omega arith) low (omega (arith, low)); digits = numeral.0.1; value = numeral.1 }

counted : (d : List ℕ) (n : ℕ) → IsNumberText d n → is_count d ≡ true
counted d n number =
    let digits = all_digits d number.digits in
    let some = number.some in
    let few = number.few in
    grind (arith, nat_tests)

says_itself : (d : List ℕ) (n : ℕ) → IsNumberText d n → says d (field (codes "content-length") d) ≡ true
says_itself d n number =
    ap (λ parts. list_all (is_part d) parts) (one_part d number.digits)
    ∙ ap (λ b. b && true) (ap (λ t. bytes_eq t d) (trimmed_same d number.digits) ∙ (bytes_eq-Decides d d).1 refl)

abbrev plan_of : List Field → Result BodyPlan BodyFault
plan_of xs = let digits = first_part xs in cond (is_count digits && list_all (says digits) xs) (Ok (Length (digits_value 10 digits))) (Err BadLength)

abbrev plan_with : Field → List ℕ → Result BodyPlan BodyFault
plan_with f digits = cond (is_count digits && (says digits f && true)) (Ok (Length (digits_value 10 digits))) (Err BadLength)

abbrev plan_when : Bool → Bool → ℕ → Result BodyPlan BodyFault
plan_when a b v = cond (a && (b && true)) (Ok (Length v)) (Err BadLength)

number_plan : (d : List ℕ) (n : ℕ) → IsNumberText d n → (fs : List Field) → named content_length fs ≡ field (codes "content-length") d ∷ [] → length_plan fs ≡ Ok (Length n)
number_plan d n number fs e =
    let f = field (codes "content-length") d in
    ap plan_of e
    ∙ ap (plan_with f) (ap trimmed (before_same d number.digits) ∙ trimmed_same d number.digits)
    ∙ ap (λ a. plan_when a (says d f) (digits_value 10 d)) (counted d n number)
    ∙ ap (λ b. plan_when true b (digits_value 10 d)) (says_itself d n number)
    ∙ ap (λ v. plan_when true true v) number.value

abbrev plan_by : Bool → Bool → List Field → ℕ → Result BodyPlan BodyFault
plan_by coded sized fs version = cond coded (cond sized (Err Both) (coding_plan fs version)) (cond sized (length_plan fs) (Ok NoBody))

pub is_planned : (request : Request) (path : List ℕ) (body : Option (List ℕ)) (address : Address) (sig : Option (List ℕ)) (lasts : List (List ℕ)) → IsPlanned (forwarded_head request path body address sig lasts) body
unfolding plan_of_request
is_planned request path None address sig lasts =
    let fs = forwarded_fields request.fields None address sig lasts in
    ap (λ a. plan_by a (has content_length fs) fs 1) (coding_is_gone request.fields None address sig lasts)
    ∙ ap (λ b. plan_by false b fs 1) (has_none fs (lengths_are request.fields None address sig lasts))
is_planned request path (Some body) address sig lasts = λ low.
    let fs = forwarded_fields request.fields (Some body) address sig lasts in
    let lengths = lengths_are request.fields (Some body) address sig lasts in
    ap (λ a. plan_by a (has content_length fs) fs 1) (coding_is_gone request.fields (Some body) address sig lasts)
    ∙ ap (λ b. plan_by false b fs 1) (has_some fs (field (codes "content-length") (decimal (length body))) lengths)
    ∙ number_plan (decimal (length body)) (length body) (written (length body) low) fs lengths
