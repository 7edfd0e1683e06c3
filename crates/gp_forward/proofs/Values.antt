-- The head that is written is one of the grammar of heads.
use Rattle.std.proofs.Common.{◌≡◌, ℕ, ◌^◌, ◌<◌, Bool, true, false, cond, List, [], ◌∷◌, ◌++◌, length, map, Option, Some, None, codes, refl, arith}
use Rattle.std.specs.Prelude.{All}
use Rattle.std.specs.List.{AllByRecursion, list_all}
use Rattle.std.specs.Option.{IfSome}
use Rattle.std.specs.Fmt.{decimal}
use Rattle.std.specs.Char.{digit_value}
use Rattle.std.specs.Str.Parse.{AllDigits}
use Rattle.std.proofs.lemmas.Bool.Decides.{nat_tests}
use Rattle.std.proofs.lemmas.Fmt.{decimal_is_IsNumeral}
use Rattle.std.proofs.lemmas.List.Elements.{All-nil, All-cons, All-head, All-tail, All-from_recursion}
use Rattle.std.proofs.lemmas.List.Sums.{AllPass-from_list_all}
use Rattle.http_header.specs.Token.{lowercase}
use Rattle.httparse.specs.Grammar.{AllPass, is_token_byte, is_uri_byte, is_value_byte, trim_ows}
use Rattle.gp_plain.specs.declared.item.Field.{Field}
use Rattle.gp_plain.specs.declared.http.Address.{Address}
use Rattle.gp_plain.specs.declared.http.Request.{Request}
use Rattle.gp_text.specs.Lists.{has_field}
use Rattle.gp_text.specs.Hops.{goes_on, going_on}
use Rattle.gp_head.specs.Targets.{IsSplit}
use Rattle.gp_head.specs.Writable.{IsFieldName, IsFieldValue, IsWritableField, AreWritable, IsWritableRequest, HeadLaw}
use Rattle.gp_forward.specs.Forwards.{field, close, host_fields, length_fields, sig_fields, last_field, added, forwarded_head, IsForwardable}

visible_digit : (c : ℕ) → digit_value c < 10 → is_uri_byte c ≡ true
visible_digit c h = grind (arith, nat_tests)

digits_by : (cs : List ℕ) → AllDigits 10 cs → AllByRecursion (λ b. is_uri_byte b ≡ true) cs
digits_by [] h = tt
digits_by (c ∷ cs) h = (visible_digit c h.0, digits_by cs h.1)

are_visible : (cs : List ℕ) → AllDigits 10 cs → AllPass is_uri_byte cs
are_visible cs h = All-from_recursion (λ b. is_uri_byte b ≡ true) cs (digits_by cs h)

-- nothing is a value of a field
pub nothing : IsFieldValue []
unfolding trim_ows
nothing = record { bytes = All-nil (λ b. is_value_byte b ≡ true); trimmed = refl }

number_behind : HeadLaw → (value : List ℕ) → IsFieldValue value → (n : ℕ) → n < 2 ^ 64 → IsFieldValue (value ++ decimal n)
number_behind law value stands n low =
    let numeral = (decimal_is_IsNumeral n low).0 in
    law.value value (decimal n) stands numeral.0 (are_visible (decimal n) numeral.1)

number_stands : HeadLaw → (n : ℕ) → n < 2 ^ 64 → IsFieldValue (decimal n)
number_stands law n low = number_behind law [] nothing n low

pub text_stands : HeadLaw → (text : List ℕ) → 0 < length text → list_all is_uri_byte text ≡ true → IsFieldValue text
text_stands law text some all = law.value [] text nothing some (AllPass-from_list_all is_uri_byte text all)

pub named_by : (name : List ℕ) → 0 < length name → list_all is_token_byte name ≡ true → lowercase name ≡ name → IsFieldName name
named_by name some all low = record { token = (some, AllPass-from_list_all is_token_byte name all); lowered = low }

host_name : IsFieldName (codes "host")
unfolding is_token_byte
host_name = named_by (codes "host") (omega arith) refl refl

length_name : IsFieldName (codes "content-length")
unfolding is_token_byte
length_name = named_by (codes "content-length") (omega arith) refl refl

connection_name : IsFieldName (codes "connection")
unfolding is_token_byte
connection_name = named_by (codes "connection") (omega arith) refl refl

sig_name : IsFieldName (codes "grip-sig")
unfolding is_token_byte
sig_name = named_by (codes "grip-sig") (omega arith) refl refl

last_name : IsFieldName (codes "grip-last")
unfolding is_token_byte
last_name = named_by (codes "grip-last") (omega arith) refl refl

close_stands : HeadLaw → IsWritableField close
close_stands law = record { name = connection_name; value = text_stands law (codes "close") (omega arith) refl }

host_stands : HeadLaw → (kept : List Field) (address : Address) → IsFieldValue address.host → address.port < 2 ^ 64 → AreWritable (host_fields kept address)
host_stands law kept address stands low = by_host (has_field (codes "host") kept)
  where
    colon : IsFieldValue (address.host ++ codes ":")
    colon = law.value address.host (codes ":") stands (omega arith) (AllPass-from_list_all is_uri_byte (codes ":") refl)

    by_host : (b : Bool) → AreWritable (cond b [] (field (codes "host") (address.host ++ codes ":" ++ decimal address.port) ∷ []))
    by_host true = All-nil IsWritableField
    by_host false = All-cons IsWritableField (field (codes "host") (address.host ++ codes ":" ++ decimal address.port)) [] (record { name = host_name; value = number_behind law (address.host ++ codes ":") colon address.port low }) (All-nil IsWritableField)

length_stands : HeadLaw → (body : Option (List ℕ)) → IfSome body (λ b. length b < 2 ^ 64) → AreWritable (length_fields body)
length_stands law None low = All-nil IsWritableField
length_stands law (Some body) low = All-cons IsWritableField (field (codes "content-length") (decimal (length body))) [] (record { name = length_name; value = number_stands law (length body) low }) (All-nil IsWritableField)

sig_stands : (sig : Option (List ℕ)) → IfSome sig IsFieldValue → AreWritable (sig_fields sig)
sig_stands None stands = All-nil IsWritableField
sig_stands (Some sig) stands = All-cons IsWritableField (field (codes "grip-sig") sig) [] (record { name = sig_name; value = stands }) (All-nil IsWritableField)

lasts_stand : (lasts : List (List ℕ)) → All IsFieldValue lasts → AreWritable (map last_field lasts)
lasts_stand [] stand = All-nil IsWritableField
lasts_stand (l ∷ lasts) stand = All-cons IsWritableField (last_field l) (map last_field lasts) (record { name = last_name; value = All-head IsFieldValue l lasts stand }) (lasts_stand lasts (All-tail IsFieldValue l lasts stand))

pub is_writable : HeadLaw → (request : Request) (path : List ℕ) (authority : Option (List ℕ)) (body : Option (List ℕ)) (address : Address) (sig : Option (List ℕ)) (lasts : List (List ℕ))
    → IsForwardable request address sig lasts → IsSplit request.target path authority → address.port < 2 ^ 64 → IfSome body (λ b. length b < 2 ^ 64)
    → IsWritableRequest (forwarded_head request path body address sig lasts)
is_writable law request path authority body address sig lasts can split port few = record {
  method = can.asks.method;
  target = law.target request.target path authority split;
  fields = law.added kept (added kept body address sig lasts) (law.dropped (goes_on request.fields) request.fields can.asks.fields)
      (law.added (host_fields kept address) (length_fields body ++ (close ∷ rest)) (host_stands law kept address can.host port)
      (law.added (length_fields body) (close ∷ rest) (length_stands law body few)
      (All-cons IsWritableField close rest (close_stands law)
      (law.added (sig_fields sig) (map last_field lasts) (sig_stands sig can.signed) (lasts_stand lasts can.told)))));
}
  where
    kept : List Field
    kept = going_on request.fields

    rest : List Field
    rest = sig_fields sig ++ map last_field lasts
