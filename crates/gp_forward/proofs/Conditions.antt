-- What meets the condition of a request that is forwarded.
use Rattle.std.proofs.Common.{◌≡◌, ℕ, ◌+◌, ◌-◌, ◌<◌, Bool, true, false, ◌&&◌, eqb, List, [], ◌∷◌, ◌++◌, length, get_or, reverse, codes, suc, not, ◌||◌, eq-eqb, filter, refl, sym, ap, ◌∙◌, subst, arith, length-append, inl, inr, Option, Some, None}
use Rattle.std.specs.List.{list_all}
use Rattle.std.proofs.lemmas.Bool.Decides.{nat_tests}
use Rattle.std.proofs.lemmas.List.{reverse-append, reverse-reverse, length-reverse, get_or-reverse}
use Rattle.std.proofs.lemmas.List.Elements.{All-nil, All-cons, All-append}
use Rattle.std.proofs.lemmas.List.Sums.{AllPass-from_list_all}
use Rattle.httparse.specs.Grammar.{AllPass, IsToken, is_uri_byte, is_value_byte, is_token_byte, is_ows, skip_ows, trim_ows}
use Rattle.gp_plain.specs.Names.{IsName, is_barred}
use Rattle.gp_plain.specs.declared.item.Field.{Field}
use Rattle.gp_plain.specs.declared.http.Request.{Request}
use Rattle.gp_head.specs.Writable.{AreWritable, IsFieldName, IsFieldValue, IsWritableField, HeadLaw}
use Rattle.gp_head.proofs.RoundTrip.{StartsFilled, not_skipped}
use Rattle.http_uri.specs.Grammar.{or_slash}
use Rattle.gp_head.specs.Targets.{IsSplit}
use Rattle.gp_instruct.specs.Targets.{IsTarget}
use Rattle.gp_routes.specs.Parts.{is_host, is_host_byte}
use Rattle.gp_forward.specs.Forwards.{field}
use Rattle.gp_forward.specs.Conditions.{CanAsk, post_fields, changed, redirected, ForwardLaw}
use Rattle.gp_forward.proofs.Paths.{path_splits}
use Rattle.gp_forward.proofs.Tokens.{token_stands}
use Rattle.gp_forward.proofs.Values.{text_stands, named_by}

-- ---- requests

pub can_change : HeadLaw → (head : Request) (method : List ℕ) (keep : Field → Bool) (more : List Field) → CanAsk head → IsToken method → AreWritable more → CanAsk (changed method keep more head)
can_change law head method keep more can token stands = record {
  asks = record {
    method = token;
    target = can.asks.target;
    fields = law.added (filter keep head.fields) more (law.dropped keep head.fields can.asks.fields) stands;
  };
  target = can.target;
}

get_method : IsToken (codes "GET")
unfolding is_token_byte
get_method = (omega arith, AllPass-from_list_all is_token_byte (codes "GET") refl)

post_method : IsToken (codes "POST")
unfolding is_token_byte
post_method = (omega arith, AllPass-from_list_all is_token_byte (codes "POST") refl)

pub can_link : HeadLaw → (head : Request) (method link path : List ℕ) (authority : Option (List ℕ)) → CanAsk head → IsToken method → IsSplit link path authority → CanAsk (redirected method path head)
can_link law head method link path authority can token split = record {
  asks = record { method = token; target = law.target link path authority split; fields = can.asks.fields };
  target = path_splits link path authority split;
}

pub link_splits : (uri : List ℕ) → IsTarget uri → (path : List ℕ) × (authority : Option (List ℕ)) × IsSplit uri path authority
link_splits uri (inl form) = (or_slash form.0, None, (form.0, (form.1, form.2), refl))
link_splits uri (inr form) = (or_slash form.2, Some form.1, (form.2, (form.0, form.3, form.4), refl))

type_name : IsFieldName (codes "content-type")
unfolding is_token_byte
type_name = named_by (codes "content-type") (omega arith) refl refl

accept_name : IsFieldName (codes "accept")
unfolding is_token_byte
accept_name = named_by (codes "accept") (omega arith) refl refl

extensions_name : IsFieldName (codes "sec-websocket-extensions")
unfolding is_token_byte
extensions_name = named_by (codes "sec-websocket-extensions") (omega arith) refl refl

tag_name : IsFieldName (codes "connection-id")
unfolding is_token_byte
tag_name = named_by (codes "connection-id") (omega arith) refl refl

pub posts_stand : HeadLaw → (tag : List ℕ) → IsFieldValue tag → AreWritable (post_fields tag)
posts_stand law tag stands =
    let events = text_stands law (codes "application/websocket-events") (omega arith) refl in
    let tagged = field (codes "connection-id") tag in
    let grip = field (codes "sec-websocket-extensions") (codes "grip") in
    let accept = field (codes "accept") (codes "application/websocket-events") in
    All-cons IsWritableField (field (codes "content-type") (codes "application/websocket-events")) (accept ∷ grip ∷ tagged ∷ []) (record { name = type_name; value = events })
    (All-cons IsWritableField accept (grip ∷ tagged ∷ []) (record { name = accept_name; value = events })
    (All-cons IsWritableField grip (tagged ∷ []) (record { name = extensions_name; value = text_stands law (codes "grip") (omega arith) refl })
    (All-cons IsWritableField tagged [] (record { name = tag_name; value = stands }) (All-nil IsWritableField))))

-- ---- values

-- bytes that stand in a value, of which the first and the last are no blanks
value_by : (xs : List ℕ) → AllPass is_value_byte xs → StartsFilled xs → StartsFilled (reverse xs) → IsFieldValue xs
unfolding trim_ows
value_by xs bytes front back = record {
  bytes = bytes;
  trimmed = ap (λ (x : List ℕ). reverse (skip_ows (reverse x))) (not_skipped xs front) ∙ ap reverse (not_skipped (reverse xs) back) ∙ reverse-reverse xs;
}

all_by : (test : ℕ → Bool) (xs : List ℕ) → ((k : ℕ) → k < length xs → test (get_or xs k 0) ≡ true) → AllPass test xs
all_by test [] each = All-nil (λ b. test b ≡ true)
all_by test (x ∷ xs) each = All-cons (λ b. test b ≡ true) x xs (each 0 (omega arith)) (all_by test xs (λ k less. each (suc k) (omega arith)))

filled_by : (xs : List ℕ) → (0 < length xs → is_ows (get_or xs 0 0) ≡ false) → StartsFilled xs
filled_by [] first = tt
filled_by (b ∷ bs) first = first (omega arith)

filled_front : (xs ys : List ℕ) → 0 < length xs → StartsFilled xs → StartsFilled (xs ++ ys)
filled_front [] ys some filled = absurd (omega arith)
filled_front (b ∷ bs) ys some filled = filled

-- a host
host_visible : (b : ℕ) → is_host_byte b ≡ true → is_uri_byte b ≡ true
host_visible b host = grind (arith, nat_tests)

both : (x y : Bool) → x && y ≡ true → (x ≡ true) × (y ≡ true)
both true y e = (refl, e)
both false y e = cc

hosts_visible : (xs : List ℕ) → list_all is_host_byte xs ≡ true → list_all is_uri_byte xs ≡ true
hosts_visible [] all = refl
hosts_visible (x ∷ xs) all =
    let parts = both (is_host_byte x) (list_all is_host_byte xs) all in
    rw (host_visible x parts.0) (hosts_visible xs parts.1)

some_host : (xs : List ℕ) → not (eqb (length xs) 0) ≡ true → 0 < length xs
some_host [] e = cc
some_host (x ∷ xs) e = omega arith

pub host_stands : HeadLaw → (host : List ℕ) → is_host host ≡ true → IsFieldValue host
host_stands law host is =
    let parts = both (not (eqb (length host) 0)) (list_all is_host_byte host) is in
    text_stands law host (some_host host parts.0) (hosts_visible host parts.1)

-- a name, in which spaces may stand inside
name_byte : (b : ℕ) → is_barred b ≡ false → is_value_byte b ≡ true
name_byte b clean = grind (arith, nat_tests)

name_filled : (b : ℕ) → is_barred b ≡ false → eqb b 32 ≡ false → is_ows b ≡ false
name_filled b clean other = grind (arith, nat_tests)

neither : (x y : Bool) → x || y ≡ false → (x ≡ false) × (y ≡ false)
neither true y e = cc
neither false y e = (refl, e)

no_outer : (x y : Bool) → x && y ≡ false → y ≡ true → x ≡ false
no_outer true y e is = cc
no_outer false y e is = refl

name_bytes : (name : List ℕ) → IsName name → AllPass is_value_byte name
name_bytes name is = all_by is_value_byte name (λ k less. name_byte (get_or name k 0) (neither _ _ (is.clean k less)).0)

name_front : (name : List ℕ) → IsName name → StartsFilled name
name_front name is = filled_by name (λ some.
    let parts = neither (is_barred (get_or name 0 0)) _ (is.clean 0 some) in
    name_filled (get_or name 0 0) parts.0 (no_outer (eqb (get_or name 0 0) 32) _ parts.1 refl))

or_true : (x y : Bool) → y ≡ true → x || y ≡ true
or_true true y e = refl
or_true false y e = e

at_end : (xs : List ℕ) → 0 < length xs → eqb (length xs - 1) 0 || eqb (length xs - 1 + 1) (length xs) ≡ true
at_end xs some = or_true (eqb (length xs - 1) 0) (eqb (length xs - 1 + 1) (length xs)) (eq-eqb (length xs - 1 + 1) (length xs) (omega arith))

name_back : (name : List ℕ) → IsName name → StartsFilled (reverse name)
name_back name is = filled_by (reverse name) (λ some.
    let last = length name - 1 in
    let here : get_or (reverse name) 0 0 ≡ get_or name last 0 = get_or-reverse name 0 0 is.some ∙ ap (λ (k : ℕ). get_or name k 0) (omega arith) in
    let parts = neither (is_barred (get_or name last 0)) _ (is.clean last (omega (arith, is.some))) in
    rw here (name_filled (get_or name last 0) parts.0 (no_outer (eqb (get_or name last 0) 32) _ parts.1 (at_end name is.some))))

pub last_stands : (channel id : List ℕ) → IsName channel → IsName id → IsFieldValue (channel ++ codes "; last-id=" ++ id)
last_stands channel id channel_is id_is =
    let front = channel ++ codes "; last-id=" in
    let middle : AllPass is_value_byte (codes "; last-id=") = AllPass-from_list_all is_value_byte (codes "; last-id=") refl in
    value_by (front ++ id)
    (All-append (λ b. is_value_byte b ≡ true) front id (All-append (λ b. is_value_byte b ≡ true) channel (codes "; last-id=") (name_bytes channel channel_is) middle) (name_bytes id id_is))
    (filled_front front id (omega (arith, length-append channel (codes "; last-id="), channel_is.some)) (filled_front channel (codes "; last-id=") channel_is.some (name_front channel channel_is)))
    (subst StartsFilled (sym (reverse-append front id)) (filled_front (reverse id) (reverse front) (omega (arith, length-reverse id, id_is.some)) (name_back id id_is)))

pub forward_holds : HeadLaw → ForwardLaw
forward_holds law = record {
  read = λ bytes head n path authority read split. record { asks = (law.request_read bytes head n read).0; target = (path, authority, split) };
  changes = can_change law;
  linked = can_link law;
  link = link_splits;
  methods = (get_method, post_method);
  posts = posts_stand law;
  host = host_stands law;
  token = token_stands law;
  last = last_stands;
}
