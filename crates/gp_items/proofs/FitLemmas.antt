-- The items of a publish body fit.
use Rattle.std.proofs.Common.{◌≡◌, ℕ, ◌+◌, Bool, true, false, cond, ltb, leb, ◌&&◌, List, [], ◌∷◌, length, Option, Some, None, Result, Ok, Err, refl, ap, subst, codes, le-leb}
use Rattle.std.specs.Prelude.{All, IfOk, MatchResult, option_map, option_and_then}
use Rattle.std.proofs.lemmas.Bool.{and_parts, ltb-false}
use Rattle.std.proofs.lemmas.List.Elements.{All-nil, All-cons}
use Rattle.serde_json.specs.Data.{Data}
use Rattle.gp_plain.specs.declared.item.Item.{Item}
use Rattle.gp_plain.specs.declared.item.ResponsePart.{ResponsePart}
use Rattle.gp_plain.specs.declared.item.StreamPart.{StreamPart}
use Rattle.gp_plain.specs.declared.item.MessagePart.{MessagePart}
use Rattle.gp_plain.specs.Fit.{is_short_content, fits_response, fits_stream, fits_message_part, fits_item}
use Rattle.gp_json.specs.Steps.{result_and_then}
use Rattle.gp_json.specs.Members.{whole_member, text_member, member_of, as_elements, present}
use Rattle.gp_json.specs.Payloads.{payload_of, bytes_of}
use Rattle.gp_json.specs.Fields.{fields_of}
use Rattle.gp_json.specs.Responses.{code_from, code_of, reason_of, body_of, response_of}
use Rattle.gp_json.specs.declared.payload.Payload.{Payload}
use Rattle.gp_json.specs.declared.payload.Payload.TheVariants as payload
use Rattle.gp_json.specs.declared.members.Whole.{Whole}
use Rattle.gp_json.specs.declared.members.Whole.TheVariants.{Unsigned, Negative}
use Rattle.gp_json.specs.declared.fault.MemberFault.{MemberFault}
use Rattle.gp_json.specs.declared.fault.MemberFault.TheVariants.{Member}
use Rattle.gp_items.specs.Faults.{told, IsItemsFaultOf}
use Rattle.gp_items.specs.Names.{channel_of, id_of}
use Rattle.gp_items.specs.Formats.{formats_of, format_in, short, response_if, response_in, action_from, content_in, sending_by, sending_if, sending_in, stream_part, message_part, stream_in, message_in}
use Rattle.gp_items.specs.Items.{item_of, placed, items_from, items_if, items_in, told_count}
use Rattle.gp_items.specs.declared.fault.ItemFault.{ItemFault}
use Rattle.gp_items.specs.declared.fault.ItemFault.TheVariants.{Long}
use Rattle.gp_items.specs.declared.fault.ItemsFault.{ItemsFault}
use Rattle.gp_items.specs.declared.fault.ItemsFault.TheVariants.{TooMany}
use Rattle.gp_items.specs.declared.format.Action.{Action}
use Rattle.gp_items.specs.declared.format.Action.TheVariants.{Send, End, Other}
use Rattle.gp_items.specs.declared.format.Sending.{Sending}
use Rattle.gp_items.specs.declared.format.Sending.TheVariants.{Content, Close}

-- ---- steps that were read

ok_parts : {A B E : Type 0} (r : Result A E) (f : A → Result B E) (y : B) → result_and_then r f ≡ Ok y → (x : A) × (r ≡ Ok x) × (f x ≡ Ok y)
ok_parts (Ok x) f y e = (x, refl, e)
ok_parts (Err fault) f y e = cc

told_ok : {A : Type 0} (r : Result A MemberFault) (x : A) → told r ≡ Ok x → r ≡ Ok x
told_ok (Ok y) x e = (let same : y ≡ x = cc in ap (λ v. Ok v) same)
told_ok (Err fault) x e = cc

short_ok : {A : Type 0} (n : ℕ) (x y : A) → short n x ≡ Ok y → (leb n 65536 ≡ true) × (x ≡ y)
short_ok {A = A} n x y e = by_test (ltb 65536 n) refl e
  where
    by_test : (t : Bool) → ltb 65536 n ≡ t → cond {A = Result A ItemFault} t (Err (Long n)) (Ok x) ≡ Ok y → (leb n 65536 ≡ true) × (x ≡ y)
    by_test true is e = cc
    by_test false is e = (le-leb n 65536 (ltb-false 65536 n is), cc)

-- ---- responses

code_fits : (found : Option Whole) (code : ℕ) → code_from found ≡ Ok code → leb 200 code && leb code 599 ≡ true
code_fits None code e = let same : 200 ≡ code = cc in subst (λ (n : ℕ). leb 200 n && leb n 599 ≡ true) same refl
code_fits (Some (Unsigned n)) code e = by_test (leb 200 n && leb n 599) refl e
  where
    by_test : (t : Bool) → leb 200 n && leb n 599 ≡ t → cond {A = Result ℕ MemberFault} t (Ok n) (Err (Member (codes "code"))) ≡ Ok code → leb 200 code && leb code 599 ≡ true
    by_test true is e = let same : n ≡ code = cc in subst (λ (k : ℕ). leb 200 k && leb k 599 ≡ true) same is
    by_test false is e = cc
code_fits (Some (Negative z)) code e = cc

part_code : (d : Data) (part : ResponsePart) → response_of d ≡ Ok part → leb 200 part.code && leb part.code 599 ≡ true
unfolding response_of code_of
part_code d part e =
    let code = ok_parts (code_of d) _ part e in
    let reason = ok_parts (reason_of code.0 d) _ part code.2 in
    let fields = ok_parts (fields_of d) _ part reason.2 in
    let body = ok_parts (body_of d) _ part fields.2 in
    let made : ResponsePart = record { code = code.0; reason = reason.0; fields = fields.0; body = body.0 } in
    let same : made ≡ part = cc body.2 in
    let found = ok_parts (whole_member (codes "code") d) code_from code.0 code.1 in
    subst (λ (p : ResponsePart). leb 200 p.code && leb p.code 599 ≡ true) same (code_fits found.0 code.0 found.2)

response_if_fits : (found : Option Data) (part : Option ResponsePart) → response_if found ≡ Ok part → fits_response part ≡ true
response_if_fits None part e = let same : None ≡ part = cc in subst (λ (p : Option ResponsePart). fits_response p ≡ true) same refl
response_if_fits (Some d) part e =
    let read = ok_parts (told (response_of d)) _ part e in
    let kept = short_ok (length read.0.body) (Some read.0) part read.2 in
    let code = and_parts (leb 200 read.0.code) (leb read.0.code 599) (part_code d read.0 (told_ok (response_of d) read.0 read.1)) in
    let fits : fits_response (Some read.0) ≡ true = rw (code.0, code.1, kept.0) refl in
    subst (λ (p : Option ResponsePart). fits_response p ≡ true) kept.1 fits

response_fits : (formats : Option Data) (part : Option ResponsePart) → response_in formats ≡ Ok part → fits_response part ≡ true
unfolding response_in
response_fits formats part e = let at = ok_parts (format_in (codes "http-response") formats) response_if part e in response_if_fits at.0 part at.2

-- ---- contents

is_short_sending : Option Sending → Bool
is_short_sending None = true
is_short_sending (Some (Content content)) = is_short_content (bytes_of content)
is_short_sending (Some Close) = true

content_fits : (d : Data) (content : Payload) → content_in d ≡ Ok content → is_short_content (bytes_of content) ≡ true
unfolding content_in
content_fits d content e =
    let found = ok_parts (told (payload_of (codes "content") (codes "content-bin") d)) _ content e in
    let there = ok_parts (told (present (codes "content") found.0)) _ content found.2 in
    let kept = short_ok (length (bytes_of there.0)) there.0 content there.2 in
    subst (λ (p : Payload). is_short_content (bytes_of p) ≡ true) kept.1 kept.0

by_action : (action : Action) (d : Data) (sending : Option Sending) → sending_by action d ≡ Ok sending → is_short_sending sending ≡ true
unfolding is_short_sending
by_action Send d sending e =
    let found = ok_parts (content_in d) _ sending e in
    let same : Some (Content found.0) ≡ sending = cc found.2 in
    subst (λ (s : Option Sending). is_short_sending s ≡ true) same (content_fits d found.0 found.1)
by_action End d sending e = let same : Some Close ≡ sending = cc in subst (λ (s : Option Sending). is_short_sending s ≡ true) same refl
by_action Other d sending e = let same : None ≡ sending = cc in subst (λ (s : Option Sending). is_short_sending s ≡ true) same refl

sending_if_fits : (found : Option Data) (sending : Option Sending) → sending_if found ≡ Ok sending → is_short_sending sending ≡ true
unfolding is_short_sending
sending_if_fits None sending e = let same : None ≡ sending = cc in subst (λ (s : Option Sending). is_short_sending s ≡ true) same refl
sending_if_fits (Some d) sending e =
    let action = ok_parts (told (text_member (codes "action") d)) _ sending e in
    by_action (action_from action.0) d sending action.2

sending_fits : (name : List ℕ) (formats : Option Data) (sending : Option Sending) → sending_in name formats ≡ Ok sending → is_short_sending sending ≡ true
unfolding sending_in
sending_fits name formats sending e = let at = ok_parts (format_in name formats) sending_if sending e in sending_if_fits at.0 sending at.2

short_stream : (sending : Option Sending) → is_short_sending sending ≡ true → fits_stream (option_map stream_part sending) ≡ true
unfolding is_short_sending
short_stream None e = refl
short_stream (Some (Content content)) e = e
short_stream (Some Close) e = refl

short_message : (sending : Option Sending) → is_short_sending sending ≡ true → fits_message_part (option_map message_part sending) ≡ true
unfolding is_short_sending
short_message None e = refl
short_message (Some (Content (payload.Text bytes))) e = e
short_message (Some (Content (payload.Binary bytes))) e = e
short_message (Some Close) e = refl

stream_fits : (formats : Option Data) (part : Option StreamPart) → stream_in formats ≡ Ok part → fits_stream part ≡ true
unfolding stream_in
stream_fits formats part e =
    let at = ok_parts (sending_in (codes "http-stream") formats) _ part e in
    let same : option_map stream_part at.0 ≡ part = cc at.2 in
    subst (λ (p : Option StreamPart). fits_stream p ≡ true) same (short_stream at.0 (sending_fits (codes "http-stream") formats at.0 at.1))

message_fits : (formats : Option Data) (part : Option MessagePart) → message_in formats ≡ Ok part → fits_message_part part ≡ true
unfolding message_in
message_fits formats part e =
    let at = ok_parts (sending_in (codes "ws-message") formats) _ part e in
    let same : option_map message_part at.0 ≡ part = cc at.2 in
    subst (λ (p : Option MessagePart). fits_message_part p ≡ true) same (short_message at.0 (sending_fits (codes "ws-message") formats at.0 at.1))

-- ---- items

item_fits : (d : Data) (item : Item) → item_of d ≡ Ok item → fits_item item ≡ true
unfolding item_of
item_fits d item e =
    let channel = ok_parts (channel_of d) _ item e in
    let id = ok_parts (id_of (codes "id") d) _ item channel.2 in
    let prev = ok_parts (id_of (codes "prev-id") d) _ item id.2 in
    let formats = ok_parts (formats_of d) _ item prev.2 in
    let response = ok_parts (response_in formats.0) _ item formats.2 in
    let stream = ok_parts (stream_in formats.0) _ item response.2 in
    let message = ok_parts (message_in formats.0) _ item stream.2 in
    let made : Item = record { channel = channel.0; id = id.0; prev = prev.0; response = response.0; stream = stream.0; message = message.0 } in
    let same : made ≡ item = cc message.2 in
    let fits : fits_item made ≡ true =
    rw (response_fits formats.0 response.0 response.1, stream_fits formats.0 stream.0 stream.1, message_fits formats.0 message.0 message.1) refl in
    subst (λ (i : Item). fits_item i ≡ true) same fits

placed_ok : (place : ℕ) (r : Result Item ItemFault) (item : Item) → placed place r ≡ Ok item → r ≡ Ok item
placed_ok place (Ok x) item e = (let same : x ≡ item = cc in ap (λ (v : Item). Ok v) same)
placed_ok place (Err fault) item e = cc

items_fit : (place : ℕ) (ds : List Data) (items : List Item) → items_from place ds ≡ Ok items → All (λ (item : Item). fits_item item ≡ true) items
items_fit place [] items e =
    let same : [] ≡ items = cc in
    subst (All (λ (item : Item). fits_item item ≡ true)) same (All-nil (λ (item : Item). fits_item item ≡ true))
items_fit place (d ∷ ds) items e =
    let first = ok_parts (placed place (item_of d)) _ items e in
    let others = ok_parts (items_from (place + 1) ds) _ items first.2 in
    let same : first.0 ∷ others.0 ≡ items = cc others.2 in
    subst (All (λ (item : Item). fits_item item ≡ true)) same
    (All-cons (λ (item : Item). fits_item item ≡ true) first.0 others.0 (item_fits d first.0 (placed_ok place (item_of d) first.0 first.1)) (items_fit (place + 1) ds others.0 others.1))

if_fit : (found : Option (List Data)) (items : List Item) → items_if found ≡ Ok items → All (λ (item : Item). fits_item item ≡ true) items
if_fit None items e = cc
if_fit (Some []) items e = cc
if_fit (Some (d ∷ ds)) items e = by_count (ltb 1000 (length (d ∷ ds))) e
  where
    by_count : (t : Bool) → cond t (Err (TooMany (told_count (length (d ∷ ds))))) (items_from 0 (d ∷ ds)) ≡ Ok items → All (λ (item : Item). fits_item item ≡ true) items
    by_count true e = cc
    by_count false e = items_fit 0 (d ∷ ds) items e

-- of an object
pub object_fits : (d : Data) (r : Result (List Item) ItemsFault) → MatchResult r (λ (items : List Item). items_in d ≡ Ok items) (IsItemsFaultOf (items_in d))
    → IfOk r (All (λ (item : Item). fits_item item ≡ true))
unfolding items_in
object_fits d (Ok items) is = if_fit (option_and_then as_elements (member_of (codes "items") d)) items is
object_fits d (Err fault) is = tt
