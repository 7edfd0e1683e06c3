-- Bytes that are read as events spell them.
use Rattle.std.proofs.Common.{◌≡◌, ℕ, zero, suc, ◌+◌, ◌<◌, ◌≤◌, Bool, true, false, ◌&&◌, nat_lt, leb, List, [], ◌∷◌, ◌++◌, length, take, drop, Option, Some, None, Result, Ok, Err, refl, sym, ap, ◌∙◌, subst, arith, append_assoc, length-append, length-take-le, length-drop, take-append-drop}
use Rattle.std.specs.Char.{is_ascii_hexdigit}
use Rattle.std.specs.List.{find, list_all, prefix_len}
use Rattle.std.specs.Str.Parse.{digits_value}
use Rattle.std.proofs.lemmas.Bool.{leb-true, ltb-false}
use Rattle.std.proofs.lemmas.Bool.Decides.{Decides-eqb}
use Rattle.std.proofs.lemmas.List.{drop-drop, drop_at, nil_from_length}
use Rattle.std.proofs.lemmas.List.Sums.{prefix_len-le-length}
use Rattle.std.proofs.lemmas.Slice.Eq.{starts_is}
use Rattle.gp_events.specs.declared.event.EventKind.{EventKind}
use Rattle.gp_events.specs.declared.event.WsEvent.{WsEvent}
use Rattle.gp_events.specs.declared.event.EventFault.{EventFault}
use Rattle.gp_events.specs.declared.read.SizeText.{SizeText}
use Rattle.gp_events.specs.Spellings.{name_of, crlf, space, IsSize, IsSpelling, AreSpelled}
use Rattle.gp_events.specs.Events.{Found, begins_with, kind_at, kinds, digit_count, is_size, size_at, content_at, sized_at, named_at, kinded_at, event_at, behind, follow, events_from, events_of}
use Rattle.gp_events.proofs.SpellLemmas.{spelled_some}

and_left : (a b : Bool) → (a && b) ≡ true → a ≡ true
and_left true b both = refl
and_left false b both = absurd (cc both)

and_right : (a b : Bool) → (a && b) ≡ true → b ≡ true
and_right true b both = both
and_right false b both = absurd (cc both)

-- a text that begins with a front is the front and what follows it
fronted : (text front : List ℕ) → begins_with text front ≡ true → text ≡ front ++ drop (length front) text
fronted text front begins = (starts_is Decides-eqb text front true (sym begins)).0 refl

-- ---- a name

find_step : (test : EventKind → Bool) (y x : EventKind) (ys : List EventKind) (t : Bool) → test y ≡ t → find test (y ∷ ys) ≡ Some x
    → (find test ys ≡ Some x → test x ≡ true) → test x ≡ true
find_step test y x ys true here found rest =
    let one : ◌≡◌ {A = Option EventKind} (Some y) (Some x) = rw here at found in
    let same : y ≡ x = cc one in
    ap test (sym same) ∙ here
find_step test y x ys false here found rest = rest (rw here at found)

find_passes : (test : EventKind → Bool) (xs : List EventKind) (x : EventKind) → find test xs ≡ Some x → test x ≡ true
find_passes test [] x found = absurd (cc found)
find_passes test (y ∷ ys) x found = find_step test y x ys (test y) refl found (λ rest. find_passes test ys x rest)

kind_named : (bytes : List ℕ) (kind : EventKind) → kind_at bytes ≡ Some kind → bytes ≡ name_of kind ++ drop (length (name_of kind)) bytes
unfolding kind_at
kind_named bytes kind found = fronted bytes (name_of kind) (find_passes (λ (k : EventKind). begins_with bytes (name_of k)) kinds kind found)

-- ---- a size

front_step : (p : ℕ → Bool) (b : ℕ) (bs : List ℕ) (t : Bool) → p b ≡ t → list_all p (take (prefix_len p bs) bs) ≡ true → list_all p (take (prefix_len p (b ∷ bs)) (b ∷ bs)) ≡ true
front_step p b bs true here rest =
    let one_more : 1 + prefix_len p bs ≡ suc (prefix_len p bs) = omega arith in
    rw (here, one_more) (rw here rest)
front_step p b bs false here rest = rw here refl

front_all : (p : ℕ → Bool) (bs : List ℕ) → list_all p (take (prefix_len p bs) bs) ≡ true
front_all p [] = refl
front_all p (b ∷ bs) = front_step p b bs (p b) refl (front_all p bs)

-- digits, CRLF, and what follows
record HasSize (text : List ℕ) (found : SizeText) : Type 0 where
  digits : List ℕ
  more : List ℕ
  is : text ≡ digits ++ (crlf ++ more)
  long : length digits ≡ found.digits
  size : IsSize digits found.size

size_cases : (text : List ℕ) (found : SizeText) (t : Bool) → is_size text (digit_count text) ≡ t → size_at text ≡ Some found → HasSize text found
unfolding size_at
size_cases text found true good found_is =
    let n = digit_count text in
    let made : SizeText = record { size = digits_value 16 (take n text); digits = n } in
    let some : ◌≡◌ {A = Option SizeText} (Some made) (Some found) = rw good at found_is in
    let same : made ≡ found = cc some in
    let bounds : (leb 1 n && leb n 8) ≡ true = and_left _ _ good in
    let within : n ≤ length text = prefix_len-le-length is_ascii_hexdigit text in
    let long : length (take n text) ≡ n = length-take-le n text within in
    subst (HasSize text) same (record {
      digits = take n text;
      more = drop 2 (drop n text);
      is = sym (take-append-drop n text) ∙ ap (λ (b : List ℕ). take n text ++ b) (fronted (drop n text) crlf (and_right _ _ good));
      long = long;
      size = record {
        some = rw long (leb-true 1 n (and_left _ _ bounds));
        few = rw long (leb-true n 8 (and_right _ _ bounds));
        hex = front_all is_ascii_hexdigit text;
        size_is = refl;
      };
    })
size_cases text found false bad found_is = absurd (cc (rw bad at found_is))

-- ---- an event

-- bytes spell an event, and more follows
record HasEvent (bytes : List ℕ) (found : Found) : Type 0 where
  text : List ℕ
  more : List ℕ
  spelling : IsSpelling found.event text
  is : bytes ≡ text ++ more
  long : length text ≡ found.count

-- a content stands at a place, and CRLF behind it
record HasContent (bytes : List ℕ) (kind : EventKind) (from size : ℕ) (found : Found) : Type 0 where
  content : List ℕ
  more : List ℕ
  is : drop from bytes ≡ content ++ (crlf ++ more)
  long : length content ≡ size
  found_is : found ≡ record { event = record { kind = kind; content = Some content }; count = from + size + 2 }

content_cases : (place : ℕ) (bytes : List ℕ) (kind : EventKind) (from size : ℕ) (found : Found) (short ends : Bool)
    → nat_lt (length bytes) (from + size) ≡ short → begins_with (drop (from + size) bytes) crlf ≡ ends → content_at place bytes kind from size ≡ Ok found
    → HasContent bytes kind from size found
unfolding content_at
content_cases place bytes kind from size found true ends long tail is = absurd (cc (rw long at is))
content_cases place bytes kind from size found false false long tail is = absurd (cc (rw (long, tail) at is))
content_cases place bytes kind from size found false true long tail is =
    let made : Found = record { event = record { kind = kind; content = Some (take size (drop from bytes)) }; count = from + size + 2 } in
    let one : ◌≡◌ {A = Result Found EventFault} (Ok made) (Ok found) = rw (long, tail) at is in
    let behind_it : drop size (drop from bytes) ≡ crlf ++ drop 2 (drop (from + size) bytes) = drop-drop size from bytes ∙ fronted (drop (from + size) bytes) crlf tail in
    record {
      content = take size (drop from bytes);
      more = drop 2 (drop (from + size) bytes);
      is = sym (take-append-drop size (drop from bytes)) ∙ ap (λ (b : List ℕ). take size (drop from bytes) ++ b) behind_it;
      long = length-take-le size (drop from bytes) (omega (arith, length-drop from bytes, ltb-false (length bytes) (from + size) long));
      found_is = cc one;
    }

sized_cases : (place : ℕ) (bytes : List ℕ) (kind : EventKind) (read : Option SizeText) (found : Found)
    → bytes ≡ name_of kind ++ (space ++ drop (length (name_of kind) + 1) bytes)
    → size_at (drop (length (name_of kind) + 1) bytes) ≡ read → sized_at place bytes kind (length (name_of kind) + 1) read ≡ Ok found → HasEvent bytes found
sized_cases place bytes kind None found front sized is = absurd (cc is)
sized_cases place bytes kind (Some text) found front sized is =
    let name = name_of kind in
    let size = size_cases (drop (length name + 1) bytes) text _ refl sized in
    let from = length name + 1 + text.digits + 2 in
    let content = content_cases place bytes kind from text.size found _ _ refl refl is in
    let digits_then : drop (length name + 1 + text.digits) bytes ≡ crlf ++ size.more =
    sym (drop-drop text.digits (length name + 1) bytes) ∙ ap (drop text.digits) size.is ∙ drop_at size.digits (crlf ++ size.more) text.digits size.long in
    let left : size.more ≡ content.content ++ (crlf ++ content.more) =
    sym (ap (drop 2) digits_then) ∙ drop-drop 2 (length name + 1 + text.digits) bytes ∙ content.is in
    let rest : drop (length name + 1) bytes ≡ size.digits ++ (crlf ++ (content.content ++ (crlf ++ content.more))) =
    size.is ∙ ap (λ (b : List ℕ). size.digits ++ (crlf ++ b)) left in
    let tail = space ++ (size.digits ++ (crlf ++ (content.content ++ crlf))) in
    let all : space ++ drop (length name + 1) bytes ≡ tail ++ content.more =
    ap (λ (b : List ℕ). space ++ b) rest ∙ sym (ap (λ (b : List ℕ). 32 ∷ size.digits ++ (crlf ++ b)) (append_assoc content.content crlf content.more))
    ∙ sym (ap (λ (b : List ℕ). 32 ∷ b) (append_assoc size.digits (crlf ++ (content.content ++ crlf)) content.more)) in
    let event : Found = record { event = record { kind = kind; content = Some content.content }; count = from + text.size + 2 } in
    let digits_are : IsSize size.digits (length content.content) = subst (IsSize size.digits) (sym content.long) size.size in
    subst (HasEvent bytes) (sym content.found_is) (record {
      text = name ++ tail;
      more = content.more;
      spelling = (tail, (size.digits, digits_are, refl), refl);
      is = front ∙ ap (λ (b : List ℕ). name ++ b) all ∙ sym (append_assoc name tail content.more);
      long =
          omega (arith, length-append name tail, length-append size.digits (crlf ++ (content.content ++ crlf)), length-append content.content crlf, size.long, content.long);
    })

named_cases : (place : ℕ) (bytes : List ℕ) (kind : EventKind) (found : Found) (ends sized : Bool) → bytes ≡ name_of kind ++ drop (length (name_of kind)) bytes
    → begins_with (drop (length (name_of kind)) bytes) crlf ≡ ends → begins_with (drop (length (name_of kind)) bytes) space ≡ sized
    → named_at place bytes kind (length (name_of kind)) ≡ Ok found → HasEvent bytes found
named_cases place bytes kind found true sized front ending spaced is =
    let name = name_of kind in
    let made : Found = record { event = record { kind = kind; content = None }; count = length name + 2 } in
    let one : ◌≡◌ {A = Result Found EventFault} (Ok made) (Ok found) = rw ending at is in
    let same : made ≡ found = cc one in
    let more = drop 2 (drop (length name) bytes) in
    subst (HasEvent bytes) same (record {
      text = name ++ crlf;
      more = more;
      spelling = (crlf, refl, refl);
      is = front ∙ ap (λ (b : List ℕ). name ++ b) (fronted (drop (length name) bytes) crlf ending) ∙ sym (append_assoc name crlf more);
      long = length-append name crlf;
    })
named_cases place bytes kind found false false front ending spaced is = absurd (cc (rw (ending, spaced) at is))
named_cases place bytes kind found false true front ending spaced is =
    let name = name_of kind in
    let left : drop (length name) bytes ≡ space ++ drop (length name + 1) bytes =
    fronted (drop (length name) bytes) space spaced ∙ ap (λ (b : List ℕ). space ++ b) (drop-drop 1 (length name) bytes) in
    sized_cases place bytes kind _ found (front ∙ ap (λ (b : List ℕ). name ++ b) left) refl (rw (ending, spaced) at is)

kinded_cases : (place : ℕ) (bytes : List ℕ) (kind : Option EventKind) (found : Found) → kind_at bytes ≡ kind → kinded_at place bytes kind ≡ Ok found → HasEvent bytes found
kinded_cases place bytes None found named is = absurd (cc is)
kinded_cases place bytes (Some kind) found named is = named_cases place bytes kind found _ _ (kind_named bytes kind named) refl refl is

event_spelled : (place : ℕ) (bytes : List ℕ) (found : Found) → event_at place bytes ≡ Ok found → HasEvent bytes found
unfolding event_at
event_spelled place bytes found is = kinded_cases place bytes (kind_at bytes) found refl is

-- ---- many

none_spelled : (events : List WsEvent) (bytes : List ℕ) → length bytes ≡ 0 → ◌≡◌ {A = Result (List WsEvent) EventFault} (Ok []) (Ok events) → AreSpelled events bytes
none_spelled events bytes none is =
    let same : [] ≡ events = cc is in
    subst (λ (es : List WsEvent). AreSpelled es bytes) same (nil_from_length bytes none)

more_spelled : (bytes : List ℕ) (found : Found) (events : List WsEvent) (rest : Result (List WsEvent) EventFault) → HasEvent bytes found → behind (found.event ∷ []) rest ≡ Ok events
    → ((more : List WsEvent) (tail : List ℕ) → length tail < length bytes → tail ≡ drop found.count bytes → rest ≡ Ok more → AreSpelled more tail)
    → AreSpelled events bytes
more_spelled bytes found events (Err fault) has is later = absurd (cc is)
more_spelled bytes found events (Ok more) has is later =
    let same : found.event ∷ more ≡ events = cc is in
    let some : 0 < length has.text = spelled_some found.event has.text has.spelling in
    let shorter : length has.more < length bytes = omega (arith, ap length has.is, length-append has.text has.more) in
    let tail : has.more ≡ drop found.count bytes = sym (ap (drop found.count) has.is ∙ drop_at has.text has.more found.count has.long) in
    subst (λ (es : List WsEvent). AreSpelled es bytes) same (has.text, has.more, has.spelling, later more has.more shorter tail refl, has.is)

read_cases : (bytes : List ℕ) (events : List WsEvent) (place : ℕ) (next : Found → Result (List WsEvent) EventFault) (read : Result Found EventFault)
    → event_at place bytes ≡ read → follow next read ≡ Ok events
    → ((found : Found) (more : List WsEvent) (tail : List ℕ) → length tail < length bytes → tail ≡ drop found.count bytes → next found ≡ Ok more → AreSpelled more tail)
    → AreSpelled events bytes
read_cases bytes events place next (Err fault) at is later = absurd (cc is)
read_cases bytes events place next (Ok found) at is later = more_spelled bytes found events (next found) (event_spelled place bytes found at) is (later found)

from_spelled : (most place : ℕ) (bytes : List ℕ) (events : List WsEvent) → length bytes ≤ most → events_from most place bytes ≡ Ok events → AreSpelled events bytes
unfolding events_from
from_spelled zero place bytes events enough is = none_spelled events bytes (omega arith) is
from_spelled (suc most) place [] events enough is = none_spelled events [] refl is
from_spelled (suc most) place (b ∷ bs) events enough is =
    read_cases (b ∷ bs) events place (λ (found : Found). events_from most (place + found.count) (drop found.count (b ∷ bs))) _ refl is
    (λ (found : Found) (more : List WsEvent) (tail : List ℕ) shorter tail_is next.
    from_spelled most (place + found.count) tail more (omega (arith, shorter)) (ap (events_from most (place + found.count)) tail_is ∙ next))

pub read_is_spelled : (events : List WsEvent) (bytes : List ℕ) → events_of bytes ≡ Ok events → AreSpelled events bytes
read_is_spelled events bytes read = from_spelled (length bytes) 0 bytes events (omega arith) read
