-- Bytes that spell events are read as those events.
use Rattle.std.proofs.Common.{◌≡◌, ℕ, suc, ◌+◌, ◌-◌, ◌<◌, ◌≤◌, Bool, true, false, ◌&&◌, List, [], ◌∷◌, ◌++◌, length, take, drop, Option, Some, None, Ok, refl, sym, ap, ◌∙◌, arith, append_assoc, length-append, le-leb, le-ltb}
use Rattle.std.specs.Char.{is_ascii_hexdigit}
use Rattle.std.specs.List.{list_all, prefix_len}
use Rattle.std.proofs.Math.Seq.{drop-append_seam, take-append_seam}
use Rattle.std.proofs.lemmas.List.{drop_at}
use Rattle.gp_events.specs.declared.event.EventKind.{EventKind}
use Rattle.gp_events.specs.declared.event.EventKind.TheVariants.{Opens, Text, Binary, Ping, Pong, Close, Disconnect}
use Rattle.gp_events.specs.declared.event.WsEvent.{WsEvent}
use Rattle.gp_events.specs.Spellings.{name_of, crlf, IsSize, IsContentText, IsSpelling, AreSpelled}
use Rattle.gp_events.specs.Events.{kind_at, digit_count, size_at, content_at, sized_at, named_at, kinded_at, event_at, behind, follow, events_from, events_of}
use Rattle.gp_events.proofs.ReadLemmas.{more_from, none_from}

-- ---- one event

pub kind_found : (kind : EventKind) (more : List ℕ) → kind_at (name_of kind ++ more) ≡ Some kind
unfolding kind_at
kind_found Opens more = refl
kind_found Text more = refl
kind_found Binary more = refl
kind_found Ping more = refl
kind_found Pong more = refl
kind_found Close more = refl
kind_found Disconnect more = refl

prefix_step : (p : ℕ → Bool) (d : ℕ) (ds more : List ℕ) (test : Bool) → p d ≡ test → (p d && list_all p ds) ≡ true → (list_all p ds ≡ true → prefix_len p (ds ++ more) ≡ length ds)
    → prefix_len p (d ∷ ds ++ more) ≡ suc (length ds)
prefix_step p d ds more true here all rest =
    let more_pass : list_all p ds ≡ true = rw here at all in
    let front : prefix_len p (ds ++ more) ≡ length ds = rest more_pass in
    rw (here, front) (omega arith)
prefix_step p d ds more false here all rest = absurd (cc (rw here at all))

-- those that pass, up to one that doesn't
prefix_found : (p : ℕ → Bool) (ds : List ℕ) (b : ℕ) (more : List ℕ) → list_all p ds ≡ true → p b ≡ false → prefix_len p (ds ++ b ∷ more) ≡ length ds
prefix_found p [] b more all fails = rw fails refl
prefix_found p (d ∷ ds) b more all fails = prefix_step p d ds (b ∷ more) (p d) refl all (λ rest. prefix_found p ds b more rest fails)

pub size_found : (digits more : List ℕ) (size : ℕ) → IsSize digits size → size_at (digits ++ (crlf ++ more)) ≡ Some (record { size = size; digits = length digits })
unfolding size_at
size_found digits more size is =
    let count : digit_count (digits ++ (crlf ++ more)) ≡ length digits = prefix_found is_ascii_hexdigit digits 13 (10 ∷ more) is.hex refl in
    let tail : drop (length digits) (digits ++ (crlf ++ more)) ≡ crlf ++ more = drop-append_seam digits (crlf ++ more) in
    let front : take (length digits) (digits ++ (crlf ++ more)) ≡ digits = take-append_seam digits (crlf ++ more) in
    rw (count, tail, front, le-leb 1 (length digits) is.some, le-leb (length digits) 8 is.few, is.size_is) refl

pub content_found : (place : ℕ) (bytes front content more : List ℕ) (kind : EventKind) (from : ℕ) → bytes ≡ front ++ (content ++ (crlf ++ more)) → length front ≡ from
    → content_at place bytes kind from (length content) ≡ Ok (record { event = record { kind = kind; content = Some content }; count = from + length content + 2 })
unfolding content_at
content_found place bytes front content more kind from is at =
    let start : drop from bytes ≡ content ++ (crlf ++ more) = ap (drop from) is ∙ drop_at front (content ++ (crlf ++ more)) from at in
    let again : bytes ≡ (front ++ content) ++ (crlf ++ more) = is ∙ sym (append_assoc front content (crlf ++ more)) in
    let both : length (front ++ content) ≡ from + length content = omega (arith, length-append front content, at) in
    let tail : drop (from + length content) bytes ≡ crlf ++ more = ap (drop (from + length content)) again ∙ drop_at (front ++ content) (crlf ++ more) (from + length content) both in
    let body : take (length content) (drop from bytes) ≡ content = ap (take (length content)) start ∙ take-append_seam content (crlf ++ more) in
    let enough : from + length content ≤ length bytes = omega (arith, ap length again, length-append (front ++ content) (crlf ++ more), both) in
    rw (le-ltb (length bytes) (from + length content) enough, tail, body) refl

-- the bytes from a place on, behind a front
behind_front : (bytes front rest : List ℕ) (n : ℕ) → bytes ≡ front ++ rest → length front ≡ n → drop n bytes ≡ rest
behind_front bytes front rest n is at = ap (drop n) is ∙ drop_at front rest n at

sized_found : (place : ℕ) (bytes name digits content more : List ℕ) (kind : EventKind) → IsSize digits (length content)
    → bytes ≡ name ++ (32 ∷ digits ++ (crlf ++ (content ++ (crlf ++ more))))
    → sized_at place bytes kind (length name + 1) (size_at (drop (length name + 1) bytes))
    ≡ Ok (record { event = record { kind = kind; content = Some content }; count = length name + 1 + length digits + 2 + length content + 2 })
sized_found place bytes name digits content more kind size is =
    let tail = content ++ (crlf ++ more) in
    let one : bytes ≡ (name ++ 32 ∷ []) ++ (digits ++ (crlf ++ tail)) = is ∙ sym (append_assoc name (32 ∷ []) (digits ++ (crlf ++ tail))) in
    let one_long : length (name ++ 32 ∷ []) ≡ length name + 1 = length-append name (32 ∷ []) in
    let left : drop (length name + 1) bytes ≡ digits ++ (crlf ++ tail) = behind_front bytes (name ++ 32 ∷ []) _ (length name + 1) one one_long in
    let two : bytes ≡ ((name ++ 32 ∷ []) ++ digits) ++ (crlf ++ tail) = one ∙ sym (append_assoc (name ++ 32 ∷ []) digits (crlf ++ tail)) in
    let three : bytes ≡ (((name ++ 32 ∷ []) ++ digits) ++ crlf) ++ tail = two ∙ sym (append_assoc ((name ++ 32 ∷ []) ++ digits) crlf tail) in
    let three_long : length (((name ++ 32 ∷ []) ++ digits) ++ crlf) ≡ length name + 1 + length digits + 2 =
    omega (arith, length-append ((name ++ 32 ∷ []) ++ digits) crlf, length-append (name ++ 32 ∷ []) digits, one_long) in
    ap (λ (text : List ℕ). sized_at place bytes kind (length name + 1) (size_at text)) left
    ∙ ap (sized_at place bytes kind (length name + 1)) (size_found digits tail (length content) size)
    ∙ content_found place bytes (((name ++ 32 ∷ []) ++ digits) ++ crlf) content more kind (length name + 1 + length digits + 2) three three_long

named_found : (place : ℕ) (event : WsEvent) (behind more : List ℕ) (content : Option (List ℕ)) → event.content ≡ content → IsContentText content behind
    → named_at place (name_of event.kind ++ (behind ++ more)) event.kind (length (name_of event.kind)) ≡ Ok (record { event = event; count = length (name_of event.kind) + length behind })
named_found place event behind more None none is =
    let name = name_of event.kind in
    let tail : drop (length name) (name ++ (behind ++ more)) ≡ crlf ++ more = drop-append_seam name (behind ++ more) ∙ ap (λ (b : List ℕ). b ++ more) is in
    let long : length name + length behind ≡ length name + 2 = omega (arith, ap length is) in
    rw (tail, long, ← none) refl
named_found place event behind more (Some content) some is =
    let name = name_of event.kind in
    let digits = is.0 in
    let tail = digits ++ (crlf ++ (content ++ (crlf ++ more))) in
    let text : behind ++ more ≡ 32 ∷ tail =
    ap (λ (b : List ℕ). b ++ more) is.2 ∙ ap (λ (b : List ℕ). 32 ∷ b) (append_assoc digits (crlf ++ (content ++ crlf)) more)
    ∙ ap (λ (b : List ℕ). 32 ∷ digits ++ (crlf ++ b)) (append_assoc content crlf more) in
    let left : drop (length name) (name ++ (behind ++ more)) ≡ 32 ∷ tail = drop-append_seam name (behind ++ more) ∙ text in
    let long : length name + length behind ≡ length name + 1 + length digits + 2 + length content + 2 =
    omega (arith, ap length is.2, length-append digits (crlf ++ (content ++ crlf)), length-append content crlf) in
    let found = sized_found place (name ++ (behind ++ more)) name digits content more event.kind is.1 (ap (λ (b : List ℕ). name ++ b) text) in
    rw (left, found, long, ← some) refl

-- ---- many

pub event_found : (place : ℕ) (event : WsEvent) (text more : List ℕ) → IsSpelling event text → event_at place (text ++ more) ≡ Ok (record { event = event; count = length text })
unfolding event_at
event_found place event text more spelling =
    let name = name_of event.kind in
    let behind = spelling.0 in
    let bytes : text ++ more ≡ name ++ (behind ++ more) = ap (λ (t : List ℕ). t ++ more) spelling.2 ∙ append_assoc name behind more in
    let long : length text ≡ length name + length behind = ap length spelling.2 ∙ length-append name behind in
    ap (event_at place) bytes ∙ ap (kinded_at place (name ++ (behind ++ more))) (kind_found event.kind (behind ++ more))
    ∙ named_found place event behind more event.content refl spelling.1 ∙ ap (λ (n : ℕ). Ok (record { event = event; count = n })) (sym long)

name_some : (kind : EventKind) → 0 < length (name_of kind)
name_some Opens = omega arith
name_some Text = omega arith
name_some Binary = omega arith
name_some Ping = omega arith
name_some Pong = omega arith
name_some Close = omega arith
name_some Disconnect = omega arith

pub spelled_some : (event : WsEvent) (text : List ℕ) → IsSpelling event text → 0 < length text
spelled_some event text spelling = omega (arith, name_some event.kind, ap length spelling.2, length-append (name_of event.kind) spelling.0)

spelled_from : (events : List WsEvent) (bytes : List ℕ) (most place : ℕ) → AreSpelled events bytes → length bytes ≤ most → events_from most place bytes ≡ Ok events
spelled_from [] bytes most place is enough = ap (events_from most place) is ∙ none_from most place
spelled_from (event ∷ events) bytes most place is enough =
    let text = is.0 in
    let rest = is.1 in
    let some : 0 < length text = spelled_some event text is.2 in
    let long : length bytes ≡ length text + length rest = ap length is.4 ∙ length-append text rest in
    let found : event_at place bytes ≡ Ok (record { event = event; count = length text }) = ap (event_at place) is.4 ∙ event_found place event text rest is.2 in
    let left : drop (length text) bytes ≡ rest = behind_front bytes text rest (length text) is.4 refl in
    more_from most place bytes (omega arith) (omega arith) ∙ ap (follow _) found
    ∙ ap (λ (b : List ℕ). behind (event ∷ []) (events_from (most - 1) (place + length text) b)) left
    ∙ ap (behind (event ∷ [])) (spelled_from events rest (most - 1) (place + length text) is.3 (omega arith))

pub spelled_is_read : (events : List WsEvent) (bytes : List ℕ) → AreSpelled events bytes → events_of bytes ≡ Ok events
spelled_is_read events bytes is = spelled_from events bytes (length bytes) 0 is (omega arith)
