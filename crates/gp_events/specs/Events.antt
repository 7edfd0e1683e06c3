-- Which events bytes spell, and where the first fault is.
use Rattle.std.specs.Prelude.{ℕ, zero, suc, ◌≡◌, ◌+◌, Bool, ◌&&◌, nat_eq, nat_le, nat_lt, List, [], ◌∷◌, ◌++◌, length, take, drop, Option, Some, None, option_map, Result, Ok, Err, if◌then◌else◌, ⊤}
use Rattle.std.specs.Char.{is_ascii_hexdigit}
use Rattle.std.specs.List.{find, prefix_len, starts_with}
use Rattle.std.specs.Str.Parse.{digits_value}
use Rattle.gp_events.specs.declared.event.EventKind.{EventKind}
use Rattle.gp_events.specs.declared.event.EventKind.TheVariants.{Opens, Text, Binary, Ping, Pong, Close, Disconnect}
use Rattle.gp_events.specs.declared.event.WsEvent.{WsEvent}
use Rattle.gp_events.specs.declared.event.EventFault.{EventFault}
use Rattle.gp_events.specs.declared.event.EventFault.TheVariants.{Name, Size, Short, Tail, NoMemory}
use Rattle.gp_events.specs.declared.read.EventText.{EventText}
use Rattle.gp_events.specs.declared.read.SizeText.{SizeText}
use Rattle.gp_events.specs.Spellings.{name_of, crlf, space, AreSpelled}

abbrev pub begins_with : List ℕ → List ℕ → Bool
begins_with bytes front = starts_with nat_eq bytes front

abbrev pub kinds : List EventKind
kinds = Opens ∷ Text ∷ Binary ∷ Ping ∷ Pong ∷ Close ∷ Disconnect ∷ []

-- the kind whose name stands at the front; none of the names begins another
unfoldable pub kind_at : List ℕ → Option EventKind
kind_at bytes = find (λ (kind : EventKind). begins_with bytes (name_of kind)) kinds

abbrev pub digit_count : List ℕ → ℕ
digit_count text = prefix_len is_ascii_hexdigit text

-- so many digits at the front of a text are a size: there are 1 to 8, and CRLF follows
abbrev pub is_size : List ℕ → ℕ → Bool
is_size text count = nat_le 1 count && nat_le count 8 && begins_with (drop count text) crlf

-- the size at the front of a text
unfoldable pub size_at : List ℕ → Option SizeText
size_at text =
    if is_size text (digit_count text)
    then Some (record { size = digits_value 16 (take (digit_count text) text); digits = digit_count text })
    else None

-- an event at the front of bytes, and how many of them spell it
pub record Found : Type 0 where
  pub event : WsEvent
  pub count : ℕ

abbrev pub as_found : EventText → Found
as_found text = record {
  event = record { kind = text.kind; content = option_map (λ content. content.now) text.content };
  count = text.count;
}

-- the content begins at a place of `rest`, which begins at `place`: it has as many bytes as the size says, and CRLF follows
unfoldable pub content_at : ℕ → List ℕ → EventKind → ℕ → ℕ → Result Found EventFault
content_at place rest kind from size =
    if nat_lt (length rest) (from + size) then Err (Short (place + from))
    else if begins_with (drop (from + size) rest) crlf
    then Ok (record { event = record { kind = kind; content = Some (take size (drop from rest)) }; count = from + size + 2 })
    else Err (Tail (place + (from + size)))

abbrev pub sized_at : ℕ → List ℕ → EventKind → ℕ → Option SizeText → Result Found EventFault
sized_at place rest kind from None = Err (Size (place + from))
sized_at place rest kind from (Some text) = content_at place rest kind (from + text.digits + 2) text.size

-- behind a name of so many bytes stands CRLF and there is no content, or a space and then the size of a content
abbrev pub named_at : ℕ → List ℕ → EventKind → ℕ → Result Found EventFault
named_at place rest kind count =
    if begins_with (drop count rest) crlf then Ok (record { event = record { kind = kind; content = None }; count = count + 2 })
    else if begins_with (drop count rest) space then sized_at place rest kind (count + 1) (size_at (drop (count + 1) rest))
    else Err (Name place)

abbrev pub kinded_at : ℕ → List ℕ → Option EventKind → Result Found EventFault
kinded_at place rest None = Err (Name place)
kinded_at place rest (Some kind) = named_at place rest kind (length (name_of kind))

-- the event at the front of `rest`, which begins at `place`, or its fault
unfoldable pub event_at : ℕ → List ℕ → Result Found EventFault
event_at place rest = kinded_at place rest (kind_at rest)

-- these events, and what follows them
abbrev pub behind : List WsEvent → Result (List WsEvent) EventFault → Result (List WsEvent) EventFault
behind events (Ok more) = Ok (events ++ more)
behind events (Err fault) = Err fault

-- what follows an event that was found, unless there was a fault
abbrev pub follow : (Found → Result (List WsEvent) EventFault) → Result Found EventFault → Result (List WsEvent) EventFault
follow more (Ok found) = behind (found.event ∷ []) (more found)
follow more (Err fault) = Err fault

-- the events from a place on, at most so many, up to the end of the bytes
unfoldable pub events_from : ℕ → ℕ → List ℕ → Result (List WsEvent) EventFault
events_from zero place rest = Ok []
events_from (suc most) place [] = Ok []
events_from (suc most) place (b ∷ bs) =
    follow (λ (found : Found). events_from most (place + found.count) (drop found.count (b ∷ bs))) (event_at place (b ∷ bs))

-- the events that bytes spell, or the first fault. An event has a byte, so there are at most as many events as bytes
abbrev pub events_of : List ℕ → Result (List WsEvent) EventFault
events_of bytes = events_from (length bytes) 0 bytes

-- the fault is the one that is told, or memory is wanting
abbrev pub IsFaultOf : {A : Type 0} → Result A EventFault → EventFault → Type 0
IsFaultOf read (Name place) = read ≡ Err (Name place)
IsFaultOf read (Size place) = read ≡ Err (Size place)
IsFaultOf read (Short place) = read ≡ Err (Short place)
IsFaultOf read (Tail place) = read ≡ Err (Tail place)
IsFaultOf read NoMemory = ⊤

-- the bytes that are read as events are those that spell them
pub record EventsLaw : Type 0 where
  pub read : (events : List WsEvent) (bytes : List ℕ) → AreSpelled events bytes → events_of bytes ≡ Ok events
  pub spelled : (events : List WsEvent) (bytes : List ℕ) → events_of bytes ≡ Ok events → AreSpelled events bytes
