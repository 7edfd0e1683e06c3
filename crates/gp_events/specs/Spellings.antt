-- How events are spelled in a body of WebSocket events over HTTP.
use Rattle.std.specs.Prelude.{ℕ, ◌≡◌, ◌+◌, ◌<◌, ◌≤◌, ◌==◌, true, nat_lt, List, [], ◌∷◌, ◌++◌, length, map, codes, Option, Some, None, if◌then◌else◌}
use Rattle.std.specs.Char.{is_ascii_hexdigit}
use Rattle.std.specs.List.{flat_map, list_all}
use Rattle.std.specs.Int.Digits.{digits_of}
use Rattle.std.specs.Str.Parse.{digits_value}
use Rattle.gp_events.specs.declared.event.EventKind.{EventKind}
use Rattle.gp_events.specs.declared.event.EventKind.TheVariants.{Opens, Text, Binary, Ping, Pong, Close, Disconnect}
use Rattle.gp_events.specs.declared.event.WsEvent.{WsEvent}

abbrev pub name_of : EventKind → List ℕ
name_of Opens = codes "OPEN"
name_of Text = codes "TEXT"
name_of Binary = codes "BINARY"
name_of Ping = codes "PING"
name_of Pong = codes "PONG"
name_of Close = codes "CLOSE"
name_of Disconnect = codes "DISCONNECT"

abbrev pub crlf : List ℕ
crlf = 13 ∷ 10 ∷ []

abbrev pub space : List ℕ
space = 32 ∷ []

-- 1 to 8 hexadecimal digits of either case, which spell this number
pub record IsSize (digits : List ℕ) (size : ℕ) : Type 0 where
  pub some : 0 < length digits
  pub few : length digits ≤ 8
  pub hex : list_all is_ascii_hexdigit digits ≡ true
  pub size_is : digits_value 16 digits ≡ size

-- what stands behind a name: CRLF, or a space, the size of the content, CRLF, the content, and CRLF
abbrev pub IsContentText : Option (List ℕ) → List ℕ → Type 0
IsContentText None text = text ≡ crlf
IsContentText (Some content) text =
    (digits : List ℕ) × IsSize digits (length content) × (text ≡ space ++ (digits ++ (crlf ++ (content ++ crlf))))

-- the text spells the event: its name, and what stands behind it
abbrev pub IsSpelling : WsEvent → List ℕ → Type 0
IsSpelling event text = (more : List ℕ) × IsContentText event.content more × (text ≡ name_of event.kind ++ more)

-- the bytes spell the events, one after another
abbrev pub AreSpelled : List WsEvent → List ℕ → Type 0
AreSpelled [] bytes = bytes ≡ []
AreSpelled (event ∷ events) bytes =
    (text : List ℕ) × (rest : List ℕ) × IsSpelling event text × AreSpelled events rest × (bytes ≡ text ++ rest)

-- ---- the spelling that is written

abbrev pub upper_digit : ℕ → ℕ
upper_digit d = if nat_lt d 10 then 48 + d else 55 + d

-- upper-case digits without leading zeros
abbrev pub size_text : ℕ → List ℕ
size_text size = if size == 0 then codes "0" else map upper_digit (digits_of 16 size)

abbrev pub content_text : Option (List ℕ) → List ℕ
content_text None = crlf
content_text (Some content) = space ++ (size_text (length content) ++ (crlf ++ (content ++ crlf)))

abbrev pub event_text : WsEvent → List ℕ
event_text event = name_of event.kind ++ content_text event.content

abbrev pub spell : List WsEvent → List ℕ
spell events = flat_map event_text events
