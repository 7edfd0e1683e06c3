-- The line of an event, and which events have one.
use Rattle.std.specs.Prelude.{ℕ, ◌≡◌, ◌==◌, ◌<◌, ◌^◌, ◌&&◌, nat_le, Bool, true, false, cond, List, [], ◌∷◌, length, All, Option, Some, None, option_map, codes}
use Rattle.std.specs.Fmt.{decimal}
use Rattle.gp_plain.specs.Names.{IsName}
use Rattle.gp_plain.specs.Fit.{fits}
use Rattle.gp_plain.specs.declared.item.Item.{Item}
use Rattle.gp_plain.specs.declared.item.ResponsePart.{ResponsePart}
use Rattle.gp_plain.specs.declared.item.StreamPart.{StreamPart}
use Rattle.gp_plain.specs.declared.item.StreamPart.TheVariants.{Content, Close as StreamClose}
use Rattle.gp_plain.specs.declared.item.MessagePart.{MessagePart}
use Rattle.gp_plain.specs.declared.item.MessagePart.TheVariants.{Text as TextPart, Binary as BinaryPart, Close as MessageClose}
use Rattle.gp_plain.specs.declared.item.Message.{Message}
use Rattle.gp_plain.specs.declared.item.Message.TheVariants.{Text, Binary, Ping, Pong, Close}
use Rattle.gp_plain.specs.declared.event.Event.{Event}
use Rattle.gp_plain.specs.declared.event.Event.TheVariants.{Attach, Publish, Take, Page, PageFailed, Push, Join, Leave, Detach}
use Rattle.gp_plain.specs.declared.event.HoldSpec.{HoldSpec}
use Rattle.gp_plain.specs.declared.event.HoldSpec.TheVariants.{Stream, Plain, Response, Socket}
use Rattle.gp_plain.specs.declared.event.Then.{Then}
use Rattle.gp_plain.specs.declared.event.Then.TheVariants.{Hold, Next, End}
use Rattle.gp_script.specs.Spelling.{word, id_word, names_word, joined}

abbrev pub link_word : Bool → List ℕ
link_word true = codes "link"
link_word false = codes "nolink"

abbrev pub again_word : Bool → List ℕ
again_word true = codes "again"
again_word false = codes "first"

abbrev pub then_word : Then → List ℕ
then_word Hold = codes "hold"
then_word Next = codes "next"
then_word End = codes "end"

abbrev pub spec_words : HoldSpec → List (List ℕ)
spec_words (Stream opening channel prev link) = codes "attach" ∷ codes "stream" ∷ word channel ∷ word prev ∷ link_word link ∷ word opening ∷ []
spec_words (Plain opening channels) = codes "attach" ∷ codes "plain" ∷ names_word channels ∷ word opening ∷ []
spec_words (Response channels prev deadline again) = codes "attach" ∷ codes "response" ∷ names_word channels ∷ id_word prev ∷ decimal deadline ∷ again_word again ∷ []
spec_words Socket = codes "attach" ∷ codes "socket" ∷ []

-- what is published: a lead, the channel, the id, the previous id, and more
abbrev pub item_line : List ℕ → Item → List (List ℕ) → List (List ℕ)
item_line lead item more = lead ∷ word item.channel ∷ id_word item.id ∷ id_word item.prev ∷ more

-- an answer's reason and fields have no place in a line
abbrev pub answer_words : Item → ResponsePart → Option (List (List ℕ))
answer_words item part = cond (length part.reason == 0 && (length part.fields == 0)) (Some (item_line (codes "answer") item (decimal part.code ∷ word part.body ∷ []))) None

-- an item has a line where it has one part, or none; a close to sockets has no line
abbrev pub parts_words : Item → Option ResponsePart → Option StreamPart → Option MessagePart → Option (List (List ℕ))
parts_words item None None None = Some (item_line (codes "bare") item [])
parts_words item None (Some (Content bytes)) None = Some (item_line (codes "publish") item (word bytes ∷ []))
parts_words item None (Some StreamClose) None = Some (item_line (codes "close") item [])
parts_words item (Some part) None None = answer_words item part
parts_words item None None (Some (TextPart bytes)) = Some (item_line (codes "message") item (codes "text" ∷ word bytes ∷ []))
parts_words item None None (Some (BinaryPart bytes)) = Some (item_line (codes "message") item (codes "binary" ∷ word bytes ∷ []))
parts_words item None None (Some MessageClose) = None
parts_words item None (Some part) (Some other) = None
parts_words item (Some part) (Some other) rest = None
parts_words item (Some part) None (Some other) = None

abbrev pub item_words : Item → Option (List (List ℕ))
item_words item = parts_words item item.response item.stream item.message

-- a push of a close has a line where it has a code of 1000 to 4999 and no reason
abbrev pub hangup_words : ℕ → Option ℕ → List ℕ → Option (List (List ℕ))
hangup_words hold None reason = None
hangup_words hold (Some code) reason = cond (nat_le 1000 code && nat_le code 4999 && (length reason == 0)) (Some (codes "hangup" ∷ decimal hold ∷ decimal code ∷ [])) None

abbrev pub push_words : ℕ → Message → Option (List (List ℕ))
push_words hold (Text bytes) = Some (codes "push" ∷ decimal hold ∷ codes "text" ∷ word bytes ∷ [])
push_words hold (Binary bytes) = Some (codes "push" ∷ decimal hold ∷ codes "binary" ∷ word bytes ∷ [])
push_words hold (Ping bytes) = Some (codes "push" ∷ decimal hold ∷ codes "ping" ∷ word bytes ∷ [])
push_words hold (Pong bytes) = Some (codes "push" ∷ decimal hold ∷ codes "pong" ∷ word bytes ∷ [])
push_words hold (Close code reason) = hangup_words hold code reason

-- the words of an event's line, where its form has one
abbrev pub words_of : Event → Option (List (List ℕ))
words_of (Attach spec) = Some (spec_words spec)
words_of (Publish item) = item_words item
words_of (Take hold now) = Some (codes "take" ∷ decimal hold ∷ decimal now ∷ [])
words_of (Page hold from to bytes then) = Some (codes "page" ∷ decimal hold ∷ word from ∷ word to ∷ then_word then ∷ word bytes ∷ [])
words_of (PageFailed hold) = Some (codes "failed" ∷ decimal hold ∷ [])
words_of (Push hold message) = push_words hold message
words_of (Join hold channel) = Some (codes "join" ∷ decimal hold ∷ word channel ∷ [])
words_of (Leave hold channel) = Some (codes "leave" ∷ decimal hold ∷ word channel ∷ [])
words_of (Detach hold) = Some (codes "detach" ∷ decimal hold ∷ [])

-- the line of an event, without its line feed: one that is within the limits and whose form has a line
abbrev pub line_of : Event → Option (List ℕ)
line_of event = cond (fits event) (option_map joined (words_of event)) None

-- bytes are below 256
abbrev pub IsBytes : List ℕ → Type 0
IsBytes bytes = All (λ (b : ℕ). b < 256) bytes

-- the bytes of a name or an id
pub record IsNamed (name : List ℕ) : Type 0 where
  pub form : IsName name
  pub small : IsBytes name

abbrev pub IsSomeId : Option (List ℕ) → Type 0
IsSomeId None = Unit {0}
IsSomeId (Some id) = IsNamed id

abbrev pub IsSpec : HoldSpec → Type 0
IsSpec (Stream opening channel prev link) = IsBytes opening × IsNamed channel × IsNamed prev
IsSpec (Plain opening channels) = IsBytes opening × All IsNamed channels
IsSpec (Response channels prev deadline again) = All IsNamed channels × IsSomeId prev × (deadline < 2 ^ 64)
IsSpec Socket = Unit {0}

abbrev pub IsResponsePart : Option ResponsePart → Type 0
IsResponsePart None = Unit {0}
IsResponsePart (Some part) = (part.code < 2 ^ 16) × IsBytes part.body

abbrev pub IsStreamPart : Option StreamPart → Type 0
IsStreamPart None = Unit {0}
IsStreamPart (Some StreamClose) = Unit {0}
IsStreamPart (Some (Content bytes)) = IsBytes bytes

abbrev pub IsMessagePart : Option MessagePart → Type 0
IsMessagePart None = Unit {0}
IsMessagePart (Some MessageClose) = Unit {0}
IsMessagePart (Some (TextPart bytes)) = IsBytes bytes
IsMessagePart (Some (BinaryPart bytes)) = IsBytes bytes

pub record IsItem (item : Item) : Type 0 where
  pub channel : IsNamed item.channel
  pub id : IsSomeId item.id
  pub prev : IsSomeId item.prev
  pub response : IsResponsePart item.response
  pub stream : IsStreamPart item.stream
  pub message : IsMessagePart item.message

abbrev pub IsMessage : Message → Type 0
IsMessage (Text bytes) = IsBytes bytes
IsMessage (Binary bytes) = IsBytes bytes
IsMessage (Ping bytes) = IsBytes bytes
IsMessage (Pong bytes) = IsBytes bytes
IsMessage (Close None reason) = Unit {0}
IsMessage (Close (Some code) reason) = code < 2 ^ 16

-- an event that a program can make: its names and ids are names, its bytes and numbers are within their types
abbrev pub IsEvent : Event → Type 0
IsEvent (Attach spec) = IsSpec spec
IsEvent (Publish item) = IsItem item
IsEvent (Take hold now) = (hold < 2 ^ 64) × (now < 2 ^ 64)
IsEvent (Page hold from to bytes then) = (hold < 2 ^ 64) × IsNamed from × IsNamed to × IsBytes bytes
IsEvent (PageFailed hold) = hold < 2 ^ 64
IsEvent (Push hold message) = (hold < 2 ^ 64) × IsMessage message
IsEvent (Join hold channel) = (hold < 2 ^ 64) × IsNamed channel
IsEvent (Leave hold channel) = (hold < 2 ^ 64) × IsNamed channel
IsEvent (Detach hold) = hold < 2 ^ 64

-- the event fits, and this is its line
pub record Spells (line : List ℕ) (event : Event) : Type 0 where
  pub fit : fits event ≡ true
  pub spelled : line_of event ≡ Some line

-- the line is that of an event that a program can make
abbrev pub IsInGrammar : List ℕ → Type 0
IsInGrammar line = (event : Event) × IsEvent event × Spells line event
