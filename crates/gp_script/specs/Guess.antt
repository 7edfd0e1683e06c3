-- The event that the words of a line spell, if they spell one. A line is read only where it is the line of this event.
use Rattle.std.specs.Prelude.{ℕ, ◌+◌, ◌*◌, ◌-◌, ◌^◌, ◌||◌, eqb, min, Bool, cond, List, [], map, slice_index_or, Option, Some, None, codes}
use Rattle.std.specs.List.{slice_split, fold}
use Rattle.std.specs.Cmp.Lexicographic.{pointwise}
use Rattle.percent_encoding.specs.Percent.{percent_decode}
use Rattle.gp_plain.specs.declared.item.Item.{Item}
use Rattle.gp_plain.specs.declared.item.ResponsePart.{ResponsePart}
use Rattle.gp_plain.specs.declared.item.StreamPart.{StreamPart}
use Rattle.gp_plain.specs.declared.item.StreamPart.TheVariants.{Content, Close as StreamClose}
use Rattle.gp_plain.specs.declared.item.MessagePart.{MessagePart}
use Rattle.gp_plain.specs.declared.item.MessagePart.TheVariants.{Text as TextPart, Binary as BinaryPart}
use Rattle.gp_plain.specs.declared.item.Message.{Message}
use Rattle.gp_plain.specs.declared.item.Message.TheVariants.{Text, Binary, Ping, Pong, Close}
use Rattle.gp_plain.specs.declared.event.Event.{Event}
use Rattle.gp_plain.specs.declared.event.Event.TheVariants.{Attach, Publish, Take, Page, PageFailed, Push, Join, Leave, Detach}
use Rattle.gp_plain.specs.declared.event.HoldSpec.{HoldSpec}
use Rattle.gp_plain.specs.declared.event.HoldSpec.TheVariants.{Stream, Plain, Response, Socket}
use Rattle.gp_plain.specs.declared.event.Then.{Then}
use Rattle.gp_plain.specs.declared.event.Then.TheVariants.{Hold, Next, End}

-- the word is this text
abbrev pub is_word : List ℕ → List ℕ → Bool
is_word word text = pointwise eqb word text

-- the word at a place, or an empty one
abbrev pub word_at : List (List ℕ) → ℕ → List ℕ
word_at words place = slice_index_or words place []

-- the number so far, and one more decimal digit
abbrev pub with_digit : ℕ → ℕ → ℕ
with_digit n digit = min (n * 10 + (digit - 48)) (2 ^ 64 - 1)

abbrev pub number_of : List ℕ → ℕ
number_of word = fold with_digit 0 word

abbrev pub bytes_of : List ℕ → List ℕ
bytes_of word = cond (is_word word (codes "!")) [] (percent_decode word)

abbrev pub id_of : List ℕ → Option (List ℕ)
id_of word = cond (is_word word (codes "!")) None (Some (bytes_of word))

abbrev pub names_of : List ℕ → List (List ℕ)
names_of word = map bytes_of (slice_split (λ b. eqb b 44) word)

-- what every item's line begins with
abbrev pub head_of : List (List ℕ) → Item
head_of words = record {
  channel = bytes_of (word_at words 1);
  id = id_of (word_at words 2);
  prev = id_of (word_at words 3);
  response = None;
  stream = None;
  message = None;
}

abbrev pub stream_spec_of : List (List ℕ) → HoldSpec
stream_spec_of words = Stream (bytes_of (word_at words 5)) (bytes_of (word_at words 2)) (bytes_of (word_at words 3)) (is_word (word_at words 4) (codes "link"))

abbrev pub plain_spec_of : List (List ℕ) → HoldSpec
plain_spec_of words = Plain (bytes_of (word_at words 3)) (names_of (word_at words 2))

abbrev pub response_spec_of : List (List ℕ) → HoldSpec
response_spec_of words = Response (names_of (word_at words 2)) (id_of (word_at words 3)) (number_of (word_at words 4)) (is_word (word_at words 5) (codes "again"))

abbrev pub spec_of : List (List ℕ) → HoldSpec
spec_of words =
    cond (is_word (word_at words 1) (codes "stream")) (stream_spec_of words)
    (cond (is_word (word_at words 1) (codes "plain")) (plain_spec_of words)
    (cond (is_word (word_at words 1) (codes "response")) (response_spec_of words) Socket))

abbrev pub answer_of : List (List ℕ) → ResponsePart
answer_of words = record {
  code = min (number_of (word_at words 4)) 65535;
  reason = [];
  fields = [];
  body = bytes_of (word_at words 5);
}

-- the part of a message is named by a word
abbrev pub message_part_of : List (List ℕ) → MessagePart
message_part_of words = cond (is_word (word_at words 4) (codes "text")) (TextPart (bytes_of (word_at words 5))) (BinaryPart (bytes_of (word_at words 5)))

abbrev pub with_stream : StreamPart → Item → Item
with_stream part item = record { channel = item.channel; id = item.id; prev = item.prev; response = item.response; stream = Some part; message = item.message }

abbrev pub with_response : ResponsePart → Item → Item
with_response part item = record { channel = item.channel; id = item.id; prev = item.prev; response = Some part; stream = item.stream; message = item.message }

abbrev pub with_message : MessagePart → Item → Item
with_message part item = record { channel = item.channel; id = item.id; prev = item.prev; response = item.response; stream = item.stream; message = Some part }

-- the item of a line that isn't of another kind, by its lead
abbrev pub item_of : List (List ℕ) → Item
item_of words =
    cond (is_word (word_at words 0) (codes "publish")) (with_stream (Content (bytes_of (word_at words 4))) (head_of words))
    (cond (is_word (word_at words 0) (codes "close")) (with_stream StreamClose (head_of words))
    (cond (is_word (word_at words 0) (codes "answer")) (with_response (answer_of words) (head_of words))
    (cond (is_word (word_at words 0) (codes "message")) (with_message (message_part_of words) (head_of words)) (head_of words))))

abbrev pub push_of : List (List ℕ) → Message
push_of words =
    cond (is_word (word_at words 2) (codes "text")) (Text (bytes_of (word_at words 3)))
    (cond (is_word (word_at words 2) (codes "binary")) (Binary (bytes_of (word_at words 3)))
    (cond (is_word (word_at words 2) (codes "ping")) (Ping (bytes_of (word_at words 3))) (Pong (bytes_of (word_at words 3)))))

abbrev pub then_of : List ℕ → Then
then_of word = cond (is_word word (codes "hold")) Hold (cond (is_word word (codes "next")) Next End)

abbrev pub page_of : List (List ℕ) → Event
page_of words = Page (number_of (word_at words 1)) (bytes_of (word_at words 2)) (bytes_of (word_at words 3)) (bytes_of (word_at words 5)) (then_of (word_at words 4))

-- what a push or a hangup sends
abbrev pub sent_of : List (List ℕ) → Message
sent_of words = cond (is_word (word_at words 0) (codes "push")) (push_of words) (Close (Some (min (number_of (word_at words 2)) 65535)) [])

abbrev pub member_of : List (List ℕ) → Event
member_of words =
    cond (is_word (word_at words 0) (codes "join")) (Join (number_of (word_at words 1)) (bytes_of (word_at words 2)))
    (Leave (number_of (word_at words 1)) (bytes_of (word_at words 2)))

-- a line with the number of a hold
abbrev pub held_of : List (List ℕ) → Event
held_of words =
    cond (is_word (word_at words 0) (codes "take")) (Take (number_of (word_at words 1)) (number_of (word_at words 2)))
    (cond (is_word (word_at words 0) (codes "detach")) (Detach (number_of (word_at words 1)))
    (cond (is_word (word_at words 0) (codes "failed")) (PageFailed (number_of (word_at words 1)))
    (cond (is_word (word_at words 0) (codes "page")) (page_of words) (member_of words))))

abbrev pub is_item_lead : List ℕ → Bool
is_item_lead lead = is_word lead (codes "publish") || is_word lead (codes "close") || is_word lead (codes "answer") || is_word lead (codes "message") || is_word lead (codes "bare")

abbrev pub is_push_lead : List ℕ → Bool
is_push_lead lead = is_word lead (codes "push") || is_word lead (codes "hangup")

-- the event, by the first word of the line; a first word that leads no line is taken for the last lead
abbrev pub event_of : List (List ℕ) → Event
event_of words =
    cond (is_word (word_at words 0) (codes "attach")) (Attach (spec_of words))
    (cond (is_item_lead (word_at words 0)) (Publish (item_of words))
    (cond (is_push_lead (word_at words 0)) (Push (number_of (word_at words 1)) (sent_of words)) (held_of words)))
