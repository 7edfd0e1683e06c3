-- Which events are within the limits.
use Rattle.std.specs.Prelude.{ℕ, Bool, true, nat_le, ◌==◌, ◌&&◌, ◌||◌, not, List, [], ◌∷◌, length, Option, Some, None, is_none}
use Rattle.std.specs.List.{list_any}
use Rattle.gp_plain.specs.Names.{same_id}
use Rattle.gp_plain.specs.declared.item.Item.{Item}
use Rattle.gp_plain.specs.declared.item.ResponsePart.{ResponsePart}
use Rattle.gp_plain.specs.declared.item.StreamPart.{StreamPart}
use Rattle.gp_plain.specs.declared.item.StreamPart.TheVariants.{Content, Close as StreamClose}
use Rattle.gp_plain.specs.declared.item.MessagePart.{MessagePart}
use Rattle.gp_plain.specs.declared.item.MessagePart.TheVariants.{Text as TextPart, Binary as BinaryPart, Close as MessageClose}
use Rattle.gp_plain.specs.declared.item.Message.{Message}
use Rattle.gp_plain.specs.declared.item.Message.TheVariants.{Text, Binary, Ping, Pong, Close}
use Rattle.gp_plain.specs.declared.event.Event.{Event}
use Rattle.gp_plain.specs.declared.event.Event.TheVariants.{Attach, Publish, Take, Page, PageFailed, Push, Join, Leave, Detach}
use Rattle.gp_plain.specs.declared.event.HoldSpec.{HoldSpec}
use Rattle.gp_plain.specs.declared.event.HoldSpec.TheVariants.{Stream, Plain, Response, Socket}

-- openings and pages have at most 262,144 bytes
abbrev pub is_short_page : List ℕ → Bool
is_short_page bytes = nat_le (length bytes) 262144

-- the content of one format has at most 65,536 bytes
abbrev pub is_short_content : List ℕ → Bool
is_short_content bytes = nat_le (length bytes) 65536

-- the code is 200 to 599
abbrev pub fits_response : Option ResponsePart → Bool
fits_response None = true
fits_response (Some part) = nat_le 200 part.code && nat_le part.code 599 && is_short_content part.body

abbrev pub fits_stream : Option StreamPart → Bool
fits_stream None = true
fits_stream (Some StreamClose) = true
fits_stream (Some (Content bytes)) = is_short_content bytes

abbrev pub fits_message_part : Option MessagePart → Bool
fits_message_part None = true
fits_message_part (Some MessageClose) = true
fits_message_part (Some (TextPart bytes)) = is_short_content bytes
fits_message_part (Some (BinaryPart bytes)) = is_short_content bytes

abbrev pub fits_item : Item → Bool
fits_item item = fits_response item.response && fits_stream item.stream && fits_message_part item.message

-- a message has at most 1,048,576 bytes, a ping or pong at most 125, the reason of a close at most 123,
-- and a close without a code has no reason
abbrev pub fits_close : Option ℕ → List ℕ → Bool
fits_close None reason = length reason == 0
fits_close (Some code) reason = nat_le (length reason) 123

abbrev pub fits_message : Message → Bool
fits_message (Text bytes) = nat_le (length bytes) 1048576
fits_message (Binary bytes) = nat_le (length bytes) 1048576
fits_message (Ping bytes) = nat_le (length bytes) 125
fits_message (Pong bytes) = nat_le (length bytes) 125
fits_message (Close code reason) = fits_close code reason

abbrev pub are_different : List (List ℕ) → Bool
are_different [] = true
are_different (name ∷ names) = not (list_any (λ (other : List ℕ). same_id other name) names) && are_different names

-- 1 to 8 different names
abbrev pub fits_channels : List (List ℕ) → Bool
fits_channels names = nat_le 1 (length names) && nat_le (length names) 8 && are_different names

abbrev pub fits_spec : HoldSpec → Bool
fits_spec (Stream opening channel prev link) = is_short_page opening
fits_spec (Plain opening channels) = is_short_page opening && fits_channels channels
fits_spec (Response channels prev deadline again) = fits_channels channels && (is_none prev || (length channels == 1))
fits_spec Socket = true

-- the event is within the limits
abbrev pub fits : Event → Bool
fits (Attach spec) = fits_spec spec
fits (Publish item) = fits_item item
fits (Take hold now) = true
fits (Page hold from to bytes then) = is_short_page bytes
fits (PageFailed hold) = true
fits (Push hold message) = fits_message message
fits (Join hold channel) = true
fits (Leave hold channel) = true
fits (Detach hold) = true
