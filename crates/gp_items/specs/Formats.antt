-- The formats of an item: what it is for each kind of hold.
use Rattle.std.specs.Prelude.{ℕ, nat_lt, bytes_eq, List, length, codes, Option, Some, None, option_map, Result, Ok, Err, if◌then◌else◌}
use Rattle.serde_json.specs.Data.{Data}
use Rattle.gp_plain.specs.declared.item.ResponsePart.{ResponsePart}
use Rattle.gp_plain.specs.declared.item.StreamPart.{StreamPart}
use Rattle.gp_plain.specs.declared.item.StreamPart.TheVariants as stream
use Rattle.gp_plain.specs.declared.item.MessagePart.{MessagePart}
use Rattle.gp_plain.specs.declared.item.MessagePart.TheVariants as message
use Rattle.gp_json.specs.Steps.{result_and_then}
use Rattle.gp_json.specs.Members.{text_member, object_member, present}
use Rattle.gp_json.specs.Payloads.{payload_of, bytes_of}
use Rattle.gp_json.specs.Responses.{response_of}
use Rattle.gp_json.specs.declared.payload.Payload.{Payload}
use Rattle.gp_json.specs.declared.payload.Payload.TheVariants as payload
use Rattle.gp_items.specs.Faults.{told}
use Rattle.gp_items.specs.declared.fault.ItemFault.{ItemFault}
use Rattle.gp_items.specs.declared.fault.ItemFault.TheVariants.{Long}
use Rattle.gp_items.specs.declared.format.Action.{Action}
use Rattle.gp_items.specs.declared.format.Action.TheVariants.{Send, End, Other}
use Rattle.gp_items.specs.declared.format.Sending.{Sending}
use Rattle.gp_items.specs.declared.format.Sending.TheVariants.{Content, Close}

-- the object that the member `formats` is
unfoldable pub formats_of : Data → Result (Option Data) ItemFault
formats_of d = told (object_member (codes "formats") d)

-- the object that the formats have for one of them
abbrev pub format_in : List ℕ → Option Data → Result (Option Data) ItemFault
format_in name None = Ok None
format_in name (Some formats) = told (object_member name formats)

-- what comes of a content is kept where the content has at most 65,536 bytes
abbrev pub short : {A : Type 0} → ℕ → A → Result A ItemFault
short bytes x = if nat_lt 65536 bytes then Err (Long bytes) else Ok x

abbrev pub response_if : Option Data → Result (Option ResponsePart) ItemFault
response_if None = Ok None
response_if (Some d) = result_and_then (told (response_of d)) (λ part. short (length part.body) (Some part))

-- the format `http-response`
unfoldable pub response_in : Option Data → Result (Option ResponsePart) ItemFault
response_in formats = result_and_then (format_in (codes "http-response") formats) response_if

-- `send` stands for itself and for no action, and `close` ends a stream and closes a socket
abbrev pub action_from : Option (List ℕ) → Action
action_from None = Send
action_from (Some text) = if bytes_eq text (codes "send") then Send else (if bytes_eq text (codes "close") then End else Other)

-- the content, of which one of `content` and `content-bin` must be there
unfoldable pub content_in : Data → Result Payload ItemFault
content_in d =
    result_and_then (told (payload_of (codes "content") (codes "content-bin") d)) (λ payload.
    result_and_then (told (present (codes "content") payload)) (λ content.
    short (length (bytes_of content)) content))

-- the content is looked at where it is sent
abbrev pub sending_by : Action → Data → Result (Option Sending) ItemFault
sending_by Send d = result_and_then (content_in d) (λ content. Ok (Some (Content content)))
sending_by End d = Ok (Some Close)
sending_by Other d = Ok None

abbrev pub sending_if : Option Data → Result (Option Sending) ItemFault
sending_if None = Ok None
sending_if (Some d) = result_and_then (told (text_member (codes "action") d)) (λ action. sending_by (action_from action) d)

-- a format with an action
unfoldable pub sending_in : List ℕ → Option Data → Result (Option Sending) ItemFault
sending_in name formats = result_and_then (format_in name formats) sending_if

abbrev pub stream_part : Sending → StreamPart
stream_part (Content content) = stream.Content (bytes_of content)
stream_part Close = stream.Close

abbrev pub message_part : Sending → MessagePart
message_part (Content (payload.Text bytes)) = message.Text bytes
message_part (Content (payload.Binary bytes)) = message.Binary bytes
message_part Close = message.Close

-- the format `http-stream`
unfoldable pub stream_in : Option Data → Result (Option StreamPart) ItemFault
stream_in formats = result_and_then (sending_in (codes "http-stream") formats) (λ sending. Ok (option_map stream_part sending))

-- the format `ws-message`
unfoldable pub message_in : Option Data → Result (Option MessagePart) ItemFault
message_in formats = result_and_then (sending_in (codes "ws-message") formats) (λ sending. Ok (option_map message_part sending))
