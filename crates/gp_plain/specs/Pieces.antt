-- What a piece of a log says: its bytes, the id that it moves to, and the end that it brings.
use Rattle.std.specs.Prelude.{ℕ, ◌≡◌, ◌+◌, ◌-◌, Bool, true, false, cond, max, nat_le, ◌&&◌, List, [], ◌∷◌, length, take, drop, sum_by, fold, Option, Some, None}
use Rattle.std.specs.List.{flat_map}
use Rattle.gp_plain.specs.declared.item.Message.{Message}
use Rattle.gp_plain.specs.declared.item.Message.TheVariants.{Text, Binary, Ping, Pong, Close}
use Rattle.gp_plain.specs.declared.reply.Piece.{Piece}
use Rattle.gp_plain.specs.declared.reply.Piece.TheVariants.{Opening, Item as ItemPiece, Page as PagePiece, Message as MessagePiece, Answer as AnswerPiece}
use Rattle.gp_plain.specs.declared.reply.EndCause.{EndCause}
use Rattle.gp_plain.specs.declared.reply.EndCause.TheVariants.{Closed, Answered}

-- the payload of a message; a close message gives no byte
abbrev pub message_bytes : Message → List ℕ
message_bytes (Text bytes) = bytes
message_bytes (Binary bytes) = bytes
message_bytes (Ping bytes) = bytes
message_bytes (Pong bytes) = bytes
message_bytes (Close code reason) = []

-- the bytes that a piece sends
abbrev pub piece_bytes : Piece → List ℕ
piece_bytes (Opening bytes) = bytes
piece_bytes (ItemPiece to bytes close) = bytes
piece_bytes (PagePiece from to bytes) = bytes
piece_bytes (MessagePiece message) = message_bytes message
piece_bytes (AnswerPiece to part) = part.body

-- the bytes of pieces, joined
abbrev pub text : List Piece → List ℕ
text pieces = flat_map piece_bytes pieces

-- a close counts its reason and the two bytes of its code, and nothing without a code
abbrev pub message_weight : Message → ℕ
message_weight (Close (Some code) reason) = length reason + 2
message_weight (Close None reason) = 0
message_weight (Text bytes) = length bytes
message_weight (Binary bytes) = length bytes
message_weight (Ping bytes) = length bytes
message_weight (Pong bytes) = length bytes

-- the bytes that a piece counts while it waits
abbrev pub weight : Piece → ℕ
weight (Opening bytes) = length bytes
weight (ItemPiece to bytes close) = length bytes
weight (PagePiece from to bytes) = length bytes
weight (MessagePiece message) = message_weight message
weight (AnswerPiece to part) = length part.body

-- the id that a piece moves the position to, where it has one
abbrev pub moves_to : Piece → Option (List ℕ)
moves_to (Opening bytes) = None
moves_to (ItemPiece to bytes close) = to
moves_to (PagePiece from to bytes) = Some to
moves_to (MessagePiece message) = None
moves_to (AnswerPiece to part) = to

abbrev pub id_or : Option (List ℕ) → List ℕ → List ℕ
id_or (Some id) position = id
id_or None position = position

abbrev pub moved : List ℕ → Piece → List ℕ
moved position piece = id_or (moves_to piece) position

-- the id of the last piece that has one, or the first position
abbrev pub position_after : List ℕ → List Piece → List ℕ
position_after start log = fold moved start log

abbrev pub closed_by : Bool → Option EndCause
closed_by true = Some Closed
closed_by false = None

abbrev pub closed_by_message : Message → Option EndCause
closed_by_message (Close code reason) = Some Closed
closed_by_message (Text bytes) = None
closed_by_message (Binary bytes) = None
closed_by_message (Ping bytes) = None
closed_by_message (Pong bytes) = None

-- the end that a piece brings: a close ends a hold, and so does an answer
abbrev pub end_by : Piece → Option EndCause
end_by (Opening bytes) = None
end_by (ItemPiece to bytes close) = closed_by close
end_by (PagePiece from to bytes) = None
end_by (MessagePiece message) = closed_by_message message
end_by (AnswerPiece to part) = Some Answered

-- what waits has room for one more piece: 524,288 bytes and 1,024 pieces at most
abbrev pub has_room : List Piece → Piece → Bool
has_room pending piece = nat_le (sum_by weight pending + weight piece) 524288 && nat_le (length pending + 1) 1024

-- how many pieces, from the first on, have at most so many bytes together
abbrev pub count_within : ℕ → List Piece → ℕ
count_within room [] = 0
count_within room (piece ∷ pieces) = cond (nat_le (weight piece) room) (1 + count_within (room - weight piece) pieces) 0

-- how many pieces one Take gives: those that have at most 65,536 bytes together, or the first alone where it has more
abbrev pub batch_count : List Piece → ℕ
batch_count pending = max 1 (count_within 65536 pending)

-- the pieces that one Take gives
abbrev pub batch : List Piece → List Piece
batch pending = take (batch_count pending) pending

-- the pieces that one Take leaves
abbrev pub left : List Piece → List Piece
left pending = drop (batch_count pending) pending

abbrev pub is_page : Piece → Bool
is_page (Opening bytes) = false
is_page (ItemPiece to bytes close) = false
is_page (PagePiece from to bytes) = true
is_page (MessagePiece message) = false
is_page (AnswerPiece to part) = false

-- no piece is a page of a recovery
abbrev pub NoPage : List Piece → Type 0
NoPage [] = Unit {0}
NoPage (piece ∷ pieces) = (is_page piece ≡ false) × NoPage pieces
