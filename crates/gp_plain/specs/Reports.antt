-- What is told of a hold once its owner is done with it.
use Rattle.std.specs.Prelude.{ℕ, ◌-◌, ◌^◌, min, List, length, Option}
use Rattle.gp_plain.specs.Pieces.{text}
use Rattle.gp_plain.specs.Holds.{terms_of, position_of, end_or_detached}
use Rattle.gp_plain.specs.Others.{Share}
use Rattle.gp_plain.specs.declared.event.HoldKind.{HoldKind}
use Rattle.gp_plain.specs.declared.event.HoldSpec.{HoldSpec}
use Rattle.gp_plain.specs.declared.reply.HoldReport.{HoldReport}
use Rattle.gp_plain.specs.declared.reply.Piece.{Piece}
use Rattle.gp_plain.specs.declared.reply.Piece.TheVariants.{Opening, Item as ItemPiece, Page as PagePiece, Message as MessagePiece, Answer as AnswerPiece}
use Rattle.gp_plain.specs.declared.tally.Payload.{Payload}
use Rattle.gp_plain.specs.declared.tally.Payload.TheVariants as payload

-- a number that is told as 2^64 - 1 where it is more
abbrev pub told_number : ℕ → ℕ
told_number n = min n (2 ^ 64 - 1)

abbrev pub kind_of : HoldSpec → HoldKind
kind_of spec = (terms_of spec).kind

-- what is counted of a hold while it is taken of: its kind, the pieces and their bytes, and the position behind them
pub record TallyView : Type 0 where
  pub kind : HoldKind
  pub pieces : ℕ
  pub bytes : ℕ
  pub position : Option (List ℕ)

abbrev pub tally_of : HoldSpec → List Piece → TallyView
tally_of spec taken = record { kind = kind_of spec; pieces = told_number (length taken); bytes = told_number (length (text taken)); position = position_of spec taken }

-- the number and the kind of a hold, how many pieces and bytes were taken of it, the position behind them, and the end that
-- a Take told, or Detached where none did
abbrev pub report : ℕ → Share → HoldReport
report number share =
    let tally = tally_of share.spec share.taken in
    record { number = number; kind = tally.kind; pieces = tally.pieces; bytes = tally.bytes; position = tally.position; end = end_or_detached share.told }

-- what a piece gives to send: bytes, a message to a socket, or the answer of a response hold
abbrev pub payload_of : Piece → Payload
payload_of (Opening bytes) = payload.Bytes bytes
payload_of (ItemPiece to bytes close) = payload.Bytes bytes
payload_of (PagePiece from to bytes) = payload.Bytes bytes
payload_of (MessagePiece message) = payload.Message message
payload_of (AnswerPiece to part) = payload.Answer part
