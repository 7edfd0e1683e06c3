-- The lines of replies, logs and reports.
use Rattle.std.specs.Prelude.{ℕ, true, false, List, [], ◌∷◌, ◌++◌, length, Option, Some, None, codes}
use Rattle.std.specs.Fmt.{decimal}
use Rattle.gp_plain.specs.declared.event.HoldKind.{HoldKind}
use Rattle.gp_plain.specs.declared.event.HoldKind.TheVariants.{Stream, Plain, Response, Socket}
use Rattle.gp_plain.specs.declared.item.Message.{Message}
use Rattle.gp_plain.specs.declared.item.Message.TheVariants.{Text, Binary, Ping, Pong, Close}
use Rattle.gp_plain.specs.declared.reply.EndCause.{EndCause}
use Rattle.gp_plain.specs.declared.reply.EndCause.TheVariants.{Closed, Detached, Gap, Unrecovered, Overflow, Answered, Retry, TimedOut}
use Rattle.gp_plain.specs.declared.reply.Taken.{Taken}
use Rattle.gp_plain.specs.declared.reply.Reply.{Reply}
use Rattle.gp_plain.specs.declared.reply.Reply.TheVariants.{Attached, Full, Published, Repeat, Taken as TakenReply, Paged, Stale, Done, Foreign, Gone, OtherKind, Unknown}
use Rattle.gp_plain.specs.declared.reply.Piece.{Piece}
use Rattle.gp_plain.specs.declared.reply.Piece.TheVariants.{Opening, Item as ItemPiece, Page as PagePiece, Message as MessagePiece, Answer as AnswerPiece}
use Rattle.gp_plain.specs.declared.reply.HoldReport.{HoldReport}
use Rattle.gp_script.specs.Spelling.{word, id_word, line_text}

abbrev pub kind_word : HoldKind → List ℕ
kind_word Stream = codes "stream"
kind_word Plain = codes "plain"
kind_word Response = codes "response"
kind_word Socket = codes "socket"

abbrev pub cause_word : EndCause → List ℕ
cause_word Closed = codes "closed"
cause_word Detached = codes "detached"
cause_word Gap = codes "gap"
cause_word Unrecovered = codes "unrecovered"
cause_word Overflow = codes "overflow"
cause_word Answered = codes "answered"
cause_word Retry = codes "retry"
cause_word TimedOut = codes "timedout"

-- a cause, or `!` where there is no end
abbrev pub end_word : Option EndCause → List ℕ
end_word None = codes "!"
end_word (Some cause) = cause_word cause

-- a code, or `!` where it is absent
abbrev pub code_word : Option ℕ → List ℕ
code_word None = codes "!"
code_word (Some code) = decimal code

-- the first line of a hold's log
abbrev pub hold_words : ℕ → HoldKind → List (List ℕ)
hold_words number kind = codes "hold" ∷ decimal number ∷ kind_word kind ∷ []

abbrev pub hold_text : ℕ → HoldKind → List ℕ
hold_text number kind = line_text (hold_words number kind)

-- what a Take gave: how many pieces, the position to recover from, and the end
abbrev pub taken_words : Taken → List (List ℕ)
taken_words taken = codes "taken" ∷ decimal (length taken.pieces) ∷ id_word taken.recover ∷ end_word taken.ended ∷ []

abbrev pub reply_words : Reply → List (List ℕ)
reply_words (Attached n) = codes "attached" ∷ decimal n ∷ []
reply_words (Full n) = codes "full" ∷ decimal n ∷ []
reply_words (Published n) = codes "published" ∷ decimal n ∷ []
reply_words (Repeat id) = codes "repeat" ∷ word id ∷ []
reply_words (TakenReply taken) = taken_words taken
reply_words Paged = codes "paged" ∷ []
reply_words (Stale from position) = codes "stale" ∷ word from ∷ word position ∷ []
reply_words Done = codes "done" ∷ []
reply_words (Foreign owner) = codes "foreign" ∷ decimal owner ∷ []
reply_words (Gone cause) = codes "gone" ∷ cause_word cause ∷ []
reply_words (OtherKind kind) = codes "other" ∷ kind_word kind ∷ []
reply_words (Unknown hold) = codes "unknown" ∷ decimal hold ∷ []

-- the line of a reply
abbrev pub reply_text : Reply → List ℕ
reply_text reply = line_text (reply_words reply)

abbrev pub message_words : Message → List (List ℕ)
message_words (Text bytes) = codes "message" ∷ codes "text" ∷ word bytes ∷ []
message_words (Binary bytes) = codes "message" ∷ codes "binary" ∷ word bytes ∷ []
message_words (Ping bytes) = codes "message" ∷ codes "ping" ∷ word bytes ∷ []
message_words (Pong bytes) = codes "message" ∷ codes "pong" ∷ word bytes ∷ []
message_words (Close code reason) = codes "hangup" ∷ code_word code ∷ []

abbrev pub piece_words : Piece → List (List ℕ)
piece_words (Opening bytes) = codes "opening" ∷ word bytes ∷ []
piece_words (ItemPiece to bytes false) = codes "item" ∷ id_word to ∷ word bytes ∷ []
piece_words (ItemPiece to bytes true) = codes "close" ∷ id_word to ∷ []
piece_words (PagePiece from to bytes) = codes "page" ∷ word from ∷ word to ∷ word bytes ∷ []
piece_words (MessagePiece message) = message_words message
piece_words (AnswerPiece to part) = codes "answer" ∷ decimal part.code ∷ word part.body ∷ []

-- the line of a piece of a log
abbrev pub piece_text : Piece → List ℕ
piece_text piece = line_text (piece_words piece)

-- a hold that lives has its position, and one that ended its cause too
abbrev pub close_words : Option EndCause → Option (List ℕ) → List (List ℕ)
close_words None position = codes "live" ∷ id_word position ∷ []
close_words (Some cause) position = codes "ended" ∷ cause_word cause ∷ id_word position ∷ []

-- the last two lines of a log: all the bytes of its pieces, and where the hold stands
abbrev pub end_text : List ℕ → Option (List ℕ) → Option EndCause → List ℕ
end_text text position ended = line_text (codes "text" ∷ word text ∷ []) ++ line_text (close_words ended position)

abbrev pub report_words : HoldReport → List (List ℕ)
report_words report = codes "hold" ∷ decimal report.number ∷ kind_word report.kind ∷ decimal report.pieces ∷ decimal report.bytes ∷ id_word report.position ∷ cause_word report.end ∷ []

-- the line of a hold's report
abbrev pub report_text : HoldReport → List ℕ
report_text report = line_text (report_words report)
