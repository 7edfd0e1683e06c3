-- What a client of a long poll is sent.
use Rattle.std.specs.Prelude.{ℕ, ◌≡◌, ◌==◌, List, [], ◌∷◌, ◌++◌, slice_get, Option, Some, None, if◌then◌else◌}
use Rattle.std.specs.Option.{option_map_or}
use Rattle.gp_plain.specs.declared.item.ResponsePart.{ResponsePart}
use Rattle.gp_plain.specs.declared.reply.EndCause.{EndCause}
use Rattle.gp_plain.specs.declared.reply.EndCause.TheVariants.{Closed, Detached, Gap, Unrecovered, Overflow, Answered, Retry, TimedOut}
use Rattle.gp_plain.specs.declared.reply.Piece.{Piece}
use Rattle.gp_plain.specs.declared.reply.Piece.TheVariants.{Opening, Item as ItemPiece, Page as PagePiece, Message as MessagePiece, Answer as AnswerPiece}
use Rattle.gp_plain.specs.History.{held}
use Rattle.gp_plain.specs.Holds.{Held, log}
use Rattle.gp_session.specs.Seats.{SeatView}
use Rattle.gp_session.specs.Wires.{WireView, BytesRow, exactly}
use Rattle.gp_session_hold.specs.Rows.{KeptView, taken_at, told_at}
use Rattle.gp_session_wait.specs.Answers.{answer_of, answer_text}
use Rattle.gp_session_wait.specs.Waits.{Waits, IsAnswered, IsUnput, IsRetried, IsOverflowed, most_repeats}
use Rattle.gp_session_wait.specs.Views.{WaitView}
use Rattle.gp_session_wait.specs.declared.answer.Answer.{Answer}
use Rattle.gp_session_wait.specs.declared.wait.Repeat.{Repeat}

-- the answer that a piece is
abbrev pub answer_in : Piece → Option ResponsePart
answer_in (Opening bytes) = None
answer_in (ItemPiece to bytes close) = None
answer_in (PagePiece from to bytes) = None
answer_in (MessagePiece message) = None
answer_in (AnswerPiece to part) = Some part

-- the answer with which pieces end
abbrev pub last_answer : List Piece → Option ResponsePart
last_answer [] = None
last_answer (piece ∷ []) = answer_in piece
last_answer (piece ∷ next ∷ pieces) = last_answer (next ∷ pieces)

abbrev pub part_text : ResponsePart → List ℕ
part_text part = answer_text (answer_of part)

-- the text of a long poll, by what was taken of its hold and by the end that was told: nothing while it waits; then the answer of the
-- item, or the origin's own at the deadline and where the request was repeated as often as may be; and nothing at any other end
abbrev pub poll_text : Answer → ℕ → List Piece → Option EndCause → List ℕ
poll_text own repeats taken None = []
poll_text own repeats taken (Some Answered) = option_map_or part_text (last_answer taken) []
poll_text own repeats taken (Some TimedOut) = answer_text own
poll_text own repeats taken (Some Retry) = if repeats == most_repeats then answer_text own else []
poll_text own repeats taken (Some Overflow) = []
poll_text own repeats taken (Some Closed) = []
poll_text own repeats taken (Some Detached) = []
poll_text own repeats taken (Some Gap) = []
poll_text own repeats taken (Some Unrecovered) = []

-- Row: the bytes of a long poll. What was sent, followed by what waits, is its text
abbrev pub PollRow : WaitView → WireView → SeatView → ℕ → Type 0
PollRow v w s number = BytesRow w (exactly (poll_text v.own v.repeats (taken_at s number) (told_at s number)))

-- the bytes row of a long poll that waits, of one that was answered, of one that is to be repeated, and of one that has overflowed.
-- Where memory was wanting for the answer, nothing is sent
pub record WaitLaw : Type 0 where
  pub waits : (v : WaitView) (w : WireView) (s : SeatView) → Waits v w s → PollRow v w s v.hold.number
  pub answered : (v : WaitView) (w : WireView) (s : SeatView) (hold : KeptView) (cause : EndCause) (code : ℕ) → IsAnswered v w s hold cause code → PollRow v w s hold.number
  pub retried : (v : WaitView) (w : WireView) (s : SeatView) (r : Repeat) → IsRetried v w s r → PollRow v w s r.hold.number
  pub overflowed : (v : WaitView) (w : WireView) (s : SeatView) (hold : KeptView) → IsOverflowed v w s hold → PollRow v w s hold.number
  pub unput : (v : WaitView) (w : WireView) (s : SeatView) (hold : KeptView) (cause : EndCause) → IsUnput v w s hold cause → BytesRow w (exactly [])

-- no piece is an answer
abbrev pub NoAnswer : List Piece → Type 0
NoAnswer [] = Unit {0}
NoAnswer (piece ∷ pieces) = (answer_in piece ≡ None) × NoAnswer pieces

-- the log has this answer as its last piece, and no other
pub record HasOneAnswer (log : List Piece) (part : ResponsePart) : Type 0 where
  pub front : List Piece
  pub to : Option (List ℕ)
  pub whole : log ≡ front ++ AnswerPiece to part ∷ []
  pub none_before : NoAnswer front

-- where a Take told that the hold was answered, its text is the only answer of the hold's log
abbrev pub AnswerLaw : Type 0
AnswerLaw = (s : SeatView) (number : ℕ) (h : Held) (own : Answer) (repeats : ℕ) → slice_get (held s.pass.seen) number ≡ Some h → told_at s number ≡ Some Answered
    → (part : ResponsePart) × HasOneAnswer (log h) part × (poll_text own repeats (taken_at s number) (told_at s number) ≡ part_text part)
