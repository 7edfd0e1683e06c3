-- How holds end, and where they stand then.
use Rattle.std.specs.Prelude.{ℕ, ◌≡◌, true, false, List, [], ◌∷◌, ◌++◌, slice_get, Option, Some}
use Rattle.gp_plain.specs.Pieces.{end_by}
use Rattle.gp_plain.specs.Holds.{Held, log, pending, position, position_of, ended, is_live}
use Rattle.gp_plain.specs.History.{held}
use Rattle.gp_plain.specs.declared.event.Entry.{Entry}
use Rattle.gp_plain.specs.declared.reply.Piece.{Piece}
use Rattle.gp_plain.specs.declared.reply.EndCause.{EndCause}
use Rattle.gp_plain.specs.declared.reply.EndCause.TheVariants.{Answered}

-- the law of positions: the position of a hold is the id of the last piece of its log that has one, or its first position
abbrev pub PositionLaw : Type 0
PositionLaw = (entries : List Entry) (number : ℕ) (h : Held) → slice_get (held entries) number ≡ Some h → position h ≡ position_of h.spec (log h)

-- where a Take told an end, nothing waits, and the hold ended by that cause and was let go. A hold that was let go has
-- ended
pub record HasToldEnd (h : Held) : Type 0 where
  pub told : (cause : EndCause) → h.told ≡ Some cause → (pending h ≡ []) × (ended h ≡ Some cause) × (h.released ≡ true)
  pub released : h.released ≡ true → is_live h.state ≡ false

abbrev pub ToldLaw : Type 0
ToldLaw = (entries : List Entry) (number : ℕ) (h : Held) → slice_get (held entries) number ≡ Some h → HasToldEnd h

-- the last piece of a log brings an end
pub record IsBrought (log : List Piece) (cause : EndCause) : Type 0 where
  pub front : List Piece
  pub piece : Piece
  pub whole : log ≡ front ++ piece ∷ []
  pub end : end_by piece ≡ Some cause

-- a piece that brings an end is the last of the log, and the hold ended by it; and a hold ended Answered by such a piece
-- alone. So the log of a response hold has at most one answer
pub record EndsByPiece (log : List Piece) (ended : Option EndCause) : Type 0 where
  pub last : (front : List Piece) (piece : Piece) (rest : List Piece) (cause : EndCause) → log ≡ front ++ piece ∷ rest → end_by piece ≡ Some cause
      → (rest ≡ []) × (ended ≡ Some cause)
  pub answered : ended ≡ Some Answered → IsBrought log Answered

abbrev pub AnswerLaw : Type 0
AnswerLaw = (entries : List Entry) (number : ℕ) (h : Held) → slice_get (held entries) number ≡ Some h → EndsByPiece (log h) (ended h)
