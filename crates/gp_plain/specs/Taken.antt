-- What was taken of a hold that a chain covers.
use Rattle.std.specs.Prelude.{ℕ, ◌≡◌, List, ◌++◌, slice_get, Some}
use Rattle.gp_plain.specs.Pieces.{text}
use Rattle.gp_plain.specs.Holds.{Held}
use Rattle.gp_plain.specs.History.{held}
use Rattle.gp_plain.specs.Chain.{Chain, Link, Covers, IsBetween, ClosesLast, bytes_of}
use Rattle.gp_plain.specs.declared.event.Entry.{Entry}
use Rattle.gp_plain.specs.declared.reply.Piece.{Piece}

-- what was taken is the beginning of a text: the opening, and then the contents of the chain's items after the first
-- position, in order, each once and none skipped. A close stands among these items only as the last
pub record FollowsTaken (chain : Chain) (opening start : List ℕ) (taken : List Piece) : Type 0 where
  pub between : List Link
  pub at : List ℕ
  pub rest : List ℕ
  pub place : IsBetween chain start at between
  pub bytes : text taken ++ rest ≡ opening ++ bytes_of between
  pub closes_last : ClosesLast between

-- the law of what was taken, of each hold of a history that a chain covers
abbrev pub TakenLaw : Type 0
TakenLaw =
    (entries : List Entry) (chain : Chain) (number : ℕ) (h : Held) → slice_get (held entries) number ≡ Some h → (c : Covers chain entries number h)
    → FollowsTaken chain c.opening c.start h.taken
