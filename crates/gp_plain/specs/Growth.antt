-- A run of pieces that is made before the hold that it is for is changed.
use Rattle.std.specs.Prelude.{ℕ, ◌+◌, ◌≤◌, ◌==◌, cond, List, [], ◌∷◌, ◌++◌, length, sum_by, fold, Option, Some, None, is_none, option_map}
use Rattle.gp_plain.specs.Roomy.{Roomy}
use Rattle.gp_plain.specs.Pieces.{weight, moves_to, position_after, end_by, has_room}
use Rattle.gp_plain.specs.Holds.{State}
use Rattle.gp_plain.specs.declared.reply.Piece.{Piece}
use Rattle.gp_plain.specs.declared.reply.EndCause.{EndCause}
use Rattle.gp_plain.specs.declared.reply.EndCause.TheVariants.{Overflow}

-- the pieces, the end that they bring, and for how many pieces in all they bring room
pub record Growth : Type 0 where
  pub pieces : List Piece
  pub ended : Option EndCause
  pub room : Option ℕ

abbrev pub growth_of : List Piece → Option EndCause → Option ℕ → Growth
growth_of pieces ended room = record { pieces = pieces; ended = ended; room = room }

abbrev pub no_growth : Growth
no_growth = record { pieces = []; ended = None; room = None }

-- one more piece: it is added where there is room behind what waits, and else brings the end Overflow. Nothing is
-- added behind an end
abbrev pub with_piece : List Piece → Growth → Piece → Growth
with_piece pending g piece =
    cond (is_none g.ended) (cond (has_room (pending ++ g.pieces) piece) (record g { pieces = g.pieces ++ piece ∷ []; ended = end_by piece }) (record g { ended = Some Overflow })) g

abbrev pub with_pieces : List Piece → Growth → List Piece → Growth
with_pieces pending g pieces = fold (with_piece pending) g pieces

abbrev pub end_or : Option EndCause → Option EndCause → Option EndCause
end_or (Some cause) other = Some cause
end_or None other = other

-- what a hold is once it has the pieces
abbrev pub grown : State → Growth → State
grown s g = record s {
  pending = s.pending ++ g.pieces;
  position = option_map (λ (at : List ℕ). position_after at g.pieces) s.position;
  ended = end_or g.ended s.ended;
  misses = cond (length g.pieces == 0) s.misses 0;
}

abbrev pub some_or : Option (List ℕ) → Option (List ℕ) → Option (List ℕ)
some_or (Some id) other = Some id
some_or None other = other

-- the id of the last piece that has one
abbrev pub last_of : Option (List ℕ) → Piece → Option (List ℕ)
last_of id piece = some_or (moves_to piece) id

abbrev pub last_id_of : List Piece → Option (List ℕ)
last_id_of pieces = fold last_of None pieces

-- the pieces are within the limits behind what waits
pub record IsWithin (pending pieces : List Piece) : Type 0 where
  pub bytes : sum_by weight (pending ++ pieces) ≤ 524288
  pub count : length (pending ++ pieces) ≤ 1024

-- there is room for the pieces: that of the hold, or that which they bring
abbrev pub HasRoomIn : Roomy Piece → Growth → Option ℕ → Type 0
HasRoomIn to g None = length g.pieces ≤ to.spare
HasRoomIn to g (Some room) = length to.items + length g.pieces ≤ room

-- the pieces can be added with no further memory
pub record IsReady (to : Roomy Piece) (g : Growth) : Type 0 where
  pub within : IsWithin to.items g.pieces
  pub room : HasRoomIn to g g.room
