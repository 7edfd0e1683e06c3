-- How what a Take gave is put behind the bytes that wait for a client.
use Rattle.std.specs.Prelude.{ℕ, ◌≡◌, ◌≢◌, Bool, true, false, List, [], ◌++◌, map, Some, None}
use Rattle.std.specs.List.{flat_map}
use mathlib.Core.List.{IsPrefix}
use Rattle.gp_plain.specs.declared.event.HoldSpec.{HoldSpec}
use Rattle.gp_plain.specs.declared.reply.Piece.{Piece}
use Rattle.gp_plain.specs.declared.reply.Taken.{Taken}
use Rattle.gp_plain.specs.declared.tally.Payload.{Payload}
use Rattle.gp_plain.specs.declared.tally.Payload.TheVariants as payload
use Rattle.gp_plain.specs.Pieces.{piece_bytes, message_bytes}
use Rattle.gp_plain.specs.Reports.{tally_of}
use Rattle.gp_answer.specs.Frames.{framed_by, last_chunk}
use Rattle.gp_session.specs.Wires.{WireView}
use Rattle.gp_session_hold.specs.Rows.{KeptView}
use Rattle.gp_session_hold.specs.declared.sending.Given.{Given}
use Rattle.gp_session_hold.specs.declared.sending.Given.TheVariants as given

-- the bytes of what a piece gives to send
abbrev pub payload_bytes : Payload → List ℕ
payload_bytes (payload.Bytes bytes) = bytes
payload_bytes (payload.Message message) = message_bytes message
payload_bytes (payload.Answer part) = part.body

-- pieces in their framing, one after the other
abbrev pub framed : Bool → List Piece → List ℕ
framed chunked pieces = flat_map (framed_by chunked) (map piece_bytes pieces)

-- these bytes were put behind those that wait, and nothing else has changed
pub record PutsBehind (v w : WireView) (bytes : List ℕ) : Type 0 where
  pub start : w.start ≡ v.start
  pub link : w.link ≡ v.link
  pub rest : w.rest ≡ v.rest ++ bytes

-- a beginning of them was
pub record PutsPart (v w : WireView) (bytes : List ℕ) : Type 0 where
  pub part : List ℕ
  pub is_part : IsPrefix part bytes
  pub puts : PutsBehind v w part

abbrev pub PutsAs : WireView → WireView → List ℕ → Bool → Type 0
PutsAs v w bytes true = PutsBehind v w bytes
PutsAs v w bytes false = PutsPart v w bytes

-- these bytes were put, or none where memory is wanting
abbrev pub PutsOnce : WireView → WireView → List ℕ → Bool → Type 0
PutsOnce v w bytes true = PutsBehind v w bytes
PutsOnce v w bytes false = PutsBehind v w []

-- the same, where memory may have been wanting before
abbrev pub PutsNext : WireView → WireView → List ℕ → Bool → Bool → Type 0
PutsNext v w bytes true result = PutsOnce v w bytes result
PutsNext v w bytes false result = (result ≡ false) × (w ≡ v)

-- these pieces were counted
pub record Counts (h k : KeptView) (pieces : List Piece) : Type 0 where
  pub number : k.number ≡ h.number
  pub counted : (spec : HoldSpec) (taken : List Piece) → h.tally ≡ tally_of spec taken → k.tally ≡ tally_of spec (taken ++ pieces)

-- what was given is all put, in its framing, with the last chunk where the stream is closed; where memory is wanting a
-- beginning of it is
abbrev pub SendsAs : WireView → WireView → Bool → Taken → Given → Type 0
SendsAs v w chunked taken given.Pieces = PutsBehind v w (framed chunked taken.pieces) × (taken.pieces ≢ []) × (taken.recover ≡ None) × (taken.ended ≡ None)
SendsAs v w chunked taken given.Nothing = (w ≡ v) × (taken.pieces ≡ []) × (taken.recover ≡ None) × (taken.ended ≡ None)
SendsAs v w chunked taken (given.Missing from) = PutsBehind v w (framed chunked taken.pieces) × (taken.recover ≡ Some from) × (taken.ended ≡ None)
SendsAs v w chunked taken (given.End cause) = PutsBehind v w (framed chunked taken.pieces ++ last_chunk chunked (Some cause)) × (taken.ended ≡ Some cause)
SendsAs v w chunked taken (given.Unput told) = PutsPart v w (framed chunked taken.pieces ++ last_chunk chunked told) × (taken.ended ≡ told)

-- what became of pieces, where neither an end was told nor an id behind which items are missing
abbrev pub given_by : Bool → Bool → Given
given_by true room = given.Nothing
given_by false true = given.Pieces
given_by false false = given.Unput None

-- and where such an id was
abbrev pub missing_by : Bool → List ℕ → Given
missing_by true from = given.Missing from
missing_by false from = given.Unput None

pub record Sends (v w : WireView) (chunked : Bool) (h k : KeptView) (taken : Taken) (answer : Given) : Type 0 where
  pub counts : Counts h k taken.pieces
  pub says : SendsAs v w chunked taken answer

-- of all pieces some were counted and put, and the others are left
pub record PutsSome (v w : WireView) (chunked : Bool) (h k : KeptView) (all left : List Piece) (room : Bool) : Type 0 where
  pub done : List Piece
  pub split : all ≡ done ++ left
  pub counts : Counts h k done
  pub puts : PutsAs v w (framed chunked done) room
