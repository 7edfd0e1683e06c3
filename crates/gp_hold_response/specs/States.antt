-- The states of response holds.
use Rattle.std.specs.Prelude.{ℕ, Bool, false, List, [], ◌∷◌, Option, Some, None}
use Rattle.gp_plain.specs.Holds.{State}
use Rattle.gp_plain.specs.declared.event.HoldKind.TheVariants.{Response as ResponseKind}
use Rattle.gp_plain.specs.declared.event.HoldSpec.{HoldSpec}
use Rattle.gp_plain.specs.declared.event.HoldSpec.TheVariants.{Response}
use Rattle.gp_plain.specs.declared.reply.Piece.{Piece}
use Rattle.gp_plain.specs.declared.reply.EndCause.{EndCause}
use Rattle.gp_hold_response.specs.declared.response.Heard.{Heard}
use Rattle.gp_hold_response.specs.declared.response.Heard.TheVariants.{Any, From}

abbrev pub response_spec : List (List ℕ) → Option (List ℕ) → ℕ → Bool → HoldSpec
response_spec channels prev deadline again = Response channels prev deadline again

abbrev pub channels_of : Heard → List (List ℕ)
channels_of (Any channels) = channels
channels_of (From channel position) = channel ∷ []

abbrev pub position_in : Heard → Option (List ℕ)
position_in (Any channels) = None
position_in (From channel position) = Some position

-- the position moves to an id, where there are both
abbrev pub moved_to : Option (List ℕ) → Heard → Heard
moved_to (Some id) (From channel position) = From channel id
moved_to (Some id) (Any channels) = Any channels
moved_to None heard = heard

abbrev pub response_state : Heard → ℕ → List Piece → Option EndCause → Bool → State
response_state heard deadline pending ended want = record {
  terms = record { kind = ResponseKind; channels = channels_of heard; link = false; deadline = Some deadline };
  pending = pending;
  position = position_in heard;
  ended = ended;
  want = want;
  asked = false;
  late = false;
  misses = 0;
}
