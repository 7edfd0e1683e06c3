-- The states of sockets.
use Rattle.std.specs.Prelude.{ℕ, false, List, Option, None}
use Rattle.gp_plain.specs.Holds.{State}
use Rattle.gp_plain.specs.declared.event.HoldKind.TheVariants.{Socket as SocketKind}
use Rattle.gp_plain.specs.declared.event.HoldSpec.{HoldSpec}
use Rattle.gp_plain.specs.declared.event.HoldSpec.TheVariants.{Socket}
use Rattle.gp_plain.specs.declared.reply.Piece.{Piece}
use Rattle.gp_plain.specs.declared.reply.EndCause.{EndCause}

abbrev pub socket_spec : HoldSpec
socket_spec = Socket

-- a hold on the channels that it has joined
abbrev pub socket_state : List (List ℕ) → List Piece → Option EndCause → State
socket_state channels pending ended = record {
  terms = record { kind = SocketKind; channels = channels; link = false; deadline = None };
  pending = pending;
  position = None;
  ended = ended;
  want = false;
  asked = false;
  late = false;
  misses = 0;
}
