-- The states of stream holds.
use Rattle.std.specs.Prelude.{ℕ, Bool, false, List, [], ◌∷◌, Option, Some, None}
use Rattle.gp_plain.specs.Holds.{State}
use Rattle.gp_plain.specs.declared.event.HoldKind.TheVariants.{Stream as StreamKind, Plain as PlainKind}
use Rattle.gp_plain.specs.declared.event.HoldSpec.{HoldSpec}
use Rattle.gp_plain.specs.declared.event.HoldSpec.TheVariants.{Stream, Plain}
use Rattle.gp_plain.specs.declared.reply.Piece.{Piece}
use Rattle.gp_plain.specs.declared.reply.EndCause.{EndCause}

abbrev pub stream_spec : List ℕ → List ℕ → List ℕ → Bool → HoldSpec
stream_spec opening channel prev link = Stream opening channel prev link

abbrev pub plain_spec : List ℕ → List (List ℕ) → HoldSpec
plain_spec opening channels = Plain opening channels

-- a hold with a position on its channel
abbrev pub stream_state : List ℕ → Bool → List Piece → List ℕ → Option EndCause → Bool → Bool → Bool → ℕ → State
stream_state channel link pending position ended want asked late misses = record {
  terms = record { kind = StreamKind; channels = channel ∷ []; link = link; deadline = None };
  pending = pending;
  position = Some position;
  ended = ended;
  want = want;
  asked = asked;
  late = late;
  misses = misses;
}

-- a hold on channels without a position
abbrev pub plain_state : List (List ℕ) → List Piece → Option EndCause → State
plain_state channels pending ended = record {
  terms = record { kind = PlainKind; channels = channels; link = false; deadline = None };
  pending = pending;
  position = None;
  ended = ended;
  want = false;
  asked = false;
  late = false;
  misses = 0;
}
