-- What a socket is sent.
use Rattle.std.specs.Prelude.{ℕ, ◌≡◌, ◌==◌, true, cond, List, [], ◌∷◌, ◌++◌, slice_get, Option, Some, None}
use Rattle.gp_plain.specs.declared.item.Item.{Item}
use Rattle.gp_plain.specs.declared.item.Message.{Message}
use Rattle.gp_plain.specs.declared.event.Entry.{Entry}
use Rattle.gp_plain.specs.declared.event.Event.{Event}
use Rattle.gp_plain.specs.declared.event.Event.TheVariants.{Attach, Publish, Take, Page, PageFailed, Push, Join, Leave, Detach}
use Rattle.gp_plain.specs.declared.event.HoldSpec.TheVariants.{Socket}
use Rattle.gp_plain.specs.declared.reply.Piece.{Piece}
use Rattle.gp_plain.specs.declared.reply.Piece.TheVariants.{Message as MessagePiece}
use Rattle.gp_plain.specs.Follow.{last_items, is_heard, is_repeat}
use Rattle.gp_plain.specs.Holds.{Held, log, is_live, message_piece}
use Rattle.gp_plain.specs.History.{Past, kept_at, after, past_of, held}

-- the message of an item on one of the channels that a hold has joined
abbrev pub heard : Option Held → Item → List Piece
heard None item = []
heard (Some h) item = cond (is_heard h.state.terms.channels item) (message_piece item.message) []

-- a message that its owner pushes to a kept hold
abbrev pub pushed : ℕ → Option Held → Message → List Piece
pushed who None message = []
pushed who (Some h) message = cond (h.owner == who) (MessagePiece message ∷ []) []

-- the message that an event brings the hold of a number, by what stands before it: the one that is pushed to it, or that of
-- an item, which isn't a repeat, on a channel that it has joined
abbrev pub brought : Past → ℕ → ℕ → Event → List Piece
brought past number who (Publish item) = cond (is_repeat (last_items past.published) item) [] (heard (slice_get past.holds number) item)
brought past number who (Push hold message) = cond (hold == number) (pushed who (kept_at past.holds number) message) []
brought past number who (Attach spec) = []
brought past number who (Take hold now) = []
brought past number who (Page hold from to bytes then) = []
brought past number who (PageFailed hold) = []
brought past number who (Join hold channel) = []
brought past number who (Leave hold channel) = []
brought past number who (Detach hold) = []

-- those that entries bring it, in order
abbrev pub all_brought : Past → ℕ → List Entry → List Piece
all_brought past number [] = []
all_brought past number (entry ∷ entries) = brought past number entry.who entry.event ++ all_brought (after past entry) number entries

-- the log of a hold goes on with some of these messages, from the first on, in order; with all of them while it is live
pub record HasGot (past : Past) (number : ℕ) (more : List Entry) (h k : Held) : Type 0 where
  pub some : List Piece
  pub rest : List Piece
  pub log_is : log k ≡ log h ++ some
  pub brought_is : all_brought past number more ≡ some ++ rest
  pub live : is_live k.state ≡ true → rest ≡ []

-- the law of sockets: what the log of a socket gets from then on are the messages that are pushed and published to it
abbrev pub SocketLaw : Type 0
SocketLaw =
    (seen more : List Entry) (number : ℕ) (h k : Held) → slice_get (held seen) number ≡ Some h → h.spec ≡ Socket → slice_get (held (seen ++ more)) number ≡ Some k
    → HasGot (past_of seen) number more h k
