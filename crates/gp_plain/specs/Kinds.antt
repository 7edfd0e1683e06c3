-- What a Take may give, by what the hold was attached with.
use Rattle.std.specs.Prelude.{ℕ, ◌≡◌, Bool, true, false, not, List, slice_get, Option, Some, None, is_some}
use Rattle.gp_plain.specs.Holds.{Held, taken_of, is_retry}
use Rattle.gp_plain.specs.History.{held}
use Rattle.gp_plain.specs.Ends.{EndsByPiece}
use Rattle.gp_plain.specs.declared.event.Entry.{Entry}
use Rattle.gp_plain.specs.declared.event.HoldSpec.{HoldSpec}
use Rattle.gp_plain.specs.declared.event.HoldSpec.TheVariants.{Stream, Plain, Response, Socket}
use Rattle.gp_plain.specs.declared.reply.EndCause.{EndCause}
use Rattle.gp_plain.specs.declared.reply.EndCause.TheVariants.{Closed, Detached, Gap, Unrecovered, Overflow, Answered, Retry, TimedOut}
use Rattle.gp_plain.specs.declared.reply.Taken.{Taken}

-- a stream ends by a close, by a page that can't be had, by too much that waits, and without a link by 64 misses
abbrev pub ends_stream : Bool → EndCause → Bool
ends_stream link Closed = true
ends_stream link Detached = false
ends_stream link Gap = not link
ends_stream link Unrecovered = true
ends_stream link Overflow = true
ends_stream link Answered = false
ends_stream link Retry = false
ends_stream link TimedOut = false

-- a plain stream and a socket end by a close, and by too much that waits
abbrev pub ends_plain : EndCause → Bool
ends_plain Closed = true
ends_plain Detached = false
ends_plain Gap = false
ends_plain Unrecovered = false
ends_plain Overflow = true
ends_plain Answered = false
ends_plain Retry = false
ends_plain TimedOut = false

-- a response hold ends by its answer, at its deadline, by too much that waits, and with a previous id to be repeated
abbrev pub ends_response : Option (List ℕ) → EndCause → Bool
ends_response prev Closed = false
ends_response prev Detached = false
ends_response prev Gap = false
ends_response prev Unrecovered = false
ends_response prev Overflow = true
ends_response prev Answered = true
ends_response prev Retry = is_some prev
ends_response prev TimedOut = true

-- the causes by which a hold ends while its owner keeps it
abbrev pub may_end : HoldSpec → EndCause → Bool
may_end (Stream opening channel prev link) cause = ends_stream link cause
may_end (Plain opening channels) cause = ends_plain cause
may_end (Response channels prev deadline again) cause = ends_response prev cause
may_end Socket cause = ends_plain cause

-- a stream recovers only with a link, and while it is live; a response hold exactly where its request is to be repeated
abbrev pub RecoverFits : HoldSpec → Taken → Type 0
RecoverFits (Stream opening channel prev link) taken = is_some taken.recover ≡ true → (link ≡ true) × (taken.ended ≡ None)
RecoverFits (Plain opening channels) taken = taken.recover ≡ None
RecoverFits (Response channels prev deadline again) taken = is_some taken.recover ≡ is_retry taken.ended
RecoverFits Socket taken = taken.recover ≡ None

-- and a piece that brings an end is the last, with the end told
pub record TakenFits (spec : HoldSpec) (taken : Taken) : Type 0 where
  pub ends : (cause : EndCause) → taken.ended ≡ Some cause → may_end spec cause ≡ true
  pub recovers : RecoverFits spec taken
  pub pieces : EndsByPiece taken.pieces taken.ended

-- the law of kinds: what a Take gives of a kept hold fits what the hold was attached with
abbrev pub KindLaw : Type 0
KindLaw = (entries : List Entry) (number now : ℕ) (h : Held) → slice_get (held entries) number ≡ Some h → h.released ≡ false → TakenFits h.spec (taken_of now h.state)
