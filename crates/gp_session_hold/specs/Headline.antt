-- What a client is sent of a hold that a chain covers.
use Rattle.std.specs.Prelude.{ℕ, ◌≡◌, Bool, List, [], ◌∷◌, ◌++◌, slice_get, Option, Some}
use Rattle.std.specs.List.{flat_map}
use mathlib.Core.List.{IsPrefix}
use Rattle.gp_outside.specs.Counts.{grown}
use Rattle.gp_plain.specs.declared.reply.EndCause.{EndCause}
use Rattle.gp_plain.specs.Chain.{Chain, Link, Covers, IsBetween, NoneCloses, bytes_of}
use Rattle.gp_plain.specs.History.{held}
use Rattle.gp_plain.specs.Holds.{Held}
use Rattle.gp_answer.specs.Frames.{frame}
use Rattle.gp_session.specs.Seats.{SeatView}
use Rattle.gp_session.specs.Wires.{WireView, BytesRow, at_most, exactly}
use Rattle.gp_session_hold.specs.Rows.{stream_text, taken_at, told_at, StreamRow}
use Rattle.gp_session_hold.specs.Streams.{StreamView, Streams, Finished, Stopped}

-- the bytes that were sent are a beginning of a framed text: a head, and then the opening and the contents of the chain's
-- items behind the hold's previous id, in order, each once and none skipped, cut into parts that are framed each. A close
-- stands among these items only as the last, and behind the last chunk nothing stands
pub record FollowsSent (w : WireView) (chunked : Bool) (head : List ℕ) (told : Option EndCause) (chain : Chain) (opening start : List ℕ) : Type 0 where
  pub sent : List ℕ
  pub since : w.link.sent ≡ grown w.start.sent sent
  pub parts : List (List ℕ)
  pub begins : IsPrefix sent (frame chunked head parts told)
  pub between : List Link
  pub at : List ℕ
  pub place : IsBetween chain start at between
  pub text_is : flat_map (λ (part : List ℕ). part) parts ≡ opening ++ bytes_of between
  pub closes_last : (front : List Link) (l : Link) → between ≡ front ++ l ∷ [] → NoneCloses front

-- for every chain that covers the hold of a session, where what was sent and what waits is at most the stream's text
abbrev pub HeadlineLaw : Type 0
HeadlineLaw =
    (w : WireView) (s : SeatView) (number : ℕ) (chunked : Bool) (head : List ℕ) → BytesRow w (at_most (stream_text chunked head (taken_at s number) (told_at s number)))
    → (chain : Chain) (h : Held) → slice_get (held s.pass.seen) number ≡ Some h → (c : Covers chain s.pass.seen number h)
    → FollowsSent w chunked head (told_at s number) chain c.opening c.start

-- all of it was sent: a head, the opening and the contents of the chain's items up to a place, and the last chunk where the cause of
-- the end is a close
pub record FollowsWhole (w : WireView) (chunked : Bool) (head : List ℕ) (cause : EndCause) (chain : Chain) (opening start : List ℕ) : Type 0 where
  pub parts : List (List ℕ)
  pub since : w.link.sent ≡ grown w.start.sent (frame chunked head parts (Some cause))
  pub between : List Link
  pub at : List ℕ
  pub place : IsBetween chain start at between
  pub text_is : flat_map (λ (part : List ℕ). part) parts ≡ opening ++ bytes_of between

-- where nothing waits any more, and an end was told, the whole framed text was sent
abbrev pub WholeLaw : Type 0
WholeLaw =
    (w : WireView) (s : SeatView) (number : ℕ) (chunked : Bool) (head : List ℕ) (cause : EndCause) → BytesRow w (exactly (stream_text chunked head (taken_at s number) (told_at s number)))
    → w.rest ≡ [] → told_at s number ≡ Some cause → (chain : Chain) (h : Held) → slice_get (held s.pass.seen) number ≡ Some h → (c : Covers chain s.pass.seen number h)
    → FollowsWhole w chunked head cause chain c.opening c.start

-- the bytes row of a stream that goes on, of one that has ended, and of one for which memory was wanting
pub record StreamLaw : Type 0 where
  pub streams : (v : StreamView) (w : WireView) (s : SeatView) → Streams v w s → StreamRow w s v.hold.number v.chunked v.head
  pub finished : (v : StreamView) (w : WireView) (s : SeatView) (cause : EndCause) → Finished v w s cause → StreamRow w s v.hold.number v.chunked v.head × (told_at s v.hold.number ≡ Some cause)
  pub stopped : (v : StreamView) (w : WireView) (s : SeatView) (told : Option EndCause) → Stopped v w s told → BytesRow w (at_most (stream_text v.chunked v.head (taken_at s v.hold.number) (told_at s v.hold.number)))
