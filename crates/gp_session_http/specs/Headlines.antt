-- What a client was sent of the holds of its session.
use Rattle.std.specs.Prelude.{ℕ, ◌≡◌, Bool, List, slice_get, All, Some, None}
use Rattle.std.specs.List.{Contains}
use Rattle.gp_plain.specs.Chain.{Chain, Covers}
use Rattle.gp_plain.specs.History.{held, published}
use Rattle.gp_plain.specs.Holds.{Held, log}
use Rattle.gp_plain.specs.Others.{Share}
use Rattle.gp_plain.specs.declared.event.HoldSpec.TheVariants.{Response}
use Rattle.gp_plain.specs.declared.item.ResponsePart.{ResponsePart}
use Rattle.gp_plain.specs.declared.reply.EndCause.TheVariants.{Answered, Retry}
use Rattle.gp_session.specs.Wires.{BytesRow, at_most}
use Rattle.gp_session_hold.specs.Headline.{FollowsSent}
use Rattle.gp_session_hold.specs.Rows.{holds_of, numbers_of, share_of_hold, taken_at, told_at}
use Rattle.gp_session_wait.specs.Chains.{CoversPoll, FollowsPoll, IsAnswerOf}
use Rattle.gp_session_wait.specs.Laws.{HasOneAnswer, part_text, poll_text}
use Rattle.gp_session_http.specs.declared.grant.Grant.{Grant}
use Rattle.gp_session_http.specs.declared.poll.Poll.{Poll}
use Rattle.gp_session_http.specs.Grants.{stream_head}
use Rattle.gp_session_http.specs.Heard.{BeginsTalks}
use Rattle.gp_session_http.specs.Holding.{Granting, aims_for}
use Rattle.gp_session_http.specs.LongPolls.{Polling, MayPoll}
use Rattle.gp_session_http.specs.Posings.{own_of}
use Rattle.gp_session_http.specs.Views.{LiveView}

-- for every chain that covers a hold, the bytes that were sent are a beginning of the framed text of an answer's head, the opening and
-- the contents of the chain's items, in order, each once, none skipped, with nothing behind a close
abbrev pub FollowsHold : LiveView → Grant → ℕ → Type 0
FollowsHold l g number =
    (chain : Chain) (h : Held) → slice_get (held l.seat.pass.seen) number ≡ Some h → (c : Covers chain l.seat.pass.seen number h) → FollowsSent l.wire g.chunked (stream_head g) (told_at l.seat number) chain c.opening c.start

-- so it is of a stream, for the answer of its talk, which asked for the hold; talks behind that may have asked for what it missed
pub record IsStreamed (l : LiveView) (number : ℕ) : Type 0 where
  pub grant : Grant
  pub rows : Granting l grant
  pub talks : BeginsTalks l.line (aims_for l grant rows)
  pub follows : FollowsHold l grant number

-- where a hold was answered, its log has one answer, as its last piece, and this was sent, or a beginning of it
pub record HasAnswerOf (l : LiveView) (h : Held) : Type 0 where
  pub part : ResponsePart
  pub one : HasOneAnswer (log h) part
  pub bytes : BytesRow l.wire (at_most (part_text part))

-- of a long poll at most one answer was sent: while it waits nothing; that of the item that came, or the origin's own; and nothing at any
-- other end. For every chain that covers its hold the log follows the chain, so that the answer is that of the first item behind the
-- previous id that has one; and without a previous id it is that of an item which was published on one of the hold's channels
pub record IsPolled (l : LiveView) (number : ℕ) : Type 0 where
  pub poll : Poll
  pub rows : Polling l poll
  pub share : Share
  pub there : share_of_hold l.seat number ≡ Some share
  pub asked_for : MayPoll poll share.spec
  pub bytes : BytesRow l.wire (at_most (poll_text (own_of poll.answer.value) poll.asked.value.repeats (taken_at l.seat number) (told_at l.seat number)))
  pub answered : (h : Held) → slice_get (held l.seat.pass.seen) number ≡ Some h → told_at l.seat number ≡ Some Answered → HasAnswerOf l h
  pub chains : (chain : Chain) (h : Held) → slice_get (held l.seat.pass.seen) number ≡ Some h → (c : CoversPoll chain l.seat.pass.seen h) → FollowsPoll chain (published l.seat.pass.seen) c.start h
  pub items : (h : Held) → slice_get (held l.seat.pass.seen) number ≡ Some h → (channels : List (List ℕ)) (deadline : ℕ) (again : Bool) → h.spec ≡ Response channels None deadline again → All (IsAnswerOf (published l.seat.pass.seen) channels) (log h)

-- or the long poll ended so that the request was repeated
pub record WasRepeated (l : LiveView) (number : ℕ) : Type 0 where
  pub share : Share
  pub there : share_of_hold l.seat number ≡ Some share
  pub told : share.told ≡ Some Retry

-- each hold of a session is a stream's, or a long poll's that is the last hold, or one whose request was repeated
pub data HasLine (l : LiveView) (number : ℕ) : Type 0 where
  streamed : IsStreamed l number → HasLine l number
  polled : IsPolled l number → HasLine l number
  repeated : WasRepeated l number → HasLine l number

abbrev pub HasHeadline : LiveView → Type 0
HasHeadline l = (number : ℕ) → Contains (numbers_of (holds_of l.seat)) number → HasLine l number
