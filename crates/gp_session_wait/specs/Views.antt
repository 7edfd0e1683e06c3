-- What contracts see of a long poll.
use Rattle.std.specs.Prelude.{ℕ, List, Option}
use Rattle.gp_plain.specs.declared.event.HoldSpec.{HoldSpec}
use Rattle.gp_session_hold.specs.Rows.{KeptView}
use Rattle.gp_session_wait.specs.declared.answer.Answer.{Answer}

-- a hold that a session has, and what it was attached with
pub record PollView : Type 0 where
  pub hold : KeptView
  pub spec : HoldSpec

-- a long poll: its hold, what it was attached with, the origin's own answer, the channel of which a repeat tells the last item,
-- and how often the request was repeated
pub record WaitView : Type 0 where
  pub hold : KeptView
  pub spec : HoldSpec
  pub own : Answer
  pub channel : Option (List ℕ)
  pub repeats : ℕ

-- a long poll whose hold isn't attached yet: its channels, its previous id, and how many seconds it waits; the origin's own answer, the
-- channel of which a repeat tells the last item, and how often the request was repeated
pub record OpeningView : Type 0 where
  pub channels : List (List ℕ)
  pub prev : Option (List ℕ)
  pub seconds : ℕ
  pub own : Answer
  pub channel : Option (List ℕ)
  pub repeats : ℕ
