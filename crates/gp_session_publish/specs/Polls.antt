-- What a poll of a session brings.
use Rattle.std.specs.Prelude.{◌≡◌, [], Option, Some, None, IfSome}
use Rattle.gp_outside.specs.Links.{LinkTells}
use Rattle.gp_hub.specs.Passes.{HubView}
use Rattle.gp_hub.specs.declared.outcome.Outcome.{Outcome}
use Rattle.gp_hub.specs.declared.session.Polled.{Polled}
use Rattle.gp_hub.specs.declared.session.Polled.TheVariants.{Ready, Pending}
use Rattle.gp_session_publish.specs.declared.stage.Stage.{Stage}
use Rattle.gp_session_publish.specs.declared.stage.Stage.TheVariants.{ReadingHead}
use Rattle.gp_session_publish.specs.Views.{LiveView, Moved}
use Rattle.gp_session_publish.specs.Trace.{Told, new_live}
use Rattle.gp_session_publish.specs.declared.stage.Ended.{Ended}
use Rattle.gp_session_publish.specs.Moves.{Finishes, Pends}
use Rattle.gp_session_publish.specs.Completeness.{Completes}

-- a session that goes on
pub record OpenView : Type 0 where
  pub live : LiveView
  pub stage : Stage

-- a session, and what the link tells that it leaves once it has ended
pub record SessionView : Type 0 where
  pub open_is : Option OpenView
  pub left : Option LinkTells

abbrev pub new_open : LinkTells → HubView → OpenView
new_open link pass = record { live = new_live link pass; stage = ReadingHead (record { intake = [] }) }

abbrev pub new_session : LinkTells → HubView → SessionView
new_session link pass = record { open_is = Some (new_open link pass); left = None }

abbrev pub HasEnded : SessionView → Type 0
HasEnded s = s.open_is ≡ None

-- how the outcome tells that a session ended
abbrev pub ended_of : Outcome → Ended
ended_of o = record { end = o.end; why = o.why; published = o.published }

-- what a session leaves whose last view was this: its outcome, and its link
pub record Leaves (l : LiveView) (o : Outcome) (link : LinkTells) : Type 0 where
  pub finishes : Finishes l (ended_of o)
  pub completes : Completes l (ended_of o)
  pub holds : o.holds.items ≡ []
  pub pass : o.pass ≡ l.seat.pass
  pub link_is : link ≡ l.wire.link

-- what a session may leave that began so
pub record MayLeave (start : LinkTells) (pass : HubView) (o : Outcome) : Type 0 where
  pub l : LiveView
  pub link : LinkTells
  pub start_is : l.wire.start ≡ start
  pub pass_is : l.seat.start ≡ pass
  pub leaves : Leaves l o link

abbrev pub MayGive : SessionView → Outcome → Type 0
MayGive s o = IfSome s.open_is (λ (p : OpenView). MayLeave p.live.wire.start p.live.seat.start o)

-- the moves of a poll that ends the session
pub record Ends (v : LiveView) (o : Outcome) (link : LinkTells) : Type 0 where
  pub l : LiveView
  pub moved : Moved v l
  pub leaves : Leaves l o link

-- and of one after which it goes on
pub record Waits (v : LiveView) (q : OpenView) : Type 0 where
  pub moved : Moved v q.live
  pub told : Told q.live q.stage
  pub pends : Pends v q.live q.stage

pub record PollEnds (v w : SessionView) (o : Outcome) : Type 0 where
  pub p : OpenView
  pub was : v.open_is ≡ Some p
  pub link : LinkTells
  pub ends : Ends p.live o link
  pub over : w.open_is ≡ None
  pub left : w.left ≡ Some link

pub record PollWaits (v w : SessionView) : Type 0 where
  pub p : OpenView
  pub q : OpenView
  pub was : v.open_is ≡ Some p
  pub is : w.open_is ≡ Some q
  pub waits : Waits p.live q
  pub left : w.left ≡ None

-- the output is what the session leaves, with its link; or the session waits, and why
abbrev pub PollsTo : SessionView → SessionView → Polled Outcome → Type 0
PollsTo v w (Ready o) = PollEnds v w o
PollsTo v w Pending = PollWaits v w
