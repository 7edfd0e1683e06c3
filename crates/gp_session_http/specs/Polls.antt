-- What a poll of a session brings.
use Rattle.std.specs.Prelude.{◌≡◌, ℕ, ◌≤◌, ◌⊎◌, List, [], All, ⊤, Option, Some, None, IfSome}
use Rattle.gp_outside.specs.Clocks.{ClockTells}
use Rattle.gp_outside.specs.Dials.{DialTells}
use Rattle.gp_outside.specs.Links.{LinkTells}
use Rattle.gp_hub.specs.Passes.{HubView}
use Rattle.gp_hub.specs.declared.outcome.Outcome.{Outcome}
use Rattle.gp_hub.specs.declared.session.Polled.{Polled}
use Rattle.gp_hub.specs.declared.session.Polled.TheVariants.{Ready, Pending}
use Rattle.gp_session_http.specs.declared.finish.Finish.{Finish}
use Rattle.gp_session_http.specs.declared.finish.Finish.TheVariants.{Done, Upgrade}
use Rattle.gp_session_http.specs.declared.stage.Stage.{Stage}
use Rattle.gp_session_http.specs.declared.stage.Stage.TheVariants.{ReadingHead}
use Rattle.gp_session.specs.Seats.{IsFresh}
use Rattle.gp_session.specs.Lines.{Aim}
use Rattle.gp_session_hold.specs.Rows.{share_of_hold}
use Rattle.gp_again.specs.Views.{AgainView}
use Rattle.gp_session_recover.specs.Polls.{moments_at}
use Rattle.gp_session_recover.specs.Quests.{Quest}
use Rattle.gp_session_recover.specs.Rows.{Recovers, sides}
use Rattle.gp_session_http.specs.Routing.{Charter}
use Rattle.gp_session_http.specs.declared.held.Held.{Held as HeldStage}
use Rattle.gp_session_http.specs.declared.held.Held.TheVariants.{Attaching, Declining, Streaming, Closing, Leaving, Beginning, Denying, Waiting, Answering, Departing}
use Rattle.gp_session_http.specs.declared.streaming.Streaming.{Streaming as StreamingStage}
use Rattle.gp_session_http.specs.declared.session.Phase.{Phase}
use Rattle.gp_session_http.specs.declared.session.Phase.TheVariants.{Free, Held}
use Rattle.gp_session_http.specs.declared.stage.Ended.{Ended}
use Rattle.gp_session_http.specs.Views.{LiveView, Moved, Goes}
use Rattle.gp_session_http.specs.Completeness.{Completes}
use Rattle.gp_session_http.specs.Holding.{HeldTold, HeldPends, HeldFinishes, StreamTimed}
use Rattle.gp_session_http.specs.Headlines.{HasHeadline}
use Rattle.gp_session_http.specs.Trace.{Told, moment_of, new_live}
use Rattle.gp_session_http.specs.Moves.{Finishes, Pends}

-- what the devices of a session tell
pub record DevicesView : Type 0 where
  pub link : LinkTells
  pub dial : DialTells
  pub clock : ClockTells

abbrev pub devices_of : LiveView → DevicesView
devices_of l = record { link = l.wire.link; dial = l.line.dial; clock = l.watch.clock }

-- a session that goes on
pub record OpenView : Type 0 where
  pub live : LiveView
  pub phase : Phase

-- its rows
abbrev pub PhaseTold : LiveView → Phase → Type 0
PhaseTold l (Free stage) = Told l stage
PhaseTold l (Held stage) = HeldTold l stage

-- and those at its end: where no answer, or none since the last long poll, asked for a hold, or since one did
abbrev pub PhaseFinishes : LiveView → Ended → Type 0
PhaseFinishes l ended = Finishes l ended ⊎ HeldFinishes l ended

-- a session, and what the devices tell that it leaves once it has ended
pub record SessionView : Type 0 where
  pub open_is : Option OpenView
  pub left : Option DevicesView

-- the session's first stage
abbrev pub begun : LiveView → OpenView
begun l = record { live = l; phase = Free (ReadingHead (record { intake = [] })) }

-- the ends of a session that begins
pub record IsNew (l : LiveView) : Type 0 where
  pub is : l ≡ new_live l.wire.link l.line.dial l.watch.clock l.seat.pass l.charter
  pub fresh : IsFresh l.seat.pass
  pub some : 1 ≤ l.seat.pass.spare

abbrev pub new_session : DevicesView → HubView → Charter → SessionView
new_session devices pass charter = record { open_is = Some (begun (new_live devices.link devices.dial devices.clock pass charter)); left = None }

abbrev pub HasEnded : SessionView → Type 0
HasEnded s = s.open_is ≡ None

-- what a session leaves whose last view was this: its outcome, and its devices
pub record Leaves (l : LiveView) (o : Outcome) (devices : DevicesView) : Type 0 where
  pub finishes : PhaseFinishes l (record { end = o.end; why = o.why })
  pub completes : Completes l (record { end = o.end; why = o.why })
  pub published : o.published ≡ 0
  pub holds : o.holds.items ≡ l.reports.items
  pub pass : o.pass ≡ l.seat.pass
  pub devices_are : devices ≡ devices_of l

-- how the devices were when the session began
abbrev pub start_of : LiveView → DevicesView
start_of l = record { link = l.wire.start; dial = l.line.start; clock = l.watch.start }

-- what a session may leave that began so
pub record MayLeave (start : DevicesView) (pass : HubView) (charter : Charter) (o : Outcome) : Type 0 where
  pub l : LiveView
  pub devices : DevicesView
  pub start_is : start_of l ≡ start
  pub pass_is : l.seat.start ≡ pass
  pub charter_is : l.charter ≡ charter
  pub leaves : Leaves l o devices

-- a session as a poll finds it, which has asked for no moment yet
abbrev pub at_poll : LiveView → LiveView
at_poll l = record l { watch = record l.watch { moment = None } }

abbrev pub polled : OpenView → OpenView
polled p = record { live = at_poll p.live; phase = p.phase }

-- the moves of a poll that ends the session
pub record Ends (v : LiveView) (o : Outcome) (devices : DevicesView) : Type 0 where
  pub l : LiveView
  pub moved : Goes v l
  pub leaves : Leaves l o devices
  pub headline : HasHeadline l

-- the token of the talk is of the poll's moment
pub record HasToken (w : LiveView) (stage : Stage) : Type 0 where
  pub now : ℕ
  pub moment : w.watch.moment ≡ Some now
  pub token : moment_of stage ≡ Some now

-- and of one after which it goes on. It has no hold that isn't over; where none was reported yet, all moves of the poll were those of
-- a session without one. Where a long poll ended in it, the origin is asked again with a token of the poll's moment. In its last part the poll
-- waits so
pub record FreeWaits (u : OpenView) (w : LiveView) (stage : Stage) : Type 0 where
  pub first : LiveView
  pub moved : Goes u.live first
  pub then_moved : Moved first w
  pub plain : w.reports.items ≡ [] → Moved u.live w
  pub timed : Moved u.live w ⊎ HasToken w stage
  pub told : Told w stage
  pub pends : Pends first w stage
  pub headline : HasHeadline w

-- a stream had asked for nothing before the poll, and all that it asks for has a token of the poll's moment
pub record IsStarted (w : LiveView) (s : StreamingStage) : Type 0 where
  pub now : ℕ
  pub moment : w.watch.moment ≡ Some now
  pub source : Option AgainView
  pub aims : List Aim
  pub qs : List Quest
  pub row : Recovers w.charter.signer source aims qs (sides s.recovering w.wire w.line w.seat)
  pub tokens : All (λ (token : ℕ). token ≡ now) (moments_at qs (sides s.recovering w.wire w.line w.seat))

-- or it went on in the poll, which began talks by its own moment alone
pub record IsContinued (u : OpenView) (w : LiveView) (next : StreamingStage) : Type 0 where
  pub s : StreamingStage
  pub was : u.phase ≡ Held (Streaming s)
  pub timed : StreamTimed u.live w s next

-- the moments that a poll uses: the tokens of a stream's talks, and the deadline of a long poll whose hold wasn't there before
abbrev pub HeldTimed : OpenView → LiveView → HeldStage → Type 0
HeldTimed u w (Attaching s) = ⊤
HeldTimed u w (Declining s) = ⊤
HeldTimed u w (Streaming s) = IsStarted w s ⊎ IsContinued u w s
HeldTimed u w (Closing s) = ⊤
HeldTimed u w (Leaving s) = ⊤
HeldTimed u w (Beginning s) = ⊤
HeldTimed u w (Denying s) = ⊤
HeldTimed u w (Waiting s) = share_of_hold u.live.seat s.wait.hold.number ≡ None → w.watch.moment ≡ Some s.since.value
HeldTimed u w (Answering s) = ⊤
HeldTimed u w (Departing s) = ⊤

pub record HeldWaits (u : OpenView) (w : LiveView) (stage : HeldStage) : Type 0 where
  pub moved : Goes u.live w
  pub told : HeldTold w stage
  pub pends : HeldPends u.live w stage
  pub timed : HeldTimed u w stage
  pub headline : HasHeadline w

abbrev pub WaitsIn : OpenView → LiveView → Phase → Type 0
WaitsIn u w (Free stage) = FreeWaits u w stage
WaitsIn u w (Held stage) = HeldWaits u w stage

abbrev pub Waits : OpenView → OpenView → Type 0
Waits u q = WaitsIn u q.live q.phase

pub record PollEnds (v w : SessionView) (o : Outcome) : Type 0 where
  pub p : OpenView
  pub was : v.open_is ≡ Some p
  pub devices : DevicesView
  pub ends : Ends (at_poll p.live) o devices
  pub over : w.open_is ≡ None
  pub left : w.left ≡ Some devices

pub record PollWaits (v w : SessionView) : Type 0 where
  pub p : OpenView
  pub q : OpenView
  pub was : v.open_is ≡ Some p
  pub is : w.open_is ≡ Some q
  pub waits : Waits (polled p) q
  pub left : w.left ≡ None

-- until WebSockets are served a session hands none over
abbrev pub MayGive : {L D C : Type 0} → SessionView → Finish L D C → Type 0
MayGive s (Done o) = IfSome s.open_is (λ (p : OpenView). MayLeave (start_of p.live) p.live.seat.start p.live.charter o)
MayGive s (Upgrade handover) = ⊥

-- the output is what the session leaves, with its devices; or the session waits, and why
abbrev pub PollsTo : {L D C : Type 0} → SessionView → SessionView → Polled (Finish L D C) → Type 0
PollsTo v w (Ready (Done o)) = PollEnds v w o
PollsTo v w (Ready (Upgrade handover)) = ⊥
PollsTo v w Pending = PollWaits v w
