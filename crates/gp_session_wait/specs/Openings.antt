-- How the hold of a long poll is attached.
use Rattle.std.specs.Prelude.{ℕ, ◌≡◌, ◌≤◌, Bool, true, ◌&&◌, nat_lt, List, [], Option, Some, is_some, ⊤}
use Rattle.gp_plain.specs.declared.event.Event.TheVariants.{Attach}
use Rattle.gp_plain.specs.declared.event.HoldSpec.{HoldSpec}
use Rattle.gp_plain.specs.declared.event.HoldSpec.TheVariants.{Response}
use Rattle.gp_plain.specs.Fit.{fits}
use Rattle.gp_instruct.specs.declared.instruct.Instruct.{Instruct}
use Rattle.gp_instruct.specs.Spec.{deadline, spec}
use Rattle.gp_session.specs.Seats.{SeatView}
use Rattle.gp_session.specs.Wires.{WireView, Sent}
use Rattle.gp_session_hold.specs.declared.attaching.Opened.{Opened}
use Rattle.gp_session_hold.specs.declared.attaching.Opened.TheVariants as opened
use Rattle.gp_session_wait.specs.Waits.{Waits, channel_of, is_again, most_repeats}
use Rattle.gp_session_wait.specs.Views.{OpeningView, WaitView}
use Rattle.gp_session_wait.specs.declared.answer.Answer.{Answer}
use Rattle.gp_session_wait.specs.declared.opening.Began.{Began}
use Rattle.gp_session_wait.specs.declared.opening.Began.TheVariants as began

-- what is attached at a moment: the deadline is so many seconds later, at most the last that 64 bits tell
abbrev pub spec_at : OpeningView → ℕ → HoldSpec
spec_at o now = Response o.channels o.prev (deadline now o.seconds) (is_again o.repeats)

-- the request may be repeated: there is an item to tell of, and it was repeated fewer times than it may be
abbrev pub may_repeat : Option (List ℕ) → ℕ → Bool
may_repeat channel repeats = is_some channel && nat_lt repeats most_repeats

-- it may be attached, and repeated
pub record CanOpen (o : OpeningView) : Type 0 where
  pub fit : fits (Attach (spec_at o 0)) ≡ true
  pub channel_is : o.channel ≡ channel_of o.channels o.prev
  pub has : is_some o.channel ≡ is_some o.prev
  pub few : o.repeats ≤ most_repeats

-- it is what an instruction asks for, at whatever moment
pub record OpensFor (instruct : Instruct) (own : Answer) (repeats : ℕ) (o : OpeningView) : Type 0 where
  pub specs : (now : ℕ) → spec instruct [] now (is_again repeats) ≡ Some (spec_at o now)
  pub own_is : o.own ≡ own
  pub repeats_is : o.repeats ≡ repeats
  pub can : CanOpen o

-- what an Attach came to, without what the wait owns
abbrev pub opened_of : ℕ → Began → Opened
opened_of now (began.Waits v) = opened.Kept v.hold
opened_of now began.Full = opened.Full
opened_of now (began.Busy o) = opened.Busy (spec_at o now)
opened_of now began.Worn = opened.Worn
opened_of now began.NoMemory = opened.NoMemory

-- a long poll that waits, with all that it was opened with
pub record IsBegun (o : OpeningView) (now : ℕ) (t : SeatView) (v : WaitView) : Type 0 where
  pub spec_is : v.spec ≡ spec_at o now
  pub own_is : v.own ≡ o.own
  pub channel_is : v.channel ≡ o.channel
  pub repeats_is : v.repeats ≡ o.repeats
  pub waits : (w : WireView) → Sent w [] → Waits v w t

-- where the hub is busy the opening is handed back
abbrev pub BeginsAs : OpeningView → ℕ → SeatView → Began → Type 0
BeginsAs o now t (began.Waits v) = IsBegun o now t v
BeginsAs o now t began.Full = ⊤
BeginsAs o now t (began.Busy back) = back ≡ o
BeginsAs o now t began.Worn = ⊤
BeginsAs o now t began.NoMemory = ⊤
