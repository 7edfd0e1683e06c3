-- A clock of a session, since the session began.
use Rattle.std.specs.Prelude.{ℕ, ◌≡◌, ◌⊎◌, Option, Some, None}
use Rattle.gp_outside.specs.Counts.{Rose}
use Rattle.gp_outside.specs.Clocks.{ClockTells}

-- what the clock told when the session began, what it tells, and the moment of this poll, where one was asked for
pub record WatchView : Type 0 where
  pub start : ClockTells
  pub clock : ClockTells
  pub moment : Option ℕ

-- a clock with which a session begins
abbrev pub new_watch : ClockTells → WatchView
new_watch clock = record { start = clock; clock = clock; moment = None }

-- the clock was asked, where this poll had no moment yet
pub record Asks (v w : WatchView) : Type 0 where
  pub none : v.moment ≡ None
  pub calls : Rose v.clock.calls w.clock.calls

-- what every move keeps: how the session began, and all else but where the clock was asked
pub record MovedWatch (v w : WatchView) : Type 0 where
  pub start : w.start ≡ v.start
  pub moved : (w ≡ v) ⊎ Asks v w

-- the moment of a poll is the clock's last answer
abbrev pub WatchRow : WatchView → Type 0
WatchRow w = (now : ℕ) → w.moment ≡ Some now → w.clock.last ≡ now

-- a moment was used, which is that of this poll
pub record Uses (v w : WatchView) (now : ℕ) : Type 0 where
  pub moved : MovedWatch v w
  pub moment : w.moment ≡ Some now
