-- A clock in memory.
use Rattle.std.specs.Prelude.{ℕ, List, [], ◌∷◌}
use Rattle.gp_outside.specs.Counts.{counted}
use Rattle.gp_outside.specs.Clocks.{ClockTells}

-- the times that it has still to give, the last one that it gave or 0, and how often it was asked
pub record ClockState : Type 0 where
  pub times : List ℕ
  pub last : ℕ
  pub calls : ℕ

abbrev pub told_clock : ClockState → ClockTells
told_clock clock = record { calls = clock.calls; last = clock.last }

-- the next time, or the last again
abbrev pub next_or : ℕ → List ℕ → ℕ
next_or last [] = last
next_or last (time ∷ times) = time

abbrev pub later_times : List ℕ → List ℕ
later_times [] = []
later_times (time ∷ times) = times

abbrev pub after_now : ClockState → ClockState
after_now clock = record { times = later_times clock.times; last = next_or clock.last clock.times; calls = counted clock.calls }
