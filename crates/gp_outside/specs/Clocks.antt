-- What a call on a clock says.
use Rattle.std.specs.Prelude.{ℕ, ◌≡◌}
use Rattle.gp_outside.specs.Counts.{Rose}

-- what a clock tells: how often it was asked, and its last answer in seconds
pub record ClockTells : Type 0 where
  pub calls : ℕ
  pub last : ℕ

-- a clock was asked, and gave this moment
pub record IsMoment (before now : ClockTells) (moment : ℕ) : Type 0 where
  pub asked : Rose before.calls now.calls
  pub last : now.last ≡ moment
