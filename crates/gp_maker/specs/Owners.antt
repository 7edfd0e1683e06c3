-- The numbers of a session's pass.
use Rattle.std.specs.Prelude.{ℕ, ◌≡◌, ◌==◌}
use Rattle.gp_plain.specs.declared.event.Entry.{Entry}
use Rattle.gp_turn.specs.declared.range.Range.{Range}
use Rattle.gp_turn.specs.Passes.{is_in}

-- of the numbers of a range, an entry has none but this
abbrev pub IsOne : Range → ℕ → Entry → Type 0
IsOne r number entry = is_in entry.who r ≡ (entry.who == number)
