-- How the scanner moves from byte to byte. What it finds is said by lines, in `Lines`.
use Rattle.std.specs.Prelude.{ℕ, Bool, false, ◌==◌, ◌||◌, not, if◌then◌else◌}
use Rattle.httparse.specs.Ascii.{line_feed, carriage_return}
use Rattle.gp_head.specs.declared.scan.State.{State}
use Rattle.gp_head.specs.declared.scan.State.TheVariants.{Before, BeforeReturn, First, Start, StartReturn, Inside, End}

-- where the byte behind this one stands
abbrev pub after : State → ℕ → State
after Before b = if b == line_feed then Before else (if b == carriage_return then BeforeReturn else First)
after BeforeReturn b = if b == line_feed then Before else First
after First b = if b == line_feed then Start else First
after Start b = if b == line_feed then End else (if b == carriage_return then StartReturn else Inside)
after StartReturn b = if b == line_feed then End else Inside
after Inside b = if b == line_feed then Start else Inside
after End b = End

-- this byte begins a field line
abbrev pub begins_field : State → ℕ → Bool
begins_field Before b = false
begins_field BeforeReturn b = false
begins_field First b = false
begins_field Start b = not ((b == carriage_return) || (b == line_feed))
begins_field StartReturn b = false
begins_field Inside b = false
begins_field End b = false
