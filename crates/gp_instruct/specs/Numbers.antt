-- The numbers in fields.
use Rattle.std.specs.Prelude.{ℕ, ◌==◌, ◌&&◌, ◌||◌, nat_le, not, List, length, take, slice_index, Option, Some, None, option_and_then, if◌then◌else◌}
use Rattle.std.specs.List.{list_all}
use Rattle.std.specs.Char.{is_ascii_digit}
use Rattle.std.specs.Str.Parse.{digits_value}

-- the number that digits write
unfoldable pub number_of : List ℕ → Option ℕ
number_of digits = if list_all is_ascii_digit digits then Some (digits_value 10 digits) else None

-- 1 to 9 digits
abbrev pub seconds_of : List ℕ → Option ℕ
seconds_of text = if (length text == 0) || not (nat_le (length text) 9) then None else number_of text

-- 200 to 599
abbrev pub as_status : ℕ → Option ℕ
as_status code = if nat_le 200 code && nat_le code 599 then Some code else None

-- three digits, and nothing or a space behind them
abbrev pub status_of : List ℕ → Option ℕ
status_of text =
    if nat_le 3 (length text) && ((length text == 3) || (slice_index text 3 == 32)) then option_and_then as_status (number_of (take 3 text)) else None
