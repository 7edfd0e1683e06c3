-- What a condition and a target of the routes file say.
use Rattle.std.specs.Prelude.{ℕ, Bool, ◌||◌, ◌&&◌, not, List, length, drop, slice_index, codes, bytes_eq, nat_le, nat_eq, Option, Some, None, if◌then◌else◌}
use Rattle.std.specs.List.{before_first, after_first, list_all, starts_with}
use Rattle.std.specs.Char.{is_ascii_alphanumeric, is_ascii_digit}
use Rattle.std.specs.Str.Parse.{digits_value}
use Rattle.gp_routes.specs.declared.route.Condition.{Condition}
use Rattle.gp_routes.specs.declared.route.Route.{Route}

abbrev pub is_comma : ℕ → Bool
is_comma b = nat_eq b 44

abbrev pub is_colon : ℕ → Bool
is_colon b = nat_eq b 58

-- it has no byte
abbrev pub has_none : List ℕ → Bool
has_none text = nat_eq (length text) 0

-- a letter, a digit, `.` or `-`
abbrev pub is_host_byte : ℕ → Bool
is_host_byte b = is_ascii_alphanumeric b || nat_eq b 46 || nat_eq b 45

-- the name of a host
abbrev pub is_host : List ℕ → Bool
is_host name = not (has_none name) && list_all is_host_byte name

-- `*`, which stands for any host
abbrev pub is_any : List ℕ → Bool
is_any name = bytes_eq name (codes "*")

-- the condition of this name and this path
abbrev pub condition_named : List ℕ → List ℕ → Condition
condition_named name path = record { host = if is_any name then None else Some name; path = path }

-- a name, then nothing or `,path_beg=` and a path that begins with `/`
abbrev pub is_condition : List ℕ → List ℕ → Bool
is_condition name option = (is_any name || is_host name) && (has_none option || starts_with nat_eq option (codes ",path_beg=/"))

-- the condition that a word is, if it is one: the name ends at the first comma
unfoldable pub condition_of : List ℕ → Option Condition
condition_of word =
    let name = before_first is_comma word in
    let option = drop (length name) word in
    if is_condition name option then Some (condition_named name (drop (length (codes ",path_beg=")) option)) else None

-- decimal digits without a leading zero
abbrev pub is_numeral : List ℕ → Bool
is_numeral digits = not (has_none digits) && (not (nat_eq (slice_index digits 0) 48) && list_all is_ascii_digit digits)

-- the port that the text is, 1 to 65,535
unfoldable pub port_of : List ℕ → Option ℕ
port_of digits = if is_numeral digits && nat_le (digits_value 10 digits) 65535 then Some (digits_value 10 digits) else None

-- the route to this host and port
abbrev pub route_to : List ℕ → ℕ → Bool → Route
route_to host port over_http = record { address = record { host = host; port = port }; over_http = over_http }

-- the route to the host, if the port is one and the option is nothing or `,over_http`
abbrev pub route_by : List ℕ → Option ℕ → List ℕ → Option Route
route_by host None option = None
route_by host (Some port) option =
    if has_none option || bytes_eq option (codes ",over_http") then Some (route_to host port (not (has_none option))) else None

-- the route that a word is, if it is one: the host ends at the first colon, and the port at the first comma behind it
unfoldable pub route_of : List ℕ → Option Route
route_of word =
    let host = before_first is_colon word in
    let rest = after_first is_colon word in
    let digits = before_first is_comma rest in
    if is_host host then route_by host (port_of digits) (drop (length digits) rest) else None
