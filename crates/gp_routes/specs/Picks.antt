-- Which line of the routes a request gets.
use Rattle.std.specs.Prelude.{ℕ, Bool, true, ◌&&◌, List, map, bytes_eq, nat_eq, find, Option, Some, None, option_map, if◌then◌else◌}
use Rattle.std.specs.List.{starts_with, before_last, after_last, list_all, list_any}
use Rattle.std.specs.Char.{is_ascii_digit, to_ascii_lowercase}
use Rattle.gp_routes.specs.declared.route.Condition.{Condition}
use Rattle.gp_routes.specs.declared.route.Route.{Route}
use Rattle.gp_routes.specs.declared.route.Rule.{Rule}
use Rattle.gp_routes.specs.Parts.{is_colon}

-- the host of a `host` field: what stands before the last colon, where only digits or nothing follow it
abbrev pub host_name : List ℕ → List ℕ
host_name host =
    if list_any is_colon host && list_all is_ascii_digit (after_last is_colon host) then before_last is_colon host else host

-- the same in either case of ASCII
abbrev pub same_name : List ℕ → List ℕ → Bool
same_name a b = bytes_eq (map to_ascii_lowercase a) (map to_ascii_lowercase b)

-- the condition's host, if it has one, is this one
abbrev pub is_for : List ℕ → Option (List ℕ) → Bool
is_for name None = true
is_for name (Some host) = same_name host name

-- a request for the host and the path meets the condition
abbrev pub is_met : List ℕ → List ℕ → Condition → Bool
is_met name path condition = is_for name condition.host && starts_with nat_eq path condition.path

-- the route of the first line whose condition is met
abbrev pub picked : List ℕ → List ℕ → List Rule → Option Route
picked host path rules =
    option_map (λ (rule : Rule). rule.route) (find (λ (rule : Rule). is_met (host_name host) path rule.condition) rules)
