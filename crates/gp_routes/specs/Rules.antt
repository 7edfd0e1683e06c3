-- What every rule of a routes file is.
use Rattle.std.specs.Prelude.{◌≡◌, ℕ, ◌≤◌, ◌⊎◌, true, All, List, [], slice_index, Option, Some, None, ⊤}
use Rattle.gp_routes.specs.declared.route.Condition.{Condition}
use Rattle.gp_routes.specs.declared.route.Route.{Route}
use Rattle.gp_routes.specs.declared.route.Rule.{Rule}
use Rattle.gp_routes.specs.Parts.{is_host}

-- no byte, or `/` first
abbrev pub IsPathFront : List ℕ → Type 0
IsPathFront path = (path ≡ []) ⊎ (slice_index path 0 ≡ 47)

-- any host, or a name of letters, digits, `.` and `-`
abbrev pub IsHostOrAny : Option (List ℕ) → Type 0
IsHostOrAny None = ⊤
IsHostOrAny (Some host) = is_host host ≡ true

pub record IsCondition (condition : Condition) : Type 0 where
  pub host : IsHostOrAny condition.host
  pub path : IsPathFront condition.path

-- a host by name, and a port from 1 to 65,535
pub record IsRoute (route : Route) : Type 0 where
  pub host : is_host route.address.host ≡ true
  pub port : 1 ≤ route.address.port
  pub low : route.address.port ≤ 65535

pub record IsRule (rule : Rule) : Type 0 where
  pub condition : IsCondition rule.condition
  pub route : IsRoute rule.route

abbrev pub AreRules : List Rule → Type 0
AreRules rules = All IsRule rules
