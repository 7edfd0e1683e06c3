-- What a line and a file of routes say, and where a file is refused.
use Rattle.std.specs.Prelude.{◌≡◌, ℕ, ◌+◌, min, List, [], ◌∷◌, ◌++◌, length, All, Option, Some, None, Result, Ok, Err, IsOk, ⊤}
use Rattle.std.specs.List.{flat_map}
use Rattle.std.specs.Str.Lines.{lines}
use Rattle.gp_routes.specs.declared.route.Condition.{Condition as Requests}
use Rattle.gp_routes.specs.declared.route.Route.{Route}
use Rattle.gp_routes.specs.declared.route.Rule.{Rule}
use Rattle.gp_routes.specs.declared.route.RouteKind.{RouteKind}
use Rattle.gp_routes.specs.declared.route.RouteKind.TheVariants.{NoTarget, Condition, Target, Extra}
use Rattle.gp_routes.specs.declared.route.RouteFault.{RouteFault}
use Rattle.gp_routes.specs.declared.route.RouteFault.TheVariants.{Line, NoMemory}
use Rattle.gp_routes.specs.Words.{words}
use Rattle.gp_routes.specs.Parts.{condition_of, route_of}

-- the rule of a condition and a target, or the first fault; nothing may follow them
abbrev pub rule_of : Option Requests → Option Route → List (List ℕ) → Result (Option Rule) RouteKind
rule_of None target more = Err Condition
rule_of (Some condition) None more = Err Target
rule_of (Some condition) (Some route) [] = Ok (Some (record { condition = condition; route = route }))
rule_of (Some condition) (Some route) (word ∷ more) = Err Extra

-- the rule of a line's words, or its first fault; a line without a word is skipped
abbrev pub words_read : List (List ℕ) → Result (Option Rule) RouteKind
words_read [] = Ok None
words_read (condition ∷ []) = Err NoTarget
words_read (condition ∷ target ∷ more) = rule_of (condition_of condition) (route_of target) more

abbrev pub line_read : List ℕ → Result (Option Rule) RouteKind
line_read line = words_read (words line)

-- the line has no fault
abbrev pub IsGoodLine : List ℕ → Type 0
IsGoodLine line = IsOk (line_read line)

-- the rules that were read of a line
abbrev pub rules_read : Result (Option Rule) RouteKind → List Rule
rules_read (Ok None) = []
rules_read (Ok (Some rule)) = rule ∷ []
rules_read (Err kind) = []

abbrev pub rules_in : List ℕ → List Rule
rules_in line = rules_read (line_read line)

-- no line has a fault, and these are the rules of the lines, in order
pub record AreRulesOf (bytes : List ℕ) (rules : List Rule) : Type 0 where
  pub good : All IsGoodLine (lines bytes)
  pub rules_are : rules ≡ flat_map rules_in (lines bytes)

-- what was read of a line is this fault, at a line of this number
abbrev pub IsFaultOf : Result (Option Rule) RouteKind → ℕ → RouteFault → Type 0
IsFaultOf read number (Line line kind) = (line ≡ number) × (read ≡ Err kind)
IsFaultOf read number NoMemory = ⊤

-- the first line with a fault, and that fault; lines are counted from 1, up to the greatest number that is told
pub record IsFirstFault (bytes : List ℕ) (number : ℕ) (kind : RouteKind) : Type 0 where
  pub before : List (List ℕ)
  pub line : List ℕ
  pub behind : List (List ℕ)
  pub lines_are : lines bytes ≡ before ++ line ∷ behind
  pub good : All IsGoodLine before
  pub fault : line_read line ≡ Err kind
  pub number_is : number ≡ min (length before + 1) 4294967295

-- why a file is refused
abbrev pub IsRouteFault : List ℕ → RouteFault → Type 0
IsRouteFault bytes (Line number kind) = IsFirstFault bytes number kind
IsRouteFault bytes NoMemory = ⊤
