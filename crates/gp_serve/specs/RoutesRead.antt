-- What the read of a routes file says.
use Rattle.std.specs.Prelude.{List, ℕ}
use Rattle.gp_outside.specs.Counts.{Rose}
use Rattle.gp_routes.specs.Files.{AreRulesOf, IsFirstFault}
use Rattle.gp_routes.specs.declared.route.RouteKind.{RouteKind}
use Rattle.gp_routes.specs.declared.route.Rule.{Rule}
use Rattle.gp_replay.specs.Loads.{Load, IsContent, IsLongFile, IsQuiet}
use Rattle.gp_replay.specs.declared.status.Status.{Status}
use Rattle.gp_replay.specs.declared.status.Status.TheVariants.{Done, Usage, FileFault, TooLong, BadLine, SinkFault, ListenFault, NoMemory}

-- the rules are those of the file
pub record AreRead (load : Load) (rules : List Rule) : Type 0 where
  pub bytes : List ℕ
  pub content : IsContent load bytes
  pub rules_are : AreRulesOf bytes rules

-- a line of the file is the first with a fault
pub record IsBadRoutes (load : Load) (line : ℕ) : Type 0 where
  pub bytes : List ℕ
  pub content : IsContent load bytes
  pub kind : RouteKind
  pub fault : IsFirstFault bytes line kind

abbrev pub AreUnread : Load → Status → Type 0
AreUnread load FileFault = Rose load.faults load.faults_after
AreUnread load TooLong = IsLongFile load
AreUnread load (BadLine line) = IsBadRoutes load line
AreUnread load NoMemory = IsQuiet load
AreUnread load Done = ⊥
AreUnread load (Usage place) = ⊥
AreUnread load SinkFault = ⊥
AreUnread load ListenFault = ⊥
