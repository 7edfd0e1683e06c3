-- What a read of a script gave.
use Rattle.std.specs.Prelude.{ℕ, ◌≡◌, List, [], ◌∷◌}
use Rattle.gp_plain.specs.declared.event.Event.{Event}
use Rattle.gp_script.specs.Lines.{IsEvent, Spells}
use Rattle.gp_replay.specs.Scripts.{BeginsWith, IsBadLine, IsScript, IsOnlyScript}
use Rattle.gp_replay.specs.declared.script.ScriptFault.{ScriptFault}
use Rattle.gp_replay.specs.declared.script.ScriptFault.TheVariants.{Bad, NoMemory}

-- a program can make this event, and the line spells it, and no other that a program can make
pub record IsLine (line : List ℕ) (event : Event) : Type 0 where
  pub made : IsEvent event
  pub spells : Spells line event
  pub only : (other : Event) → IsEvent other → Spells line other → other ≡ event

-- the events were read, and this is left
abbrev pub Reads : List ℕ → List Event → List ℕ → Type 0
Reads bytes [] rest = bytes ≡ rest
Reads bytes (event ∷ events) rest = (line : List ℕ) × (next : List ℕ) × BeginsWith bytes line next × IsLine line event × Reads next events rest

pub record IsAllOfIt (bytes : List ℕ) (events : List Event) : Type 0 where
  pub script : IsScript bytes events
  pub only : IsOnlyScript bytes events

abbrev pub IsFaultOf : List ℕ → ScriptFault → Type 0
IsFaultOf bytes (Bad number) = IsBadLine bytes number
IsFaultOf bytes NoMemory = Unit {0}
