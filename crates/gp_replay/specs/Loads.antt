-- What the parts of a replay say.
use Rattle.std.specs.Prelude.{ℕ, ◌≡◌, ◌<◌, ◌≤◌, List, length, Option, Some, IfSome}
use Rattle.gp_plain.specs.declared.event.Event.{Event}
use Rattle.gp_outside.specs.Counts.{Rose}
use Rattle.gp_replay.specs.Scripts.{IsScript, IsOnlyScript, IsBadLine}
use Rattle.gp_replay.specs.declared.status.Status.{Status}
use Rattle.gp_replay.specs.declared.status.Status.TheVariants.{Done, Usage, FileFault, TooLong, BadLine, SinkFault, ListenFault, NoMemory}

-- what is told of a file, and the faults of the files before and after its read
pub record Load : Type 0 where
  pub content : Option (List ℕ)
  pub faults : ℕ
  pub faults_after : ℕ

-- no fault of the files came
abbrev pub IsQuiet : Load → Type 0
IsQuiet load = load.faults_after ≡ load.faults

-- these bytes were read: those that are told of the file, where they are, and at most 16,777,216
pub record IsContent (load : Load) (bytes : List ℕ) : Type 0 where
  pub told : IfSome load.content (λ (content : List ℕ). content ≡ bytes)
  pub few : length bytes ≤ 16777216
  pub quiet : IsQuiet load

-- the events are those of the file, and no others are
pub record IsLoaded (load : Load) (events : List Event) : Type 0 where
  pub bytes : List ℕ
  pub content : IsContent load bytes
  pub script : IsScript bytes events
  pub only : IsOnlyScript bytes events
  pub few : length events ≤ 16777216

-- a line of the file is the first that isn't in the grammar
pub record IsBadFile (load : Load) (line : ℕ) : Type 0 where
  pub bytes : List ℕ
  pub content : IsContent load bytes
  pub bad : IsBadLine bytes line

-- the file has too many bytes
pub record IsLongFile (load : Load) : Type 0 where
  pub long : (bytes : List ℕ) → load.content ≡ Some bytes → 16777216 < length bytes
  pub quiet : IsQuiet load

abbrev pub IsNotLoaded : Load → Status → Type 0
IsNotLoaded load FileFault = Rose load.faults load.faults_after
IsNotLoaded load TooLong = IsLongFile load
IsNotLoaded load (BadLine line) = IsBadFile load line
IsNotLoaded load NoMemory = IsQuiet load
IsNotLoaded load Done = ⊥
IsNotLoaded load (Usage place) = ⊥
IsNotLoaded load SinkFault = ⊥
IsNotLoaded load ListenFault = ⊥
