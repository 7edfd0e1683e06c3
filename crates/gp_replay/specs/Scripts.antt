-- The events of a script, and its first bad line.
use Rattle.std.specs.Prelude.{ℕ, ◌≡◌, ◌≢◌, ◌+◌, ◌-◌, ◌^◌, min, List, [], ◌∷◌, ◌++◌, length, map}
use Rattle.gp_plain.specs.declared.event.Event.{Event}
use Rattle.gp_plain.specs.declared.event.Entry.{Entry}
use Rattle.gp_script.specs.Lines.{IsEvent, IsInGrammar, Spells}

-- no byte is a line feed
abbrev pub IsOneLine : List ℕ → Type 0
IsOneLine [] = Unit {0}
IsOneLine (b ∷ bytes) = (b ≢ 10) × IsOneLine bytes

-- the bytes begin with a line and its line feed
pub record BeginsWith (bytes line rest : List ℕ) : Type 0 where
  pub whole : bytes ≡ line ++ 10 ∷ rest
  pub one : IsOneLine line

-- the bytes are the lines of the events, each of which a program can make, and then the rest
abbrev pub Leaves : List ℕ → List Event → List ℕ → Type 0
Leaves bytes [] rest = bytes ≡ rest
Leaves bytes (event ∷ events) rest = (line : List ℕ) × (next : List ℕ) × BeginsWith bytes line next × IsEvent event × Spells line event × Leaves next events rest

-- a script is the lines of its events, each with its line feed
abbrev pub IsScript : List ℕ → List Event → Type 0
IsScript bytes events = Leaves bytes events []

-- no other events have this script
abbrev pub IsOnlyScript : List ℕ → List Event → Type 0
IsOnlyScript bytes events = (others : List Event) → IsScript bytes others → others ≡ events

-- the bytes are no script
abbrev pub IsNoScript : List ℕ → Type 0
IsNoScript bytes = (events : List Event) → IsScript bytes events → ⊥

-- something is left, and it doesn't begin with a line of the grammar; a last line without a line feed is none
pub record IsBad (rest : List ℕ) : Type 0 where
  pub more : rest ≢ []
  pub bad : (line next : List ℕ) → BeginsWith rest line next → IsInGrammar line → ⊥

-- the first line that isn't in the grammar has this number, counted from 1; one above 2^32 - 1 is told as that
pub record IsBadLine (bytes : List ℕ) (number : ℕ) : Type 0 where
  pub before : List Event
  pub rest : List ℕ
  pub good : Leaves bytes before rest
  pub bad : IsBad rest
  pub told : number ≡ min (length before + 1) (2 ^ 32 - 1)
  pub none : IsNoScript bytes

-- a script's entries are all by 0
abbrev pub entry_of : Event → Entry
entry_of event = record { who = 0; event = event }

abbrev pub entries_of : List Event → List Entry
entries_of events = map entry_of events
