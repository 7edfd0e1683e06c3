-- What contracts see of a pass of a hub.
use Rattle.std.specs.Prelude.{ℕ, ◌≡◌, ◌≤◌, false, List}
use Rattle.gp_plain.specs.declared.event.Entry.{Entry}
use Rattle.gp_plain.specs.declared.event.Event.{Event}
use Rattle.gp_turn.specs.Passes.{PassView, GoesOn}

-- the turn, the history that it has seen, its range, the ranges of its past, its parts, its looks and the word found
abbrev pub HubView : Type 0
HubView = PassView Entry

-- an event of a number, and the number of an entry
abbrev pub entry_of : ℕ → Event → Entry
entry_of who event = record { who = who; event = event }

abbrev pub who_of : Entry → ℕ
who_of entry = entry.who

-- the history that begins with what the pass has seen, and has beyond it no entry of the pass
abbrev pub GoesOnFrom : HubView → List Entry → Type 0
GoesOnFrom p later = GoesOn who_of p later

-- what a call leaves of a pass, and that it holds the turn neither before nor after
pub record IsSame (p q : HubView) : Type 0 where
  pub turn : q.turn ≡ p.turn
  pub number : q.number ≡ p.number
  pub spare : q.spare ≡ p.spare
  pub past : q.past ≡ p.past
  pub parts : q.parts ≡ p.parts
  pub some : 1 ≤ p.spare
  pub enough : p.spare ≤ p.parts
  pub free : (p.holds ≡ false) × (q.holds ≡ false)
