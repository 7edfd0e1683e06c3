-- What a registry keeps of a history.
use Rattle.std.specs.Prelude.{ℕ, ◌≡◌, ◌+◌, cond, List, [], ◌∷◌, length}
use Rattle.gp_plain.specs.Follow.{last_items}
use Rattle.gp_plain.specs.Holds.{State, Held}
use Rattle.gp_plain.specs.History.{Past, past_of}
use Rattle.gp_plain.specs.declared.item.Item.{Item}
use Rattle.gp_plain.specs.declared.event.Entry.{Entry}

-- a kept hold
pub record Kept : Type 0 where
  pub number : ℕ
  pub owner : ℕ
  pub state : State

-- the last items, the number of the next hold, and the kept holds in the order of their numbers
pub record Standing : Type 0 where
  pub window : List Item
  pub next : ℕ
  pub kept : List Kept

abbrev pub kept_of : ℕ → Held → Kept
kept_of number h = record { number = number; owner = h.owner; state = h.state }

-- the kept ones of holds, the first of which has a number
abbrev pub kept_from : ℕ → List Held → List Kept
kept_from number [] = []
kept_from number (h ∷ holds) = cond h.released (kept_from (number + 1) holds) (kept_of number h ∷ kept_from (number + 1) holds)

abbrev pub standing_of : Past → Standing
standing_of past = record { window = last_items past.published; next = length past.holds; kept = kept_from 0 past.holds }

-- the registry stands for the history
abbrev pub StandsFor : Standing → List Entry → Type 0
StandsFor standing entries = standing ≡ standing_of (past_of entries)
