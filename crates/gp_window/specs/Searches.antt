-- What is looked for in a window, by the channel and the ids of an item.
use Rattle.std.specs.Prelude.{ℕ, ◌≡◌, Bool, true, false, eqb, ◌&&◌, not, List, slice_get, Option, Some, None}
use Rattle.std.specs.List.{list_any}
use Rattle.std.specs.Option.{option_map_or}
use Rattle.gp_plain.specs.Items.{is_id, is_on, goes_on_from}
use Rattle.gp_plain.specs.declared.item.Item.{Item}

-- an item of the channel that has the id
abbrev pub has_id : List ℕ → List ℕ → Item → Bool
has_id channel id item = is_on channel item && is_id item.id id

-- one that goes on from an id, and whose place isn't used
abbrev pub is_next_of : List ℕ → List ℕ → List ℕ → ℕ → Item → Bool
is_next_of channel id used place item = goes_on_from channel id item && not (list_any (λ (other : ℕ). eqb other place) used)

-- the item at a place is such a one
abbrev pub is_at : (Item → Bool) → List Item → ℕ → Bool
is_at is items place = option_map_or is (slice_get items place) false

-- the item at the place is such a one; none is, where there is no place
abbrev pub IsFound : (Item → Bool) → List Item → Option ℕ → Type 0
IsFound is items None = list_any is items ≡ false
IsFound is items (Some place) = is_at is items place ≡ true
