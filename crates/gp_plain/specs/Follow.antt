-- The items that follow an id on a channel in a list of items, oldest first.
use Rattle.std.specs.Prelude.{ℕ, zero, suc, ◌-◌, Bool, cond, ◌&&◌, List, [], ◌∷◌, length, drop, find, Option, Some, None}
use Rattle.std.specs.List.{list_any}
use Rattle.gp_plain.specs.Items.{is_on, is_same, goes_on_from}
use Rattle.gp_plain.specs.Pieces.{id_or}
use Rattle.gp_plain.specs.declared.item.Item.{Item}

-- the last 4,096 of the items that were published, oldest first
abbrev pub last_items : List Item → List Item
last_items published = drop (length published - 4096) published

-- the item is on one of the channels
abbrev pub is_heard : List (List ℕ) → Item → Bool
is_heard channels item = list_any (λ (channel : List ℕ). is_on channel item) channels

-- the item has an id that an item of its channel in the window has
abbrev pub is_repeat : List Item → Item → Bool
is_repeat window item = list_any (λ (other : Item). is_on item.channel other && is_same item.id other.id) window

-- a list without its first item of a kind
abbrev pub without_first : (Item → Bool) → List Item → List Item
without_first is [] = []
without_first is (item ∷ items) = cond (is item) items (item ∷ without_first is items)

abbrev pub going_on : (Item → Bool) → List ℕ → (List ℕ → List Item) → Option Item → List Item
going_on ends id rest None = []
going_on ends id rest (Some item) = item ∷ cond (ends item) [] (rest (id_or item.id id))

-- so many items at most: the first that goes on from an id on the channel, and then those from its id on, in the list
-- without it; none where there is none, or behind an item that ends the hold
abbrev pub follow_within : ℕ → List ℕ → (Item → Bool) → List ℕ → List Item → List Item
follow_within zero channel ends id items = []
follow_within (suc n) channel ends id items =
    going_on ends id (λ (next : List ℕ). follow_within n channel ends next (without_first (goes_on_from channel id) items)) (find (goes_on_from channel id) items)

-- all items of the list that follow an id on the channel: each is taken once
abbrev pub follow : List ℕ → (Item → Bool) → List ℕ → List Item → List Item
follow channel ends id items = follow_within (length items) channel ends id items
