-- What a window is seen as.
use Rattle.std.specs.Prelude.{◌≡◌, Bool, true, false, List, [], ◌∷◌, ◌++◌, Option, Some, None}
use Rattle.gp_plain.specs.Follow.{last_items, is_repeat}
use Rattle.gp_plain.specs.declared.item.Item.{Item}
use Rattle.gp_window.specs.declared.window.Pushed.{Pushed}
use Rattle.gp_window.specs.declared.window.Pushed.TheVariants.{Kept, Repeat}

-- the items, oldest first, and whether their memory was taken
pub record Last : Type 0 where
  pub items : List Item
  pub reserved : Bool

abbrev pub last : List Item → Bool → Last
last items reserved = record { items = items; reserved = reserved }

abbrev pub last_of : Option (List Item) → Last
last_of None = last [] false
last_of (Some items) = last items true

-- a repeat changes nothing, and another item is the last of 4,096 at most
abbrev pub IsPushed : Last → Item → Pushed → Last → Type 0
IsPushed before item Kept now = (is_repeat before.items item ≡ false) × (now.items ≡ last_items (before.items ++ item ∷ [])) × (now.reserved ≡ true)
IsPushed before item Repeat now = (is_repeat before.items item ≡ true) × (now ≡ before)
