-- What an item says of itself.
use Rattle.std.specs.Prelude.{ℕ, Bool, true, false, ◌&&◌, List, [], Option, Some, None, is_some}
use Rattle.gp_plain.specs.Names.{same_id}
use Rattle.gp_plain.specs.declared.item.Item.{Item}
use Rattle.gp_plain.specs.declared.item.StreamPart.{StreamPart}
use Rattle.gp_plain.specs.declared.item.StreamPart.TheVariants.{Content, Close}

-- a chained item has both ids
abbrev pub is_chained : Item → Bool
is_chained item = is_some item.id && is_some item.prev

-- there is an id, and it is this one
abbrev pub is_id : Option (List ℕ) → List ℕ → Bool
is_id None id = false
is_id (Some own) id = same_id own id

-- two ids are there, and they are one
abbrev pub is_same : Option (List ℕ) → Option (List ℕ) → Bool
is_same own None = false
is_same own (Some id) = is_id own id

-- a chained item whose previous id is this one
abbrev pub comes_after : Item → List ℕ → Bool
comes_after item id = is_some item.id && is_id item.prev id

abbrev pub is_on : List ℕ → Item → Bool
is_on channel item = same_id item.channel channel

-- a chained item of the channel whose previous id is this one: it goes on from the id on the channel
abbrev pub goes_on_from : List ℕ → List ℕ → Item → Bool
goes_on_from channel id item = comes_after item id && is_on channel item

-- what a stream is sent of an item: a missing part and a close give no byte
abbrev pub content_of : Option StreamPart → List ℕ
content_of None = []
content_of (Some Close) = []
content_of (Some (Content bytes)) = bytes

abbrev pub closes : Option StreamPart → Bool
closes None = false
closes (Some Close) = true
closes (Some (Content bytes)) = false
