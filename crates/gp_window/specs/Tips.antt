-- The items from which nothing goes on.
use Rattle.std.specs.Prelude.{ℕ, ◌≡◌, Bool, true, ◌&&◌, not, cond, List, length, get_or, slice_get, Option, Some, None, is_some}
use Rattle.gp_plain.specs.Items.{is_chained}
use Rattle.gp_plain.specs.Tails.{is_continued}
use Rattle.gp_plain.specs.declared.item.Item.{Item}
use Rattle.gp_window.specs.Buckets.{channel_bucket}
use Rattle.gp_window.specs.Searches.{has_id, is_at}

-- a chained item, from whose id no item of the list goes on
abbrev pub is_open : List Item → Item → Bool
is_open items item = is_chained item && not (is_continued items item.channel item)

-- the id that a chained item goes on from
abbrev pub goes_from : Item → Option (List ℕ)
goes_from item = cond (is_some item.id) item.prev None

-- each of the shown items that is open in a list has the bucket of its channel as its mark; others may have it too
pub record IsMarked (items shown : List Item) (marks : List ℕ) : Type 0 where
  pub same : length marks ≡ length shown
  pub mark : (place : ℕ) (item : Item) → slice_get shown place ≡ Some item → is_open items item ≡ true → get_or marks place 0 ≡ channel_bucket item.channel

-- an item of the channel that has the id has the mark
pub record IsMarkedOf (items : List Item) (marks : List ℕ) (channel id : List ℕ) (bucket place : ℕ) : Type 0 where
  pub here : is_at (has_id channel id) items place ≡ true
  pub mark : get_or marks place 0 ≡ bucket
