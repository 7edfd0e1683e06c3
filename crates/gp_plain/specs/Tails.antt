-- What a list of items, oldest first, says of an id on a channel.
use Rattle.std.specs.Prelude.{ℕ, ◌≡◌, ◌<◌, Bool, true, false, ◌&&◌, not, eqb, List, slice_get}
use Rattle.std.specs.List.{list_any}
use Rattle.std.specs.Option.{option_map_or}
use Rattle.gp_plain.specs.Items.{is_chained, is_id, is_on, goes_on_from}
use Rattle.gp_plain.specs.declared.item.Item.{Item}

-- a chained item of the channel with another id
abbrev pub is_further : List ℕ → List ℕ → Item → Bool
is_further channel id item = is_on channel item && is_chained item && not (is_id item.id id)

-- some item goes on from the id that this one has
abbrev pub is_continued : List Item → List ℕ → Item → Bool
is_continued items channel item = option_map_or (λ (own : List ℕ). list_any (goes_on_from channel own) items) item.id false

-- one from which no item goes on
abbrev pub is_tip_of : List Item → List ℕ → List ℕ → Item → Bool
is_tip_of items channel id item = is_further channel id item && not (is_continued items channel item)

-- some chained item of the channel has an id that isn't this one, and that isn't the previous id of any chained item of
-- the channel
abbrev pub ahead : List ℕ → List ℕ → List Item → Bool
ahead channel id items = list_any (is_tip_of items channel id) items

-- at the place, which isn't a used one, stands an item that goes on from the id
abbrev pub is_next_at : List Item → List ℕ → List ℕ → List ℕ → ℕ → Bool
is_next_at items channel id used place =
    not (list_any (λ (other : ℕ). eqb other place) used) && option_map_or (goes_on_from channel id) (slice_get items place) false

-- the least such place
pub record IsNextAfter (items : List Item) (channel id used : List ℕ) (place : ℕ) : Type 0 where
  pub here : is_next_at items channel id used place ≡ true
  pub least : (k : ℕ) → k < place → is_next_at items channel id used k ≡ false

abbrev pub IsNoNextAfter : List Item → List ℕ → List ℕ → List ℕ → Type 0
IsNoNextAfter items channel id used = (k : ℕ) → is_next_at items channel id used k ≡ false
