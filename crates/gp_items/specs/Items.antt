-- The items of a publish body, or its first fault.
use Rattle.std.specs.Prelude.{ℕ, ◌≡◌, ◌+◌, min, nat_lt, List, [], ◌∷◌, length, codes, Option, Some, None, option_and_then, Result, Ok, Err, if◌then◌else◌, ⊤}
use Rattle.serde_json.specs.Data.{Data}
use Rattle.gp_plain.specs.declared.item.Item.{Item}
use Rattle.gp_json.specs.Steps.{result_and_then}
use Rattle.gp_json.specs.Texts.{IsObjectText}
use Rattle.gp_json.specs.Members.{member_of, as_elements}
use Rattle.gp_items.specs.Faults.{fault_at}
use Rattle.gp_items.specs.Names.{channel_of, id_of}
use Rattle.gp_items.specs.Formats.{formats_of, response_in, stream_in, message_in}
use Rattle.gp_items.specs.declared.fault.ItemFault.{ItemFault}
use Rattle.gp_items.specs.declared.fault.ItemsFault.{ItemsFault}
use Rattle.gp_items.specs.declared.fault.ItemsFault.TheVariants.{NotJson, NoItems, TooMany, Member, Base64, Long, Name, NoMemory}

-- an item, or its first fault in the order of its members
unfoldable pub item_of : Data → Result Item ItemFault
item_of d =
    result_and_then (channel_of d) (λ channel.
    result_and_then (id_of (codes "id") d) (λ id.
    result_and_then (id_of (codes "prev-id") d) (λ prev.
    result_and_then (formats_of d) (λ formats.
    result_and_then (response_in formats) (λ response.
    result_and_then (stream_in formats) (λ stream.
    result_and_then (message_in formats) (λ message.
    Ok (record { channel = channel; id = id; prev = prev; response = response; stream = stream; message = message }))))))))

abbrev pub placed : ℕ → Result Item ItemFault → Result Item ItemsFault
placed place (Ok item) = Ok item
placed place (Err fault) = Err (fault_at place fault)

-- the items of elements whose first stands at a place, or the first fault of the first that has one
abbrev pub items_from : ℕ → List Data → Result (List Item) ItemsFault
items_from place [] = Ok []
items_from place (d ∷ ds) =
    result_and_then (placed place (item_of d)) (λ item.
    result_and_then (items_from (place + 1) ds) (λ items.
    Ok (item ∷ items)))

-- how many there are is told up to the greatest number that fits
abbrev pub told_count : ℕ → ℕ
told_count n = min n 4294967295

-- 1 to 1,000 elements are read
abbrev pub items_if : Option (List Data) → Result (List Item) ItemsFault
items_if None = Err NoItems
items_if (Some []) = Err NoItems
items_if (Some (d ∷ ds)) = if nat_lt 1000 (length (d ∷ ds)) then Err (TooMany (told_count (length (d ∷ ds)))) else items_from 0 (d ∷ ds)

-- what the member `items` of an object says
unfoldable pub items_in : Data → Result (List Item) ItemsFault
items_in d = items_if (option_and_then as_elements (member_of (codes "items") d))

-- the bytes are the text of an object that has these items
pub record AreItemsOf (bytes : List ℕ) (items : List Item) : Type 0 where
  pub value : Data
  pub text : IsObjectText bytes value
  pub items_are : items_in value ≡ Ok items

-- the bytes are the text of an object whose items have this first fault
pub record IsRefused (bytes : List ℕ) (fault : ItemsFault) : Type 0 where
  pub value : Data
  pub text : IsObjectText bytes value
  pub fault_is : items_in value ≡ Err fault

-- why bytes are refused
abbrev pub IsItemsFault : List ℕ → ItemsFault → Type 0
IsItemsFault bytes NotJson = (value : Data) → IsObjectText bytes value → ⊥
IsItemsFault bytes NoItems = IsRefused bytes NoItems
IsItemsFault bytes (TooMany count) = IsRefused bytes (TooMany count)
IsItemsFault bytes (Member place name) = IsRefused bytes (Member place name)
IsItemsFault bytes (Base64 place name) = IsRefused bytes (Base64 place name)
IsItemsFault bytes (Long place length) = IsRefused bytes (Long place length)
IsItemsFault bytes (Name place fault) = IsRefused bytes (Name place fault)
IsItemsFault bytes NoMemory = ⊤
