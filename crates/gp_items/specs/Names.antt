-- The names and ids of an item.
use Rattle.std.specs.Prelude.{ℕ, ◌==◌, nat_lt, List, length, codes, Option, Some, None, Result, Ok, Err, if◌then◌else◌}
use Rattle.std.specs.List.{find, range_with_len}
use Rattle.serde_json.specs.Data.{Data}
use Rattle.gp_plain.specs.Names.{is_bad_at}
use Rattle.gp_plain.specs.declared.name.NameFault.{NameFault}
use Rattle.gp_plain.specs.declared.name.NameFault.TheVariants.{Empty, Long, Byte}
use Rattle.gp_json.specs.Steps.{result_and_then}
use Rattle.gp_json.specs.Members.{needed_text, text_member}
use Rattle.gp_items.specs.Faults.{told}
use Rattle.gp_items.specs.declared.fault.ItemFault.{ItemFault}
use Rattle.gp_items.specs.declared.fault.ItemFault.TheVariants.{Name}

-- the least place of a byte that no name has there
abbrev pub first_bad : List ℕ → Option ℕ
first_bad bytes = find (is_bad_at bytes) (range_with_len 0 (length bytes))

abbrev pub unless_bad : List ℕ → Option ℕ → Result (List ℕ) NameFault
unless_bad bytes None = Ok bytes
unless_bad bytes (Some place) = Err (Byte place)

-- the name that bytes spell, or the first fault in the order of the refusals
unfoldable pub name_of : List ℕ → Result (List ℕ) NameFault
name_of bytes =
    if length bytes == 0 then Err Empty else (if nat_lt 255 (length bytes) then Err (Long (length bytes)) else unless_bad bytes (first_bad bytes))

abbrev pub named : Result (List ℕ) NameFault → Result (List ℕ) ItemFault
named (Ok name) = Ok name
named (Err fault) = Err (Name fault)

-- the channel, which each item has
unfoldable pub channel_of : Data → Result (List ℕ) ItemFault
channel_of d = result_and_then (told (needed_text (codes "channel") d)) (λ text. named (name_of text))

abbrev pub id_if : Option (List ℕ) → Result (Option (List ℕ)) ItemFault
id_if None = Ok None
id_if (Some text) = result_and_then (named (name_of text)) (λ id. Ok (Some id))

-- an id, where the member is there
unfoldable pub id_of : List ℕ → Data → Result (Option (List ℕ)) ItemFault
id_of member d = result_and_then (told (text_member member d)) id_if
