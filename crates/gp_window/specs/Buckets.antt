-- The buckets by which items are found.
use Rattle.std.specs.Prelude.{ℕ, ◌+◌, ◌*◌, ◌/◌, ◌%◌, List, fold, Option, Some, None}
use Rattle.gp_plain.specs.declared.item.Item.{Item}

-- a number below 2^32 that goes on from another by the bytes of a text
abbrev pub mixed : ℕ → List ℕ → ℕ
mixed start bytes = fold (λ (hash byte : ℕ). (hash + byte) * 2654435761 % 4294967296) start bytes

-- the bucket of an id on a channel, below 16,384: equal ids of one channel share it
abbrev pub bucket : List ℕ → List ℕ → ℕ
bucket channel id = mixed (mixed 2166136261 channel) id / 262144

-- a missing id has a bucket of its own
abbrev pub bucket_or : List ℕ → Option (List ℕ) → ℕ
bucket_or channel None = 16384
bucket_or channel (Some id) = bucket channel id

-- the bucket of an item's id, and of its previous id
abbrev pub id_bucket : Item → ℕ
id_bucket item = bucket_or item.channel item.id

abbrev pub prev_bucket : Item → ℕ
prev_bucket item = bucket_or item.channel item.prev

abbrev pub channel_bucket : List ℕ → ℕ
channel_bucket channel = mixed 2166136261 channel / 262144
