-- The talks that a dialer in memory keeps, as parts of one list of bytes.
use Rattle.std.specs.Prelude.{ℕ, ◌+◌, ◌≤◌, ◌≡◌, List, [], take, drop, length, map, Option, Some, None, option_map}
use Rattle.gp_outside.specs.Talks.{Talk, Talks}
use Rattle.gp_outside.specs.declared.mem_dial.Kept.{Kept}

-- the talk whose address's host, and then what was sent in it, stand in the bytes from a place on
abbrev pub talk_of : List ℕ → Kept → Talk
talk_of bytes kept = record { to = record { host = take kept.host (drop kept.from bytes); port = kept.port }; sent = take kept.sent (drop (kept.from + kept.host) bytes); received = take kept.done kept.answer }

abbrev pub talks_of : List ℕ → List Kept → Option Kept → Talks
talks_of bytes over present = record { over = map (talk_of bytes) over; present = option_map (talk_of bytes) present }

-- what is left of the answer
abbrev pub left_of : Option Kept → List ℕ
left_of None = []
left_of (Some kept) = drop kept.done kept.answer

abbrev pub IsWithin : ℕ → Kept → Type 0
IsWithin most kept = kept.from + kept.host + kept.sent ≤ most

-- the present talk stands last in the bytes
abbrev pub IsLast : ℕ → Option Kept → Type 0
IsLast all None = Unit {0}
IsLast all (Some kept) = (kept.from + kept.host + kept.sent ≡ all) × (kept.done ≤ length kept.answer)

-- how many talks there are to keep still, the present one among them
abbrev pub to_keep : Option Kept → ℕ → ℕ
to_keep None answers = answers
to_keep (Some kept) answers = answers + 1
