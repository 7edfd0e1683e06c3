-- What is reported of the holds of a session.
use Rattle.std.specs.Prelude.{ℕ, ◌+◌, ◌&&◌, Bool, true, false, cond, List, [], ◌∷◌, count_by}
use Rattle.gp_plain.specs.Holds.{Held}
use Rattle.gp_plain.specs.History.{held}
use Rattle.gp_plain.specs.Reports.{report}
use Rattle.gp_plain.specs.Others.{Share, share_of}
use Rattle.gp_plain.specs.declared.event.Entry.{Entry}
use Rattle.gp_plain.specs.declared.event.Event.{Event}
use Rattle.gp_plain.specs.declared.event.Event.TheVariants.{Attach, Publish, Take, Page, PageFailed, Push, Join, Leave, Detach}
use Rattle.gp_plain.specs.declared.reply.HoldReport.{HoldReport}
use Rattle.gp_turn.specs.Passes.{is_in}
use Rattle.gp_turn.specs.declared.range.Range.{Range}

-- the report of a hold with its number
abbrev pub hold_report : ℕ × Share → HoldReport
hold_report hold = report hold.0 hold.1

-- the holds whose owners stand in a range, each with its number; the first hold has a number
abbrev pub owned_from : Range → ℕ → List Held → List (ℕ × Share)
owned_from range number [] = []
owned_from range number (h ∷ holds) = cond (is_in h.owner range) ((number, share_of h) ∷ owned_from range (number + 1) holds) (owned_from range (number + 1) holds)

abbrev pub owned : Range → List Entry → List (ℕ × Share)
owned range entries = owned_from range 0 (held entries)

abbrev pub is_publish : Event → Bool
is_publish (Attach spec) = false
is_publish (Publish item) = true
is_publish (Take hold now) = false
is_publish (Page hold from to bytes then) = false
is_publish (PageFailed hold) = false
is_publish (Push hold message) = false
is_publish (Join hold channel) = false
is_publish (Leave hold channel) = false
is_publish (Detach hold) = false

-- how many items the numbers of a range published
abbrev pub published_by : Range → List Entry → ℕ
published_by range entries = count_by (λ (e : Entry). is_in e.who range && is_publish e.event) entries
