-- What an event does to a kept hold.
use Rattle.std.specs.Prelude.{ℕ, Bool, cond, List, [], ◌∷◌, ◌++◌}
use Rattle.gp_plain.specs.declared.item.Item.{Item}
use Rattle.gp_plain.specs.declared.reply.Taken.{Taken}
use Rattle.gp_plain.specs.Follow.{last_items}
use Rattle.gp_plain.specs.Holds.{State, RecoveryPage, is_live, offered, grew, served, taken_of, after_take, after_page, after_failure, SocketChange, after_change}
use Rattle.gp_plain.specs.Standing.{Kept}

-- the window with one more item
abbrev pub pushed : List Item → Item → List Item
pushed window item = last_items (window ++ item ∷ [])

abbrev pub served_kept : Item → List Item → List Item → Kept → Kept
served_kept item before after k = record k { state = served item before after k.state }

abbrev pub grew_kept : Kept → Kept → Bool
grew_kept before after = grew before.state after.state

abbrev pub taken_kept : ℕ → Kept → Taken
taken_kept now k = taken_of now k.state

abbrev pub after_take_kept : ℕ → Kept → Kept
after_take_kept now k = record k { state = after_take now k.state }

abbrev pub after_page_kept : List Item → RecoveryPage → Kept → Kept
after_page_kept window page k = record k { state = after_page window page k.state }

abbrev pub after_failure_kept : Kept → Kept
after_failure_kept k = record k { state = after_failure k.state }

abbrev pub after_change_kept : SocketChange → Kept → Kept
after_change_kept change k = record k { state = after_change change k.state }

-- what an item does to a live hold, before its marks are settled
abbrev pub offered_if : Item → List Item → State → State
offered_if item window s = cond (is_live s) (offered item window s) s
