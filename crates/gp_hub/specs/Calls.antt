-- What a call of a hub does to its pass, and why it is refused.
use Rattle.std.specs.Prelude.{ℕ, ◌≡◌, ◌*◌, ◌%◌, ◌^◌, ◌<◌, ◌≤◌, List, [], ◌∷◌, ◌++◌, length}
use Rattle.gp_plain.specs.declared.event.Entry.{Entry}
use Rattle.gp_plain.specs.declared.event.Event.{Event}
use Rattle.gp_plain.specs.declared.reply.Reply.{Reply}
use Rattle.gp_plain.specs.History as history
use Rattle.gp_plain.specs.Refusals.{NeedsNoMemory}
use Rattle.gp_turn.specs.declared.fault.TurnFault.{TurnFault}
use Rattle.gp_turn.specs.declared.fault.TurnFault.TheVariants as turn
use Rattle.gp_hub.specs.declared.fault.HubFault.{HubFault}
use Rattle.gp_hub.specs.declared.fault.HubFault.TheVariants.{Busy, Worn, NoMemory}
use Rattle.gp_hub.specs.Passes.{HubView, GoesOnFrom, entry_of}

-- an event was served: what stands before its entry goes on from what the pass had seen, and the reply is the
-- registry's after it. The word found counts what stands before
pub record HasCalled (p q : HubView) (event : Event) (reply : Reply) : Type 0 where
  pub before : List Entry
  pub goes_on : GoesOnFrom p before
  pub seen : q.seen ≡ before ++ entry_of p.number event ∷ []
  pub reply_is : reply ≡ history.reply before p.number event
  pub word : q.found ≡ 2 * length before
  pub few : length before < 2 ^ 62

-- Busy comes only where the word found is odd, Worn where it is even and at least 2^63, and below that only memory
-- can be wanting, and not for an event that takes none
abbrev pub HasCause : Event → ℕ → HubFault → Type 0
HasCause event found (Busy back word) = (back ≡ event) × (word ≡ found) × (found % 2 ≡ 1)
HasCause event found (Worn back) = (back ≡ event) × (found % 2 ≡ 0) × (2 ^ 63 ≤ found)
HasCause event found (NoMemory back) = (back ≡ event) × (found % 2 ≡ 0) × (found < 2 ^ 63) × (NeedsNoMemory event → ⊥)

abbrev pub cause_of : TurnFault Event → HubFault
cause_of (turn.Busy event word) = Busy event word
cause_of (turn.Worn event) = Worn event
cause_of (turn.NoMemory event) = NoMemory event
