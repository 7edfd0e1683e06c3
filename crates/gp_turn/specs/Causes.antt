-- Why a call is refused.
use Rattle.std.specs.Prelude.{ℕ, ◌≡◌, ◌<◌, ◌≤◌, ◌%◌, ◌^◌}
use Rattle.gp_turn.specs.declared.fault.TurnFault.{TurnFault}
use Rattle.gp_turn.specs.declared.fault.TurnFault.TheVariants.{Busy, Worn, NoMemory}

module _ {A : Type 0} where
  -- the fault hands the ask back, and the word that this call's one step found tells which fault it is:
  -- an odd word is Busy, an even one of at least 2^63 is Worn, and below that only memory can be wanting
  abbrev pub HasCause : (A → Type 0) → A → ℕ → TurnFault A → Type 0
  HasCause always ask found (Busy back word) = (back ≡ ask) × (word ≡ found) × (found % 2 ≡ 1)
  HasCause always ask found (Worn back) = (back ≡ ask) × (found % 2 ≡ 0) × (2 ^ 63 ≤ found)
  HasCause always ask found (NoMemory back) = (back ≡ ask) × (found % 2 ≡ 0) × (found < 2 ^ 63) × (always ask → ⊥)
