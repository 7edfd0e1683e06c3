-- When a hold of a pass asks for a page of its recovery.
use Rattle.std.specs.Prelude.{ℕ, ◌≡◌, true, List, slice_get, Some, None}
use Rattle.gp_plain.specs.Holds.{Held}
use Rattle.gp_plain.specs.History.{held}
use Rattle.gp_plain.specs.declared.reply.Taken.{Taken}
use Rattle.gp_hub.specs.Passes.{HubView}
use Rattle.gp_hub.specs.Own.{Keeps, HasTaken}

-- the hold of this number has asked for a page, which hasn't come
abbrev pub IsAsking : HubView → ℕ → Type 0
IsAsking p hold = (h : Held) → slice_get (held p.seen) hold ≡ Some h → h.state.asked ≡ true

-- no Take asks while a page is asked for
pub record AskingLaw : Type 0 where
  -- a Take that tells a position to recover from, and no end, has asked
  pub begins : (p q : HubView) (hold now : ℕ) (taken : Taken) (from : List ℕ) → Keeps p hold → HasTaken p q hold now taken → taken.recover ≡ Some from → taken.ended ≡ None → IsAsking q hold
  -- while a page is asked for, a Take that tells no end tells no position, and goes on so
  pub stays : (p q : HubView) (hold now : ℕ) (taken : Taken) → Keeps p hold → IsAsking p hold → HasTaken p q hold now taken → taken.ended ≡ None → (taken.recover ≡ None) × IsAsking q hold
