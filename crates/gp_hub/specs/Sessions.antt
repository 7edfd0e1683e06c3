-- What a poll of a session brings.
use Rattle.gp_hub.specs.declared.session.Polled.{Polled}
use Rattle.gp_hub.specs.declared.session.Polled.TheVariants.{Ready, Pending}

module _ {S T : Type 0} where
  -- the output is one that the session might give, and it has then ended; else it goes on, with no output that it
  -- couldn't give before
  abbrev pub HasPolled : (S → Type 0) → (S → T → Type 0) → S → S → Polled T → Type 0
  HasPolled ended may_give before after (Ready output) = may_give before output × ended after
  HasPolled ended may_give before after Pending = (ended after → ⊥) × ((output : T) → may_give after output → may_give before output)
