-- A session answers a request that is accepted, unless something disturbs it.
use Rattle.std.specs.Prelude.{◌≡◌, ℕ, ◌⊎◌, List, ◌++◌, length, map}
use Rattle.gp_plain.specs.declared.item.Item.{Item}
use Rattle.gp_outside.specs.Counts.{grown}
use Rattle.gp_items.specs.Items.{AreItemsOf}
use Rattle.gp_hub.specs.declared.outcome.SessionEnd.TheVariants.{Sent, NoMemory}
use Rattle.gp_hub.specs.declared.outcome.Why.TheVariants.{Nothing}
use Rattle.gp_hub.specs.Own.{mine}
use Rattle.gp_intake.specs.declared.body.Whole.{Whole}
use Rattle.gp_session.specs.Wires.{RequestRow}
use Rattle.gp_session.specs.Seats.{IsWorn, publish_of}
use Rattle.gp_session.specs.Causes.{HasFailed, HasEnded}
use Rattle.gp_session_publish.specs.declared.stage.Ended.{Ended}
use Rattle.gp_session_publish.specs.Routing.{IsPublish, answer_text}
use Rattle.gp_session_publish.specs.Views.{LiveView}

-- a whole request to a publisher stands first, and its body has these items
pub record IsAccepted (items : List Item) (received : List ℕ) : Type 0 where
  pub w : Whole
  pub publish : IsPublish w received
  pub items_are : AreItemsOf w.body items

-- no such request stands first
abbrev pub IsUnaccepted : List ℕ → Type 0
IsUnaccepted received = (items : List Item) → ¬ (IsAccepted items received)

-- nor does one, whatever bytes follow
abbrev pub IsNeverAccepted : List ℕ → Type 0
IsNeverAccepted received = (more : List ℕ) → IsUnaccepted (received ++ more)

-- the request was accepted: its items stand in order, all of the answer was sent, and the outcome tells both
pub record IsAnswered (l : LiveView) (over : Ended) : Type 0 where
  pub items : List Item
  pub request : RequestRow l.wire (IsAccepted items)
  pub entries : mine l.seat.pass ≡ map (publish_of l.seat.pass.number) items
  pub sent : l.wire.link.sent ≡ grown l.wire.start.sent answer_text
  pub end : over.end ≡ Sent 200
  pub why : over.why ≡ Nothing
  pub published : over.published ≡ length items

-- how a session ends that nothing disturbed: the request was answered, or memory was wanting
pub data EndsWell (l : LiveView) (over : Ended) : Type 0 where
  answered : IsAnswered l over → EndsWell l over
  wanting : over.end ≡ NoMemory → EndsWell l over

-- what disturbs a session: a request that isn't accepted, whatever follows what was received of it; an input that ended before
-- such a request was whole; a fault of the link; and a hub that has served as many events as it can
pub data Disturbed (l : LiveView) : Type 0 where
  refused : RequestRow l.wire IsNeverAccepted → Disturbed l
  short : HasEnded l.wire → RequestRow l.wire IsUnaccepted → Disturbed l
  failed : HasFailed l.wire → Disturbed l
  worn : IsWorn l.seat → Disturbed l

-- a session ends well, or something disturbed it
abbrev pub Completes : LiveView → Ended → Type 0
Completes l over = EndsWell l over ⊎ Disturbed l
