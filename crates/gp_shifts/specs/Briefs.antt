-- What a session of these tests gives.
use Rattle.std.specs.Prelude.{ℕ, ◌≡◌, List, [], Option, Some, None}
use Rattle.gp_plain.specs.declared.event.Entry.{Entry}
use Rattle.gp_plain.specs.declared.reply.HoldReport.{HoldReport}
use Rattle.gp_hub.specs.Passes.{HubView}
use Rattle.gp_hub.specs.declared.outcome.SessionEnd.{SessionEnd}
use Rattle.gp_hub.specs.declared.outcome.SessionEnd.TheVariants.{Sent}
use Rattle.gp_workers.specs.declared.maker.Finished.{Finished}
use Rattle.gp_shifts.specs.declared.brief.Rest.{Rest}

module _ {L D C : Type 0} where
  -- it gives its pass, reports no hold, and says that it sent 200
  abbrev pub GivesRest : Option Rest → Finished L D C → Type 0
  GivesRest None over = ⊥
  GivesRest (Some rest) over = (over.outcome.pass ≡ rest.pass) × (over.outcome.holds ≡ rest.holds) × (over.outcome.published ≡ 0) × (over.outcome.end ≡ Sent 200)

  -- the same of a session that began with a pass
  abbrev pub GivesAll : HubView → Finished L D C → Type 0
  GivesAll pass over = (over.outcome.pass ≡ pass) × (over.outcome.holds.items ≡ []) × (over.outcome.published ≡ 0) × (over.outcome.end ≡ Sent 200)

-- a session that began with a pass, and attached no hold
abbrev pub BeganWith : HubView → Option Rest → Type 0
BeganWith pass None = ⊥
BeganWith pass (Some rest) = (rest.pass ≡ pass) × (rest.holds.items ≡ [])

-- what its maker says of it
abbrev pub Says : {L O : Type 0} → List Entry → ℕ → ℕ → SessionEnd → List HoldReport → L → O → Type 0
Says seen claim number end holds link others = end ≡ Sent 200
