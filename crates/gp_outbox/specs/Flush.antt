-- What a flush does.
use Rattle.std.specs.Prelude.{ℕ, ◌≡◌, ◌≢◌, List, [], ◌++◌}
use Rattle.gp_outside.specs.Counts.{Rose, grown}
use Rattle.gp_outside.specs.Links.{LinkLater, LinkTells}
use Rattle.gp_outbox.specs.declared.outbox.Flushed.{Flushed}
use Rattle.gp_outbox.specs.declared.outbox.Flushed.TheVariants.{Empty, NotReady, Failed}

-- the bytes that were sent were the first of those that waited, and the rest still waits. Nothing of what reads move
-- has changed
pub record Passed (before now : LinkTells) (was rest : List ℕ) : Type 0 where
  pub out : List ℕ
  pub split : was ≡ out ++ rest
  pub sent : now.sent ≡ grown before.sent out
  pub received : now.received ≡ before.received
  pub read_waits : now.read_waits ≡ before.read_waits
  pub ends : now.ends ≡ before.ends
  pub later : LinkLater before now

-- nothing waits any more and no fault came, or the rest waits for what has its count
abbrev pub FlushedBy : LinkTells → LinkTells → List ℕ → Flushed → Type 0
FlushedBy before now rest Empty = (rest ≡ []) × (now.faults ≡ before.faults)
FlushedBy before now rest NotReady = (rest ≢ []) × Rose before.write_waits now.write_waits × (now.faults ≡ before.faults)
FlushedBy before now rest Failed = (rest ≢ []) × Rose before.faults now.faults
