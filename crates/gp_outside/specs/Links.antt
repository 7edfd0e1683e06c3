-- What a call on a link says.
use Rattle.std.specs.Prelude.{ℕ, ◌≡◌, ◌<◌, ◌≤◌, List, length, take, Option}
use Rattle.gp_outside.specs.Counts.{Rose, grown}
use Rattle.gp_outside.specs.declared.link.Got.{Got}
use Rattle.gp_outside.specs.declared.link.Got.TheVariants.{Took, End, NotReady, Failed}
use Rattle.gp_outside.specs.declared.link.Put.{Put}
use Rattle.gp_outside.specs.declared.link.Put.TheVariants.{Took as PutTook, NotReady as PutNotReady, Failed as PutFailed}

-- what a link tells: the bytes that were received and sent, where they can be known, and its counts
pub record LinkTells : Type 0 where
  pub received : Option (List ℕ)
  pub sent : Option (List ℕ)
  pub faults : ℕ
  pub read_waits : ℕ
  pub write_waits : ℕ
  pub ends : ℕ

-- no count fell
pub record LinkLater (before now : LinkTells) : Type 0 where
  pub faults : before.faults ≤ now.faults
  pub read_waits : before.read_waits ≤ now.read_waits
  pub write_waits : before.write_waits ≤ now.write_waits
  pub ends : before.ends ≤ now.ends

-- a failed read has its fault, and every other leaves the count of faults as it was
abbrev pub ReadFaults : Got → ℕ → ℕ → Type 0
ReadFaults Failed before now = Rose before now
ReadFaults (Took n) before now = now ≡ before
ReadFaults End before now = now ≡ before
ReadFaults NotReady before now = now ≡ before

-- a failed write has its fault, and every other leaves the count of faults as it was
abbrev pub WriteFaults : Put → ℕ → ℕ → Type 0
WriteFaults PutFailed before now = Rose before now
WriteFaults (PutTook n) before now = now ≡ before
WriteFaults PutNotReady before now = now ≡ before

-- a read receives the bytes that then stand first, at least one, or none; an end and a wait have their count
abbrev pub Receives : LinkTells → LinkTells → List ℕ → Got → Type 0
Receives before now into (Took n) = (0 < n) × (n ≤ length into) × (now.received ≡ grown before.received (take n into))
Receives before now into End = (now.received ≡ before.received) × Rose before.ends now.ends
Receives before now into NotReady = (now.received ≡ before.received) × Rose before.read_waits now.read_waits
Receives before now into Failed = now.received ≡ before.received

pub record IsLinkRead (before now : LinkTells) (into : List ℕ) (got : Got) : Type 0 where
  pub later : LinkLater before now
  pub sent : now.sent ≡ before.sent
  pub write_waits : now.write_waits ≡ before.write_waits
  pub faulted : ReadFaults got before.faults now.faults
  pub moved : Receives before now into got

-- a write sends the first bytes, at least one, or none; a wait has its count
abbrev pub Sends : LinkTells → LinkTells → List ℕ → Put → Type 0
Sends before now from (PutTook n) = (0 < n) × (n ≤ length from) × (now.sent ≡ grown before.sent (take n from))
Sends before now from PutNotReady = (now.sent ≡ before.sent) × Rose before.write_waits now.write_waits
Sends before now from PutFailed = now.sent ≡ before.sent

pub record IsLinkWrite (before now : LinkTells) (from : List ℕ) (put : Put) : Type 0 where
  pub later : LinkLater before now
  pub received : now.received ≡ before.received
  pub read_waits : now.read_waits ≡ before.read_waits
  pub ends : now.ends ≡ before.ends
  pub faulted : WriteFaults put before.faults now.faults
  pub moved : Sends before now from put
