-- Devices that were not used yet.
use Rattle.std.specs.Prelude.{ℕ, ◌≡◌, List, [], None, IfSome}
use Rattle.gp_outside.specs.Links.{LinkTells}
use Rattle.gp_outside.specs.Talks.{Talks}
use Rattle.gp_outside.specs.Dials.{DialTells}

-- nothing was received or sent, where that can be known, and nothing was counted
pub record IsUnusedLink (link : LinkTells) : Type 0 where
  pub received : IfSome link.received (λ (bytes : List ℕ). bytes ≡ [])
  pub sent : IfSome link.sent (λ (bytes : List ℕ). bytes ≡ [])
  pub faults : link.faults ≡ 0
  pub read_waits : link.read_waits ≡ 0
  pub write_waits : link.write_waits ≡ 0
  pub ends : link.ends ≡ 0

-- there was no talk, where that can be known, and nothing was counted
pub record IsUnusedDial (dial : DialTells) : Type 0 where
  pub talks : IfSome dial.talks (λ (talks : Talks). (talks.over ≡ []) × (talks.present ≡ None))
  pub faults : dial.faults ≡ 0
  pub connect_waits : dial.connect_waits ≡ 0
  pub read_waits : dial.read_waits ≡ 0
  pub write_waits : dial.write_waits ≡ 0
  pub ends : dial.ends ≡ 0
