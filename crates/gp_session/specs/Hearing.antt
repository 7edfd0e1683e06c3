-- What a client sends while its answer is held open. It is read and dropped.
use Rattle.std.specs.Prelude.{ℕ, ◌≡◌, ◌<◌, ◌≤◌, ◌+◌, List, length}
use Rattle.gp_outside.specs.Counts.{Rose}
use Rattle.gp_outside.specs.Links.{LinkTells}
use Rattle.gp_intake.specs.Polls.{Hears, IsGone}
use Rattle.gp_session.specs.Wires.{WireView}
use Rattle.gp_session.specs.declared.hearing.Heard.{Heard}
use Rattle.gp_session.specs.declared.hearing.Heard.TheVariants.{NotReady, Much, Gone}
use Rattle.gp_session.specs.declared.hearing.Once.{Once}
use Rattle.gp_session.specs.declared.hearing.Once.TheVariants as once

-- how many bytes are read at most
abbrev pub most_heard : ℕ
most_heard = 1048576

-- why no more was read: nothing has come, or as much was read as may be, and the link has no new fault; or the input
-- ended, or the link failed
abbrev pub HeardAs : LinkTells → LinkTells → List ℕ → Heard → Type 0
HeardAs before now more NotReady = Rose before.read_waits now.read_waits × (now.faults ≡ before.faults)
HeardAs before now more Much = (length more ≡ most_heard) × (now.faults ≡ before.faults)
HeardAs before now more Gone = IsGone before now

pub record HearsTo (before now : LinkTells) (heard : Heard) : Type 0 where
  pub more : List ℕ
  pub hears : Hears before now more
  pub most : length more ≤ most_heard
  pub says : HeardAs before now more heard

-- and nothing else of the client's end has changed
pub record Listens (v w : WireView) (heard : Heard) : Type 0 where
  pub start : w.start ≡ v.start
  pub rest : w.rest ≡ v.rest
  pub heard_is : HearsTo v.link w.link heard

-- one read of so many bytes at most
abbrev pub OnceAs : LinkTells → LinkTells → List ℕ → ℕ → Once → Type 0
OnceAs before now more most (once.Bytes count) = (0 < count) × (count ≤ most) × (length more ≡ count) × (now.faults ≡ before.faults)
OnceAs before now more most once.NotReady = (length more ≡ 0) × Rose before.read_waits now.read_waits × (now.faults ≡ before.faults)
OnceAs before now more most once.Gone = (length more ≡ 0) × IsGone before now

pub record HearsOnce (before now : LinkTells) (most : ℕ) (answer : Once) : Type 0 where
  pub more : List ℕ
  pub hears : Hears before now more
  pub says : OnceAs before now more most answer

-- all that was read, where so many bytes may still be
pub record HasHeard (before now : LinkTells) (left : ℕ) : Type 0 where
  pub more : List ℕ
  pub hears : Hears before now more
  pub few : length more + left ≡ most_heard
  pub sound : now.faults ≡ before.faults
