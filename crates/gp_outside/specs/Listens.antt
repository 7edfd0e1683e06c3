-- What a call on a listener says.
use Rattle.std.specs.Prelude.{ℕ, ◌≡◌, ◌≤◌}
use Rattle.gp_outside.specs.Counts.{Rose}
use Rattle.gp_outside.specs.Links.{LinkTells}
use Rattle.gp_outside.specs.Unused.{IsUnusedLink}
use Rattle.gp_outside.specs.declared.listen.Accepted.{Accepted}
use Rattle.gp_outside.specs.declared.listen.Accepted.TheVariants.{Took, NotReady, Failed}

-- what a listener tells: how many faults there were, and how often nobody was there
pub record ListenTells : Type 0 where
  pub faults : ℕ
  pub waits : ℕ

-- no count fell
pub record ListenLater (before now : ListenTells) : Type 0 where
  pub faults : before.faults ≤ now.faults
  pub waits : before.waits ≤ now.waits

-- nothing was counted
pub record IsUnusedListen (listen : ListenTells) : Type 0 where
  pub faults : listen.faults ≡ 0
  pub waits : listen.waits ≡ 0

module _ {L : Type 0} where
  -- the link that was taken is unused; a wait has its count, and a failed accept its fault
  abbrev pub Accepts : (L → LinkTells) → ListenTells → ListenTells → Accepted L → Type 0
  Accepts told before now (Took link) = (now.faults ≡ before.faults) × IsUnusedLink (told link)
  Accepts told before now NotReady = (now.faults ≡ before.faults) × Rose before.waits now.waits
  Accepts told before now Failed = Rose before.faults now.faults

  pub record IsAccept (told : L → LinkTells) (before now : ListenTells) (accepted : Accepted L) : Type 0 where
    pub later : ListenLater before now
    pub gave : Accepts told before now accepted
