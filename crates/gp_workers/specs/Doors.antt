-- What a worker does at the doors of its kit.
use Rattle.std.specs.Prelude.{ℕ, ◌≡◌, ◌+◌, ◌-◌, ◌≤◌, ◌⊎◌, true, List, [], ◌∷◌, ◌++◌}
use Rattle.gp_outside.specs.Counts.{Rose}
use Rattle.gp_outside.specs.Kits.{KitParts}
use Rattle.gp_outside.specs.Links.{LinkTells}
use Rattle.gp_outside.specs.Listens.{ListenTells}
use Rattle.gp_outside.specs.Unused.{IsUnusedLink}
use Rattle.gp_outside.specs.declared.listen.Accepted.{Accepted}
use Rattle.gp_outside.specs.declared.listen.Accepted.TheVariants.{Took, NotReady, Failed}
use Rattle.atomic_table.specs.Seated.{TableId}
use Rattle.gp_turn.specs.Passes.{ranges_of, shortened, times_in}
use Rattle.gp_hub.specs.Passes.{GoesOnFrom}
use Rattle.gp_workers.specs.Makers.{Means, numbers}
use Rattle.gp_workers.specs.Books.{Books}
use Rattle.gp_workers.specs.Works.{IsOpen}
use Rattle.gp_workers.specs.declared.maker.Finished.{Finished}
use Rattle.gp_workers.specs.declared.worker.Running.{Running}

module _ {L : Type 0} where
  -- a connection is unused
  abbrev pub IsTaken : (L → LinkTells) → Accepted L → Type 0
  IsTaken link (Took taken) = IsUnusedLink (link taken)
  IsTaken link NotReady = Unit {0}
  IsTaken link Failed = Unit {0}

module _ {Ln I G L D C : Type 0} where
  -- what an accept at one of the doors says: a connection is unused, and a fault is that of its listener
  abbrev pub AcceptGave : (L → LinkTells) → (Ln → ListenTells) → KitParts Ln I G L D C → KitParts Ln I G L D C → Accepted L → Type 0
  AcceptGave link tells before now (Took taken) = IsUnusedLink (link taken)
  AcceptGave link tells before now NotReady = Unit {0}
  AcceptGave link tells before now Failed = Rose (tells before.clients).faults (tells now.clients).faults ⊎ Rose (tells before.publishers).faults (tells now.publishers).faults

  pub record HasAccepted (link : L → LinkTells) (tells : Ln → ListenTells) (before now : KitParts Ln I G L D C) (accepted : Accepted L) : Type 0 where
    pub handed : now.handed ≡ before.handed
    pub clients : (tells before.clients).faults ≤ (tells now.clients).faults
    pub publishers : (tells before.publishers).faults ≤ (tells now.publishers).faults
    pub gave : AcceptGave link tells before now accepted

module _ {L D C : Type 0} where
  -- what stays
  pub record IsLeft (before now : Books L D C) : Type 0 where
    pub claimer : now.claimer ≡ before.claimer
    pub reports : now.reports ≡ before.reports
    pub spare : now.spare ≡ before.spare
    pub handed : now.handed ≡ before.handed
    pub clients : now.clients ≡ before.clients
    pub publishers : now.publishers ≡ before.publishers
    pub failed : now.listen_failed ≡ before.listen_failed
    pub full : now.is_full ≡ before.is_full

module _ {L D C : Type 0} where
  -- A worker looked at the claims and at a door, or made room: its pass, the claims that it took and its reports are as
  -- they were, and a listener failed only where its faults rose.
  pub record HasMoved (before now : Books L D C) : Type 0 where
    pub pass : now.pass ≡ before.pass
    pub claimer : now.claimer ≡ record before.claimer { note = now.claimer.note }
    pub note : before.claimer.note ≤ now.claimer.note
    pub reports : now.reports ≡ before.reports
    pub handed : now.handed ≡ before.handed
    pub full : now.is_full ≡ before.is_full
    pub memory : before.no_memory ≡ true → now.no_memory ≡ true
    pub clients : before.clients ≤ now.clients
    pub publishers : before.publishers ≤ now.publishers
    pub failed : now.listen_failed ≡ true → (before.listen_failed ≡ true) ⊎ (Rose before.clients now.clients ⊎ Rose before.publishers now.publishers)

module _ {S L D C : Type 0} where
  -- a session was made, with the last numbers of the pass
  pub record HasMade (ended : S → Type 0) (may_give : S → Finished L D C → Type 0) (means : Means L D C) (turn : TableId) (claim : ℕ) (before now : Books L D C) (rs zs : List (Running S)) : Type 0 where
    pub one : Running S
    pub opens : IsOpen ended may_give means turn one
    pub claim_is : one.claim ≡ claim
    pub number : one.number ≡ before.pass.number + (before.pass.spare - numbers)
    pub running : zs ≡ rs ++ one ∷ []
    pub pass : now.pass ≡ shortened before.pass numbers
    pub memory : now.no_memory ≡ before.no_memory

module _ {S L D C : Type 0} where
  -- memory was wanting, and the pass has its parts and all its numbers again
  pub record HasRefused (before now : Books L D C) (rs zs : List (Running S)) : Type 0 where
    pub running : zs ≡ rs
    pub turn : now.pass.turn ≡ before.pass.turn
    pub number : now.pass.number ≡ before.pass.number
    pub parts : now.pass.parts ≡ before.pass.parts
    pub spare : before.pass.spare ≤ now.pass.spare + numbers
    pub enough : now.pass.spare ≤ now.pass.parts
    pub fewer : now.pass.spare ≤ before.pass.spare
    pub goes_on : GoesOnFrom before.pass now.pass.seen
    pub ranges : (n : ℕ) → times_in n (ranges_of now.pass) ≡ times_in n (ranges_of before.pass)
    pub past : (n : ℕ) → times_in n before.pass.past ≤ times_in n now.pass.past
    pub memory : now.no_memory ≡ true

  pub record HasBegun (ended : S → Type 0) (may_give : S → Finished L D C → Type 0) (means : Means L D C) (turn : TableId) (claim : ℕ) (before now : Books L D C) (rs zs : List (Running S)) : Type 0 where
    pub left : IsLeft before now
    pub made : HasMade ended may_give means turn claim before now rs zs ⊎ HasRefused before now rs zs
