-- The books of a worker: what it has, and how they change.
use Rattle.std.specs.Prelude.{ℕ, ◌≡◌, ◌-◌, ◌⊎◌, Bool, true, MatchBool, List, [], ◌∷◌, ◌++◌, Option, option_map}
use Rattle.gp_outside.specs.Kits.{KitParts}
use Rattle.gp_outside.specs.Listens.{ListenTells}
use Rattle.gp_outside.specs.declared.kit.Handed.{Handed}
use Rattle.gp_turn.specs.Passes.{with_joined}
use Rattle.gp_hub.specs.Passes.{HubView, GoesOnFrom}
use Rattle.gp_workers.specs.Claims.{ClaimView}
use Rattle.gp_workers.specs.declared.maker.Finished.{Finished}
use Rattle.gp_workers.specs.declared.report.SessionReport.{SessionReport}
use Rattle.gp_workers.specs.declared.worker.Worker.{Worker}

-- what is told of a worker: its pass, its claimer, its reports and for how many more there is room, what its kit was
-- handed back, the counts of faults of its listeners, and what went wrong
pub record Books (L D C : Type 0) : Type 0 where
  pub pass : HubView
  pub claimer : ClaimView
  pub reports : List SessionReport
  pub spare : ℕ
  pub handed : Option (List (Handed L D C))
  pub clients : ℕ
  pub publishers : ℕ
  pub listen_failed : Bool
  pub no_memory : Bool
  pub is_full : Bool

-- a session that ended: its claim, and what it gave
pub record Gave (L D C : Type 0) : Type 0 where
  pub claim : ℕ
  pub over : Finished L D C

module _ {K Ln I G L D C : Type 0} where
  abbrev pub books : (K → KitParts Ln I G L D C) → (Ln → ListenTells) → Worker K → Books L D C
  books parts tells worker = record {
    pass = worker.pass;
    claimer = worker.claimer;
    reports = worker.reports.items;
    spare = worker.reports.spare;
    handed = (parts worker.kit).handed;
    clients = (tells (parts worker.kit).clients).faults;
    publishers = (tells (parts worker.kit).publishers).faults;
    listen_failed = worker.listen_failed;
    no_memory = worker.no_memory;
    is_full = worker.is_full;
  }

module _ {L D C : Type 0} where
  abbrev pub handed_of : Gave L D C → Handed L D C
  handed_of gave = record { link = gave.over.link; others = gave.over.others }

  abbrev pub report_of : Gave L D C → SessionReport
  report_of gave = record { claim = gave.claim; number = gave.over.outcome.pass.number; end = gave.over.outcome.end; holds = gave.over.outcome.holds }

  -- the devices are handed back, or the kit is full, which is want of memory
  pub record Hands (before now : Books L D C) (devices : Handed L D C) : Type 0 where
    pub handed : MatchBool now.is_full (now.handed ≡ before.handed) (now.handed ≡ option_map (λ (all : List (Handed L D C)). all ++ devices ∷ []) before.handed)
    pub stays : before.is_full ≡ true → now.is_full ≡ true
    pub cause : now.is_full ≡ true → (before.is_full ≡ true) ⊎ (now.no_memory ≡ true)
    pub memory : before.no_memory ≡ true → now.no_memory ≡ true

  -- a session ended: its pass was joined, it was reported, and its devices were handed back
  pub record HasFinished (gave : Gave L D C) (before now : Books L D C) : Type 0 where
    pub joined : now.pass ≡ with_joined before.pass gave.over.outcome.pass
    pub goes_on : GoesOnFrom before.pass now.pass.seen
    pub gone : GoesOnFrom gave.over.outcome.pass now.pass.seen
    pub reports : now.reports ≡ before.reports ++ report_of gave ∷ []
    pub spare : now.spare ≡ before.spare - 1
    pub hands : Hands before now (handed_of gave)
    pub claimer : now.claimer ≡ before.claimer
    pub clients : now.clients ≡ before.clients
    pub publishers : now.publishers ≡ before.publishers
    pub failed : now.listen_failed ≡ before.listen_failed
