-- What a server does once its routes are read: it makes kits, runs its workers, hands the kits back, and writes.
use Rattle.std.specs.Prelude.{ℕ, ◌≡◌, ◌⊎◌, Bool, true, false, List, ◌++◌, All, length, option_map}
use mathlib.Core.List.{IsPrefix}
use Rattle.std.specs.List.{list_any}
use Rattle.gp_outside.specs.Devices.{SinkTells, WroteAll, WrotePart}
use Rattle.gp_outside.specs.Kits.{KitParts}
use Rattle.gp_outside.specs.Listens.{ListenTells}
use Rattle.gp_outside.specs.Worlds.{WorldParts, FailsKit, IsUnusedKit}
use Rattle.gp_hub.specs.Passes.{HubView}
use Rattle.gp_workers.specs.Makers.{Means}
use Rattle.gp_workers.specs.Shifts.{HaveWorked}
use Rattle.gp_workers.specs.declared.report.WorkerReport.{WorkerReport}
use Rattle.gp_serve.specs.ReportTexts.{workers_text}
use Rattle.gp_replay.specs.declared.status.Status.{Status}
use Rattle.gp_replay.specs.declared.status.Status.TheVariants.{Done, Usage, FileFault, TooLong, BadLine, SinkFault, ListenFault, NoMemory}

-- whether memory was wanting for a worker
abbrev pub any_wanting : List WorkerReport → Bool
any_wanting reports = list_any (λ (report : WorkerReport). report.no_memory) reports

-- whether a listener of a worker failed
abbrev pub any_failed : List WorkerReport → Bool
any_failed reports = list_any (λ (report : WorkerReport). report.listen_failed) reports

module _ {F O C K : Type 0} where
  -- more kits were handed back, in order
  abbrev pub with_kits : WorldParts F O C K → List K → WorldParts F O C K
  with_kits world kits = record world { handed = option_map (λ (all : List K). all ++ kits) world.handed }

  -- a kit couldn't be made: the world had a fault, or memory was wanting
  abbrev pub CantMake : Status → WorldParts F O C K → WorldParts F O C K → Type 0
  CantMake ListenFault before now = FailsKit before now
  CantMake NoMemory before now = now ≡ before
  CantMake Done before now = ⊥
  CantMake (Usage place) before now = ⊥
  CantMake FileFault before now = ⊥
  CantMake TooLong before now = ⊥
  CantMake (BadLine line) before now = ⊥
  CantMake SinkFault before now = ⊥

  -- all kits were handed back, and then the whole report was written
  pub record HasWritten (tells : O → SinkTells) (back : List K) (reports : List WorkerReport) (before now : WorldParts F O C K) : Type 0 where
    pub same : now ≡ record (with_kits before back) { out = now.out }
    pub wrote : WroteAll (tells before.out) (tells now.out) (workers_text reports)

  -- all kits were handed back, and then a first part of the report was written
  pub record IsCut (tells : O → SinkTells) (back : List K) (reports : List WorkerReport) (before now : WorldParts F O C K) : Type 0 where
    pub same : now ≡ record (with_kits before back) { out = now.out }
    pub wrote : WrotePart (tells before.out) (tells now.out) (workers_text reports)

  -- the first of the kits were handed back, and nothing was written
  pub record IsLeftOff (back : List K) (before now : WorldParts F O C K) : Type 0 where
    pub some : List K
    pub first : IsPrefix some back
    pub same : now ≡ with_kits before some

  -- What workers that have done their work leave, by the status. Of several faults the sink's comes before want of memory,
  -- and that before a listener's.
  abbrev pub Leaves : (O → SinkTells) → List K → List WorkerReport → WorldParts F O C K → WorldParts F O C K → Status → Type 0
  Leaves tells back reports before now Done = HasWritten tells back reports before now × (any_wanting reports ≡ false) × (any_failed reports ≡ false)
  Leaves tells back reports before now ListenFault = HasWritten tells back reports before now × (any_wanting reports ≡ false) × (any_failed reports ≡ true)
  Leaves tells back reports before now NoMemory = (HasWritten tells back reports before now × (any_wanting reports ≡ true)) ⊎ IsLeftOff back before now
  Leaves tells back reports before now SinkFault = IsCut tells back reports before now
  Leaves tells back reports before now (Usage place) = ⊥
  Leaves tells back reports before now FileFault = ⊥
  Leaves tells back reports before now TooLong = ⊥
  Leaves tells back reports before now (BadLine line) = ⊥

module _ {K Ln I G L D T : Type 0} where
  -- The workers ran: each over a kit that nothing was done with before, all on one hub. This is what they report, and these
  -- are their kits afterwards.
  pub record HaveRun (parts : K → KitParts Ln I G L D T) (tells : Ln → ListenTells) (means : Means L D T) (workers limit : ℕ) (start : HubView) (back : List K) (reports : List WorkerReport) : Type 0 where
    pub made : List K
    pub count : length made ≡ workers
    pub unused : All (λ (kit : K). IsUnusedKit tells (parts kit)) made
    pub last : HubView
    pub worked : HaveWorked parts tells means limit start last made back reports

module _ {F O C K Ln I G L D T : Type 0} where
  -- the workers ran and left this by the status, or a kit couldn't be made, or memory was wanting before they began
  abbrev pub Serves : (O → SinkTells) → (K → KitParts Ln I G L D T) → (Ln → ListenTells) → Means L D T → ℕ → ℕ → HubView → WorldParts F O C K → WorldParts F O C K → Status → Type 0
  Serves out parts tells means workers limit start before now status =
      ((back : List K) × (reports : List WorkerReport) × HaveRun parts tells means workers limit start back reports × Leaves out back reports before now status)
      ⊎ CantMake status before now
