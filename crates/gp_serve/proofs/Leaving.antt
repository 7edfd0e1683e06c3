-- What workers leave, after their kits were made.
use Rattle.std.proofs.Common.{◌≡◌, inl, ℕ, List, subst}
use Rattle.gp_outside.specs.Devices.{SinkTells}
use Rattle.gp_outside.specs.Kits.{KitParts}
use Rattle.gp_outside.specs.Listens.{ListenTells}
use Rattle.gp_outside.specs.Worlds.{WorldParts}
use Rattle.gp_hub.specs.Passes.{HubView}
use Rattle.gp_workers.specs.Makers.{Means}
use Rattle.gp_workers.specs.declared.report.WorkerReport.{WorkerReport}
use Rattle.gp_serve.specs.Serves.{HaveRun, Leaves, Serves}
use Rattle.gp_replay.specs.declared.status.Status.{Status}

module _ {F O C K Ln I G L D T : Type 0} where
  pub served : (out : O → SinkTells) (parts : K → KitParts Ln I G L D T) (tells : Ln → ListenTells) (means : Means L D T) (workers limit : ℕ) (start : HubView) (before made now : WorldParts F O C K) (status : Status) (back : List K) (given reports : List WorkerReport)
      → made ≡ before → given ≡ reports → HaveRun parts tells means workers limit start back reports → Leaves out back given made now status → Serves out parts tells means workers limit start before now status
  served out parts tells means workers limit start before made now status back given reports same are run leaves =
      inl (back, reports, run, subst (λ (rs : List WorkerReport). Leaves out back rs before now status) are (subst (λ (w : WorldParts F O C K). Leaves out back given w now status) same leaves))
