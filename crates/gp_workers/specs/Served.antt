-- What workers tell, and what they give back.
use Rattle.std.specs.Prelude.{ℕ, ◌≡◌, ◌+◌, ◌*◌, ◌≤◌, List, All, length, sum_by}
use Rattle.gp_turn.specs.Passes.{times_in}
use Rattle.gp_hub.specs.Passes.{HubView, GoesOnFrom}
use Rattle.gp_workers.specs.Claims.{ClaimView, one_share, times}
use Rattle.gp_workers.specs.Works.{stands_in}
use Rattle.gp_workers.specs.declared.report.WorkerReport.{WorkerReport}
use Rattle.gp_workers.specs.declared.worker.Worker.{Worker}

module _ {K : Type 0} where
  abbrev pub worker_report : Worker K → WorkerReport
  worker_report worker = record { sessions = worker.reports; listen_failed = worker.listen_failed; no_memory = worker.no_memory }

  -- how many workers have the number
  abbrev pub workers_in : ℕ → List (Worker K) → ℕ
  workers_in n workers = sum_by (λ (w : Worker K). stands_in n w.pass.number w.pass.spare) workers

  -- how many workers took the claim
  abbrev pub taken_at : ℕ → List (Worker K) → ℕ
  taken_at x workers = sum_by (λ (w : Worker K). times x w.claimer.taken) workers

  -- a claimer has what the workers' claimers had too
  pub record HasGathered (before now : ClaimView) (workers : List (Worker K)) : Type 0 where
    pub table : now.table ≡ before.table
    pub parts : now.parts ≡ before.parts + one_share * length workers
    pub taken : (x : ℕ) → times x now.taken ≡ times x before.taken + taken_at x workers
    pub notes : All (λ (w : Worker K). w.claimer.note ≤ now.note) workers

-- a pass has seen more, none of it of its own numbers, and loses none of its past
pub record HasGrown (before now : HubView) : Type 0 where
  pub goes_on : GoesOnFrom before now.seen
  pub past : (n : ℕ) → times_in n before.past ≤ times_in n now.past
