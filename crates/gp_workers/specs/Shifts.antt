-- What workers did, each in its thread, and what became of the pass that they shared.
use Rattle.std.specs.Prelude.{ℕ, ◌≡◌, ◌+◌, ◌*◌, ◌<◌, ◌≤◌, ◌⊎◌, true, List, ◌++◌, All, length, map, sum_by, slice_get, Some, option_map}
use Rattle.atomic_table.specs.Seated.{TableId}
use Rattle.gp_plain.specs.Holds.{Held}
use Rattle.gp_plain.specs.History.{held}
use Rattle.gp_plain.specs.declared.event.Entry.{Entry}
use Rattle.gp_turn.specs.Passes.{range}
use Rattle.gp_hub.specs.Passes.{HubView}
use Rattle.gp_outside.specs.Counts.{Rose}
use Rattle.gp_outside.specs.Kits.{KitParts}
use Rattle.gp_outside.specs.Listens.{ListenTells}
use Rattle.gp_outside.specs.declared.kit.Handed.{Handed}
use Rattle.gp_workers.specs.Books.{Gave, handed_of, report_of}
use Rattle.gp_workers.specs.Claims.{below, times}
use Rattle.gp_workers.specs.Hires.{worker_numbers}
use Rattle.gp_workers.specs.Makers.{Means, numbers}
use Rattle.gp_workers.specs.Reports.{hold_report, owned}
use Rattle.gp_workers.specs.Works.{Holds, IsJoined, reported_at, reported_in, stands_in}
use Rattle.gp_workers.specs.declared.report.WorkerReport.{WorkerReport}

-- One worker: its kit before and afterwards, and what it told. Its sessions in the order in which they ended: first those
-- whose devices its kit took back, then the others. And the claims for which memory was wanting.
pub record Shift (K L D C : Type 0) : Type 0 where
  pub before : K
  pub after : K
  pub report : WorkerReport
  pub back : List (Gave L D C)
  pub lost : List (Gave L D C)
  pub dropped : List ℕ

module _ {K L D C : Type 0} where
  abbrev pub sessions_of : Shift K L D C → List (Gave L D C)
  sessions_of shift = shift.back ++ shift.lost

  -- how many reports have the claim, or how often it was dropped
  abbrev pub claims_at : ℕ → Shift K L D C → ℕ
  claims_at x shift = reported_at x shift.report.sessions.items + times x shift.dropped

  -- how many sessions were handed the number
  abbrev pub sessions_in : ℕ → Shift K L D C → ℕ
  sessions_in n shift = reported_in n shift.report.sessions.items

module _ {L D C : Type 0} where
  -- the holds of a session are reported as they stand in a history: each hold of the numbers that it was handed, and no other
  abbrev pub HoldsStand : List Entry → Gave L D C → Type 0
  HoldsStand history one = one.over.outcome.holds.items ≡ map hold_report (owned (range one.over.outcome.pass.number numbers) history)

module _ {K Ln I G L D C : Type 0} where
  pub record HasShifted (parts : K → KitParts Ln I G L D C) (tells : Ln → ListenTells) (means : Means L D C) (turn : TableId) (limit next : ℕ) (now : HubView) (shift : Shift K L D C) : Type 0 where
    -- its reports are those of its sessions, place by place, and so is what its kit was handed back
    pub reports : shift.report.sessions.items ≡ map report_of (sessions_of shift)
    pub handed : (parts shift.after).handed ≡ option_map (λ (all : List (Handed L D C)). all ++ map handed_of shift.back) (parts shift.before).handed
    -- the kit has fewer only for want of memory
    pub wanting : 0 < length shift.lost → shift.report.no_memory ≡ true
    -- what the maker says holds of each session, on a history that begins the joined one and holds all entries of its numbers
    pub holds : All (Holds means turn) (sessions_of shift)
    pub joined : All (λ (one : Gave L D C). IsJoined one.over.outcome.pass now) (sessions_of shift)
    -- the holds of each session are reported as they stand in the joined history
    pub stand : All (HoldsStand now.seen) (sessions_of shift)
    -- at most one claim was dropped, for want of memory
    pub few : length shift.dropped ≤ 1
    pub memory : 0 < length shift.dropped → shift.report.no_memory ≡ true
    -- a listener failed only where its faults rose
    pub failed : shift.report.listen_failed ≡ true → Rose (tells (parts shift.before).clients).faults (tells (parts shift.after).clients).faults ⊎ Rose (tells (parts shift.before).publishers).faults (tells (parts shift.after).publishers).faults
    -- it stopped since the claims were used up, memory was wanting, or a listener failed
    pub stopped : (limit ≤ next) ⊎ (shift.report.no_memory ≡ true) ⊎ (shift.report.listen_failed ≡ true)

  -- All workers. The claims that were taken are those below the next one, each once, and each below the limit is that of
  -- one report, but for those that were dropped. The numbers that sessions were handed are the pass's, and apart. The pass
  -- has all its parts again, and what it has seen goes on from before: an entry of a number that was the pass's is of a
  -- number that one session was handed, and so is the owner of a hold.
  pub record HaveWorked (parts : K → KitParts Ln I G L D C) (tells : Ln → ListenTells) (means : Means L D C) (limit : ℕ) (before now : HubView) (given taken : List K) (told : List WorkerReport) : Type 0 where
    pub shifts : List (Shift K L D C)
    pub next : ℕ
    pub kits : given ≡ map (λ (shift : Shift K L D C). shift.before) shifts
    pub back : taken ≡ map (λ (shift : Shift K L D C). shift.after) shifts
    pub reports : told ≡ map (λ (shift : Shift K L D C). shift.report) shifts
    pub each : All (HasShifted parts tells means before.turn limit next now) shifts
    pub claims : (x : ℕ) → x < limit → sum_by (claims_at x) shifts ≡ below x next
    pub apart : (n : ℕ) → sum_by (sessions_in n) shifts ≤ stands_in n before.number before.spare
    pub turn : now.turn ≡ before.turn
    pub number : now.number ≡ before.number
    pub parts_are : now.parts ≡ before.parts
    pub spare : now.spare + worker_numbers * length given ≡ before.spare
    pub more : List Entry
    pub grows : now.seen ≡ before.seen ++ more
    pub mine : All (λ (e : Entry). 0 < stands_in e.who before.number before.spare → sum_by (sessions_in e.who) shifts ≡ 1) more
    -- each further hold that is owned by a number that was the pass's stands in one report
    pub holds : (k : ℕ) (h : Held) → length (held before.seen) ≤ k → slice_get (held now.seen) k ≡ Some h → 0 < stands_in h.owner before.number before.spare → sum_by (sessions_in h.owner) shifts ≡ 1
