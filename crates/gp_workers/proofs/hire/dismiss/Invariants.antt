use Rattle.std.proofs.Common.{◌≡◌, ◌+◌, ◌*◌, ◌≤◌, ◌^◌, ◌++◌, List, length, map}
use Rattle.std.specs.List.{All}
use Rattle.std.specs.Vec.{vec_capacity, vec_len}
use Rattle.gp_workers.specs.Claims.{one_share}
use Rattle.gp_workers.specs.Served.{HasGathered, worker_report}
use Rattle.gp_workers.specs.Works.{IsJoined}
use Rattle.gp_workers.specs.declared.worker.Worker.{Worker}
use Rattle.gp_workers.proofs.Dismissing.{HasKept}
use Rattle.gp_workers.proofs.hire.dismiss.Given as goal

abbrev pub invariant-loop-worker : goal.invariant-loop-worker
invariant-loop-worker g l =
    All (λ w. (w.pass.turn ≡ l.hub) × (w.pass.parts ≡ 2 ^ 44) × (w.claimer.table ≡ l.claims) × (w.claimer.parts ≡ one_share)) l.workers
    × (l.claimer.table ≡ l.claims)
    × (vec_len l.kits + length l.workers ≤ vec_capacity l.kits) × (vec_len l.reports + length l.workers ≤ vec_capacity l.reports)
    × (l.pass.number ≡ l.initial.pass.number) × (l.pass.turn ≡ l.initial.pass.turn)
    × (l.pass.parts + 2 ^ 44 * length l.workers ≡ l.initial.pass.parts + 2 ^ 44 * length l.initial.workers)
    × HasKept l.initial.pass l.pass
    × ((done : List (Worker _)) × (l.initial.workers ≡ done ++ l.workers) × (l.kits.items ≡ map (λ w. w.kit) done) × (l.reports.items ≡ map worker_report done) × All (λ w. IsJoined w.pass l.pass) done × HasGathered l.initial.claimer l.claimer done)

abbrev pub decreases-loop-worker : goal.decreases-loop-worker
decreases-loop-worker g l = length l.workers
