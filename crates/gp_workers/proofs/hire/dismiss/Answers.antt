use Rattle.std.proofs.Common.{rules, refl, ◌≡◌, ◌+◌, ◌^◌, [], ◌∷◌, ◌++◌, append-nil, sym, ◌∙◌, ap, arith}
use Rattle.std.proofs.lemmas.List.Elements.{All-push, All-weaker}
use Rattle.gp_hub.specs.Passes.{HubView}
use Rattle.gp_workers.specs.Served.{worker_report}
use Rattle.gp_workers.specs.Claims.{one_share}
use Rattle.gp_workers.specs.Works.{IsJoined}
use Rattle.gp_workers.proofs.Working.{map_push}
use Rattle.gp_workers.proofs.Joining.{joined_gone, joined_grown, joined_later}
use Rattle.gp_workers.proofs.Dismissing.{gathered_push, kept_joined}
use Rattle.gp_workers.proofs.Taking.{first_of, rest_of, length_first, moved_on, none_first}
use Rattle.gp_workers.proofs.hire.dismiss.Goals as goal

-- src/hire.rt:123:9
pub join-requires : goal.join-requires
join-requires g c =
    let first = sym c.take_first.ensures.first ∙ c.in-Some.is in
    let one = first_of (λ w. (w.pass.turn ≡ c.args.hub.now) × (w.pass.parts ≡ 2 ^ 44) × (w.claimer.table ≡ c.args.claims.now) × (w.claimer.parts ≡ one_share)) c.loop-worker.workers c.in-Some.worker c.loop-worker.invariant.0 first in
    record { turn = (search rules, one.0) }

-- src/hire.rt:124:9
pub join-requires-in-Some : goal.join-requires-in-Some
join-requires-in-Some g c =
    let first = sym c.take_first.ensures.first ∙ c.in-Some.is in
    let one = first_of (λ w. (w.pass.turn ≡ c.args.hub.now) × (w.pass.parts ≡ 2 ^ 44) × (w.claimer.table ≡ c.args.claims.now) × (w.claimer.parts ≡ one_share)) c.loop-worker.workers c.in-Some.worker c.loop-worker.invariant.0 first in
    record { table = (search rules, one.2) }

-- src/hire.rt:113:5
pub loop-worker-smaller : goal.loop-worker-smaller
loop-worker-smaller g c =
    let first = sym c.take_first.ensures.first ∙ c.in-Some.is in
    let some = length_first c.loop-worker.workers c.in-Some.worker first in
    rw c.take_first.ensures.left (omega arith)

-- src/hire.rt:113:5
pub loop-worker-preserved : goal.loop-worker-preserved
loop-worker-preserved g c =
    let first = sym c.take_first.ensures.first ∙ c.in-Some.is in
    let left = c.take_first.ensures.left in
    let some = length_first c.loop-worker.workers c.in-Some.worker first in
    let one = first_of (λ w. (w.pass.turn ≡ c.args.hub.now) × (w.pass.parts ≡ 2 ^ 44) × (w.claimer.table ≡ c.args.claims.now) × (w.claimer.parts ≡ one_share)) c.loop-worker.workers c.in-Some.worker c.loop-worker.invariant.0 first in
    let their = one.1 in
    let joined = c.join.ensures.joined in
    let goes_on = c.join.ensures.goes_on in
    let gone = c.join.ensures.gone in
    let parts : c.join.new.into.parts ≡ c.loop-worker.pass.parts + c.in-Some.worker.pass.parts = ap (λ (q : HubView). q.parts) joined in
    let room = c.loop-worker.invariant.2 in
    let more_room = c.loop-worker.invariant.3 in
    let before = c.loop-worker.invariant.6 in
    let kits_len = c.push_reserved.ensures.len in let kits_room = c.push_reserved.ensures.capacity in
    let reports_len = c.push_reserved-in-Some.ensures.len in let reports_room = c.push_reserved-in-Some.ensures.capacity in
    let done = c.loop-worker.invariant.8 in (
      rw left (rest_of (λ w. (w.pass.turn ≡ c.args.hub.now) × (w.pass.parts ≡ 2 ^ 44) × (w.claimer.table ≡ c.args.claims.now) × (w.claimer.parts ≡ one_share)) c.loop-worker.workers c.in-Some.worker c.loop-worker.invariant.0 first),
      search rules,
      rw left (omega arith),
      rw left (omega arith),
      ap (λ (q : HubView). q.number) joined ∙ c.loop-worker.invariant.4,
      ap (λ (q : HubView). q.turn) joined ∙ c.loop-worker.invariant.5,
      rw left (omega arith),
      kept_joined c.args.pass.now c.loop-worker.pass c.in-Some.worker.pass c.join.new.into joined goes_on c.loop-worker.invariant.7,
      (
        done.0 ++ c.in-Some.worker ∷ [],
        rw left (moved_on c.args.workers done.0 c.loop-worker.workers c.in-Some.worker done.1 first),
        c.push_reserved.ensures.items ∙ (ap (λ l. l ++ c.in-Some.worker.kit ∷ []) done.2 ∙ sym (map_push (λ w. w.kit) done.0 c.in-Some.worker)),
        c.push_reserved-in-Some.ensures.items ∙ (ap (λ l. l ++ worker_report c.in-Some.worker ∷ []) done.3 ∙ sym (map_push worker_report done.0 c.in-Some.worker)),
        All-push (λ w. IsJoined w.pass c.join.new.into) done.0 c.in-Some.worker
            (All-weaker (λ w. IsJoined w.pass c.loop-worker.pass) (λ w. IsJoined w.pass c.join.new.into) (λ w was. joined_later w.pass c.loop-worker.pass c.join.new.into was (joined_grown c.loop-worker.pass c.in-Some.worker.pass c.join.new.into joined goes_on)) done.0 done.4)
            (joined_gone c.loop-worker.pass c.in-Some.worker.pass c.join.new.into joined gone),
        gathered_push c.args.claimer.now c.loop-worker.claimer c.in-Some.worker.claimer c.join-in-Some.new.into done.0 c.in-Some.worker refl one.3 c.join-in-Some.ensures done.5,
      ),
    )

-- src/hire.rt:95:1
pub returns-clause-kits : goal.returns-clause-kits
returns-clause-kits g c =
    let none = none_first c.loop-worker.workers (sym c.take_first.ensures.first ∙ c.in_default.is) in
    let done = c.loop-worker.invariant.8 in
    let all = done.1 ∙ (ap (λ l. done.0 ++ l) none ∙ append-nil done.0) in
    rw all done.2

-- src/hire.rt:95:1
pub returns-clause-reports : goal.returns-clause-reports
returns-clause-reports g c =
    let none = none_first c.loop-worker.workers (sym c.take_first.ensures.first ∙ c.in_default.is) in
    let done = c.loop-worker.invariant.8 in
    let all = done.1 ∙ (ap (λ l. done.0 ++ l) none ∙ append-nil done.0) in
    rw all done.3

-- src/hire.rt:95:1
pub returns-clause-joined : goal.returns-clause-joined
returns-clause-joined g c =
    let none = none_first c.loop-worker.workers (sym c.take_first.ensures.first ∙ c.in_default.is) in
    let done = c.loop-worker.invariant.8 in
    let all = done.1 ∙ (ap (λ l. done.0 ++ l) none ∙ append-nil done.0) in
    rw all done.4

-- src/hire.rt:95:1
pub returns-clause-claimer : goal.returns-clause-claimer
returns-clause-claimer g c =
    let none = none_first c.loop-worker.workers (sym c.take_first.ensures.first ∙ c.in_default.is) in
    let done = c.loop-worker.invariant.8 in
    let all = done.1 ∙ (ap (λ l. done.0 ++ l) none ∙ append-nil done.0) in
    rw all done.5

-- src/hire.rt:95:1
pub returns-clause-grown : goal.returns-clause-grown
returns-clause-grown g c = c.loop-worker.invariant.7.grown
