use Rattle.std.proofs.Common.{◌∙◌, sym, ◌<◌, ltb, length, map, arith, rules}
use Rattle.std.proofs.lemmas.List.{length-map, get_or-map}
use Rattle.std.proofs.lemmas.List.Sorted.{IsPartitionPoint-from_clause, IsPartitionedBy-ltb}
use Rattle.gp_registry.specs.declared.hold.Hold.{Hold}
use Rattle.gp_registry.specs.Stages.{number_of}
use Rattle.gp_registry.proofs.Searching.{rises_by, point_before, point_after, none_found}
use Rattle.gp_registry.proofs.order.place_of.Goals as goal
use Rattle.gp_registry.proofs.order.place_of.Goals.{else-place-holds-via-then-place-holds+else-holds-place, else-place-holds-via-else-place-holds}

pub returns-then-holds-place : goal.returns-then-holds-place
returns-then-holds-place c =
    let holds = c.args.holds.now in
    let place = c.partition_point-place.result in
    let point = IsPartitionPoint-from_clause (λ (h : Hold). ltb h.number c.args.number) holds place c.partition_point-place.ensures.partitioned (IsPartitionedBy-ltb number_of holds c.args.number (rises_by holds c.requires)) (λ a r f k. search rules) in
    let within : place < length holds = omega arith in
    record {
      within = omega (arith, length-map holds number_of);
      here = get_or-map number_of holds place c.index-holds-place.result 0 within ∙ c.if-holds-place.true;
      before = λ k h. let below = point_before holds c.args.number place c.partition_point-place.ensures.bound point.0 k h in omega arith;
    }

pub returns-else-place-holds : goal.returns-else-place-holds
returns-else-place-holds c =
    let holds = c.args.holds.now in
    let place = c.partition_point-place.result in
    let point = IsPartitionPoint-from_clause (λ (h : Hold). ltb h.number c.args.number) holds place c.partition_point-place.ensures.partitioned (IsPartitionedBy-ltb number_of holds c.args.number (rises_by holds c.requires)) (λ a r f k. search rules) in
    let none = none_found (map number_of holds) c.args.number place c.requires (point_before holds c.args.number place c.partition_point-place.ensures.bound point.0) (λ k le h. point_after holds c.args.number place point.1 k le (omega (arith, length-map holds number_of))) in
    elim c.else-place-holds.branch [
      | else-place-holds-via-then-place-holds+else-holds-place w ↦ none (λ _ same. let within : place < length holds = omega arith in w.if-holds-place.false (sym (get_or-map number_of holds place w.index-holds-place.result 0 within) ∙ same))
      | else-place-holds-via-else-place-holds w ↦ none (λ h. absurd (omega (arith, length-map holds number_of)))
    ]
