use Rattle.std.proofs.Common.{◌<◌, length, arith, subst, sym}
use Rattle.std.proofs.lemmas.List.Sums.{count_by_more_yes, count_by_more_no}
use Rattle.gp_registry.specs.Stages.{kept_hold, committed, HasRoom, appends}
use Rattle.gp_registry.proofs.Turns.{same_head, same_tail, next_done}
use Rattle.gp_registry.proofs.hold.commit_all.Goals.{then-commit, else-commit}
use Rattle.gp_registry.proofs.hold.commit_all.Goals as goal

pub commit-requires : goal.commit-requires
commit-requires c =
    let h : c.loop-hold.hold-index < length c.args.holds.now = omega arith in
    let k : c.loop-hold.hold-index < length c.loop-hold.holds = omega arith in
    let e = same_head c.loop-hold.holds c.args.holds.now c.loop-hold.hold-index c.hold-item.result k h c.loop-hold.invariant.rest in
    subst HasRoom (sym e) (c.requires.room c.loop-hold.hold-index c.hold-item.result h)

pub loop-hold-preserved : goal.loop-hold-preserved
loop-hold-preserved c =
    let h : c.loop-hold.hold-index < length c.args.holds.now = omega arith in
    let k : c.loop-hold.hold-index < length c.loop-hold.holds = omega arith in
    let e = same_head c.loop-hold.holds c.args.holds.now c.loop-hold.hold-index c.hold-item.result k h c.loop-hold.invariant.rest in
    record {
      done = next_done kept_hold (committed c.args.window.now.items) c.loop-hold.holds c.args.holds.now c.loop-hold.hold-index c.commit.new.self c.hold-item.result k h c.loop-hold.invariant.done c.loop-hold.invariant.rest c.commit.ensures.kept;
      rest = same_tail c.loop-hold.holds c.args.holds.now c.loop-hold.hold-index c.commit.new.self c.hold-item.result k h c.loop-hold.invariant.rest;
      count = elim c.if-commit.branch [
        | then-commit w ↦ omega (arith, w.grew-is, c.loop-hold.invariant.count, count_by_more_yes (λ x. appends x.machine.value) c.args.holds.now c.loop-hold.hold-index c.hold-item.result h (cc (e, c.commit.ensures.grew, w.if-commit.true)))
        | else-commit w ↦ omega (arith, w.grew-is, c.loop-hold.invariant.count, count_by_more_no (λ x. appends x.machine.value) c.args.holds.now c.loop-hold.hold-index c.hold-item.result h (cc (e, c.commit.ensures.grew, w.if-commit.false)))
      ];
    }
