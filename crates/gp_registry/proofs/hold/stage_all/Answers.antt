use Rattle.std.proofs.Common.{◌∙◌, ◌<◌, length, arith}
use Rattle.std.proofs.Math.Seq.{map-set_same}
use Rattle.std.proofs.lemmas.List.Elements.{AllWithin-more_set}
use Rattle.gp_registry.specs.Stages.{kept_hold, IsStaged}
use Rattle.gp_registry.proofs.hold.stage_all.Goals as goal

pub returns-in_err-stage-clause-same : goal.returns-in_err-stage-clause-same
returns-in_err-stage-clause-same c =
    map-set_same kept_hold c.loop-hold.holds c.loop-hold.hold-index c.stage.new.self c.hold-item.result c.stage.ensures.same ∙ c.loop-hold.invariant.same

pub loop-hold-preserved : goal.loop-hold-preserved
loop-hold-preserved c = record {
  same = map-set_same kept_hold c.loop-hold.holds c.loop-hold.hold-index c.stage.new.self c.hold-item.result c.stage.ensures.same ∙ c.loop-hold.invariant.same;
  staged = let h : c.loop-hold.hold-index < length c.loop-hold.holds = omega arith in
      AllWithin-more_set c.loop-hold.holds c.loop-hold.hold-index c.stage.new.self h (IsStaged c.args.item.now c.args.window.now.items) c.loop-hold.invariant.staged c.in_ok-stage.ensures.staged;
}
