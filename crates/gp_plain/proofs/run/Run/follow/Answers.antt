use Rattle.std.proofs.Common.{map, ap, sym, ◌∙◌, is_none}
use Rattle.gp_plain.specs.Growth.{with_pieces}
use Rattle.gp_plain.specs.Follow.{follow}
use Rattle.gp_plain.specs.Holds.{piece_by, ends_by}
use Rattle.gp_plain.proofs.Following.{unused, unused_all, follow_step, follow_stops, all_after_end, some_not_none}
use Rattle.gp_plain.proofs.run.Run.follow.Goals.{else-loop-at-test, then-loop-at-test+in_default}
use Rattle.gp_plain.proofs.run.Run.follow.Goals as goal

pub loop-at-init : goal.loop-at-init
loop-at-init g c = record {
  within = c.requires;
  rest = ap (λ xs. with_pieces c.args.to.now.items c.args.self.now (map (piece_by c.args.kind) (follow c.args.channel.now (ends_by c.args.kind) c.args.from.now xs)))
      (ap (λ us. unused 0 us (g.I.Tail.items c.args.window.now)) c.new-used.ensures ∙ unused_all 0 (g.I.Tail.items c.args.window.now));
}

pub loop-at-preserved : goal.loop-at-preserved
loop-at-preserved g c = record {
  within = c.in_ok-add.ensures.ok.1;
  rest = follow_step c.args.kind c.args.to.now.items c.loop-at.self c.add.new.self c.args.channel.now c.loop-at.at.now c.loop-at.used c.add-in-loop-at.new.self c.in-Some-id.id (g.I.Tail.items c.args.window.now)
      c.in-Some.place c.in-Some-item.item.now c.in_ok-piece_for.field-0 c.in-Some.ensures (sym c.in-Some-item.ensures) c.in_ok-piece_for.ensures c.in_ok-add.ensures.ok.0 c.in_ok-add-2.ensures.ok c.in-Some-id.is
      ∙ c.loop-at.invariant.rest;
}

pub returns : goal.returns
returns g c = elim c.loop-at-test.branch [
  | else-loop-at-test w ↦ (
    sym (all_after_end c.args.to.now.items c.loop-at.self (map (piece_by c.args.kind) (follow c.args.channel.now (ends_by c.args.kind) c.loop-at.at.now (unused 0 c.loop-at.used (g.I.Tail.items c.args.window.now))))
        (ap is_none (sym c.ended.ensures) ∙ some_not_none c.ended.result w.loop-at-test.ensures)) ∙ c.loop-at.invariant.rest,
    c.loop-at.invariant.within,
  )
  | then-loop-at-test+in_default w ↦ (
    follow_stops c.args.kind c.args.to.now.items c.loop-at.self c.args.channel.now c.loop-at.at.now c.loop-at.used (g.I.Tail.items c.args.window.now) w.in_default.ensures ∙ c.loop-at.invariant.rest,
    c.loop-at.invariant.within,
  )
]
