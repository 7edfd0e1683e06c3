use Rattle.std.proofs.Common.{sym, subst, refl, ◌∙◌}
use Rattle.gp_session_http.specs.LongPolls.{HasRepeated}
use Rattle.gp_session_http.specs.Views.{LiveView}
use Rattle.gp_session_http.proofs.Granting.{held_live, held_is, onward_is}
use Rattle.gp_session_http.proofs.Awaiting.{asked_again_is, asks_again, repeats, repeats_not}
use Rattle.gp_session_http.proofs.waiting.repeat.Goals as goal
use Rattle.gp_session_http.proofs.waiting.repeat.Goals.{in-Ok, in-Err}

pub new-requires : goal.new-requires
new-requires g c =
    let v : LiveView = record { wire = c.live.inside.wire; line = c.live.inside.line; watch = c.live.inside.watch; seat = c.live.inside.seat; charter = record { rules = c.live.inside.routes.now; signer = c.live.inside.signer.now; tag = c.live.inside.tag }; reports = c.live.inside.reports } in
    let h : HasRepeated v c.args.poll c.args.again c.args.repeated = subst (λ (x : LiveView). HasRepeated x c.args.poll c.args.again c.args.repeated) (sym c.live.view_is) c.requires.told in
    asks_again v c.args.poll c.args.again c.args.repeated h c.forward_law.ensures c.moment-moment.result c.in-Some.asked (asked_again_is v c.args.poll c.args.again c.args.repeated h c.asked_again.result c.moment-moment.result c.in-Some.asked c.asked_again.ensures c.in-Some.is)

pub returns : goal.returns
returns g c =
    let v : LiveView = record { wire = c.live.inside.wire; line = c.live.inside.line; watch = c.live.inside.watch; seat = c.live.inside.seat; charter = record { rules = c.live.inside.routes.now; signer = c.live.inside.signer.now; tag = c.live.inside.tag }; reports = c.live.inside.reports } in
    let h : HasRepeated v c.args.poll c.args.again c.args.repeated = subst (λ (x : LiveView). HasRepeated x c.args.poll c.args.again c.args.repeated) (sym c.live.view_is) c.requires.told in
    let q = c.report.new.reports in
    let m = c.moment-moment in
    let asked = asked_again_is v c.args.poll c.args.again c.args.repeated h c.asked_again.result m.result c.in-Some.asked c.asked_again.ensures c.in-Some.is in
    record {
      leads = held_live v c.args.live.now _ 4 _ c.live.view_is (elim c.match-new.branch [
        | in-Ok w ↦ held_is v _ 4 _ _ w.result-is (repeats v c.args.poll c.args.again c.args.repeated h q c.report.ensures.reported (c.report.ensures.row v.seat h.over.holds) m.new.self m.result m.ensures.uses m.ensures.row w.in-Ok.stage (w.in-Ok.ensures.asked_is ∙ asked)
            (record { asked_is = refl; begins = w.in-Ok.ensures.begins }))
        | in-Err w ↦ held_is v _ 4 _ _ w.result-is (repeats_not v c.args.poll c.args.again c.args.repeated h q c.report.ensures.reported (c.report.ensures.row v.seat h.over.holds) m.new.self m.result m.ensures.uses m.ensures.row w.end_with.result w.end_with.ensures)
      ]);
      on = elim c.match-new.branch [
        | in-Ok w ↦ onward_is _ _ w.result-is tt
        | in-Err w ↦ onward_is _ _ w.result-is tt
      ];
    }
