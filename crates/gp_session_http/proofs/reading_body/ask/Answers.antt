use Rattle.std.proofs.Common.{sym, ap, subst, None}
use Rattle.gp_session_http.specs.declared.asked.Asked.{Asked}
use Rattle.gp_session_http.specs.Views.{LiveView}
use Rattle.gp_session_http.specs.Moves.{IsServedAt}
use Rattle.gp_session_http.proofs.Rows.{from_live, leads_is}
use Rattle.gp_session_http.proofs.Talking.{askable, begins, unasked_end}
use Rattle.gp_session_http.proofs.reading_body.ask.Goals as goal
use Rattle.gp_session_http.proofs.reading_body.ask.Goals.{in-Ok, in-Err}

pub new-requires : goal.new-requires
new-requires g c =
    let asked : Asked = record { request = c.args.request; address = c.args.address; moment = c.moment-moment.result; repeats = 0; last = None } in
    askable c.forward_law.ensures c.args.live.now.charter.rules c.requires.told.request.received asked c.requires.told.request.asks

pub returns : goal.returns
returns g c =
    let v : LiveView = record { wire = c.live.inside.wire; line = c.live.inside.line; watch = c.live.inside.watch; seat = c.live.inside.seat; charter = record { rules = c.live.inside.routes.now; signer = c.live.inside.signer.now; tag = c.live.inside.tag }; reports = c.live.inside.reports } in
    let told : IsServedAt v c.args.request c.args.address = subst (λ (x : LiveView). IsServedAt x c.args.request c.args.address) (sym c.live.view_is) c.requires.told in
    let e = c.moment-moment.ensures in
    record {
      leads = from_live v c.args.live.now _ 4 _ c.live.view_is (elim c.match-new.branch [
        | in-Ok w ↦ leads_is v _ 4 _ _ w.result-is (begins v c.moment-moment.new.self c.args.request c.args.address told c.moment-moment.result e.uses e.row w.in-Ok.stage
            (ap (λ (a : Asked). a.request) w.in-Ok.ensures.asked_is) (ap (λ (a : Asked). a.address) w.in-Ok.ensures.asked_is) (ap (λ (a : Asked). a.moment) w.in-Ok.ensures.asked_is) (ap (λ (a : Asked). a.repeats) w.in-Ok.ensures.asked_is)
            (ap (λ (a : Asked). a.last) w.in-Ok.ensures.asked_is) w.in-Ok.ensures.begins)
        | in-Err w ↦ leads_is v _ 4 _ _ w.result-is (unasked_end v c.moment-moment.new.self c.args.request c.args.address told c.moment-moment.result e.uses w.end_with.result w.end_with.ensures)
      ]);
    }
