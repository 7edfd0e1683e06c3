use Rattle.std.proofs.Common.{◌++◌, ◌∙◌, sym, refl, subst, ap, List, ℕ}
use Rattle.gp_answer.specs.declared.refusal.Refusal.TheVariants.{BadGateway}
use Rattle.gp_session_http.specs.Views.{LiveView}
use Rattle.gp_session_http.specs.Moves.{IsFailedAt}
use Rattle.gp_session_http.proofs.Rows.{from_live, leads_is}
use Rattle.gp_session_http.proofs.Putting.{put_text}
use Rattle.gp_session_http.proofs.Talking.{failed_go, failed_end}
use Rattle.gp_session_http.proofs.asking.Asking.fail.Goals as goal
use Rattle.gp_session_http.proofs.asking.Asking.fail.Goals.{in-Ok, in-Err}

pub returns : goal.returns
returns g c =
    let v : LiveView = record { wire = c.live.inside.wire; line = c.live.inside.line; watch = c.live.inside.watch; seat = c.live.inside.seat; charter = record { rules = c.live.inside.routes.now; signer = c.live.inside.signer.now; tag = c.live.inside.tag }; reports = c.live.inside.reports } in
    let s = c.args.self in
    let failed : IsFailedAt v s c.args.why = subst (λ (x : LiveView). IsFailedAt x s c.args.why) (sym c.live.view_is) c.requires.told in
    let e = c.put.ensures in
    let text = put_text BadGateway BadGateway s.asked.request.head.method c.bytes.result.now c.head.result.now c.empty.result c.body-body.result.now refl c.bytes.ensures c.head.ensures c.empty.ensures c.body-body.ensures in
    record {
      leads = from_live v c.args.live.now _ 2 _ c.live.view_is (elim c.match-put.branch [
        | in-Ok w ↦ leads_is v _ 2 _ _ w.result-is (failed_go v c.put.new.self s c.args.why e.start e.link failed (record { asked = c.of-asked.result; exchange = c.of-exchange.result; why = c.args.why }) c.of-asked.ensures c.of-exchange.ensures refl
            (w.in-Ok.ensures.ok ∙ ap (λ (xs : List ℕ). v.wire.rest ++ xs) text))
        | in-Err w ↦ leads_is v _ 2 _ _ w.result-is (failed_end v c.put.new.self s c.args.why e.start e.link failed (record { asked = c.of-asked.result; exchange = c.of-exchange.result; why = c.args.why }) c.of-asked.ensures c.of-exchange.ensures refl
            w.in-Err.ensures.err.1 _ refl)
      ]);
    }
