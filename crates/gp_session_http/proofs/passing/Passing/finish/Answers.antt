use Rattle.std.proofs.Common.{◌++◌, ◌∙◌, sym, ap, subst, List, ℕ}
use Rattle.gp_session_http.specs.Views.{LiveView}
use Rattle.gp_session_http.specs.Moves.{HasGivenAll}
use Rattle.gp_session_http.proofs.Rows.{from_live, leads_is}
use Rattle.gp_session_http.proofs.Talking.{put_last}
use Rattle.gp_session_http.proofs.Sending.{ended_whole, unended}
use Rattle.gp_session_http.proofs.passing.Passing.finish.Goals as goal
use Rattle.gp_session_http.proofs.passing.Passing.finish.Goals.{in-Ok, in-Err}

pub returns : goal.returns
returns g c =
    let v : LiveView = record { wire = c.live.inside.wire; line = c.live.inside.line; watch = c.live.inside.watch; seat = c.live.inside.seat; charter = record { rules = c.live.inside.routes.now; signer = c.live.inside.signer.now; tag = c.live.inside.tag }; reports = c.live.inside.reports } in
    let s = c.args.self in
    let h : HasGivenAll v s = subst (λ (x : LiveView). HasGivenAll x s) (sym c.live.view_is) c.requires.told in
    let e = c.put.ensures in
    let last = put_last c.empty.result c.last_chunk-last.result.now _ c.empty.ensures c.last_chunk-last.ensures in
    record {
      leads = from_live v c.args.live.now _ 2 _ c.live.view_is (elim c.match-put.branch [
        | in-Ok w ↦ leads_is v _ 2 _ _ w.result-is
            (ended_whole v c.put.new.self s h e.start e.link (w.in-Ok.ensures.ok ∙ ap (λ (xs : List ℕ). v.wire.rest ++ xs) last) w.over.result w.over.ensures.passed w.over.ensures.exchange w.over.ensures.cause)
        | in-Err w ↦ leads_is v _ 2 _ _ w.result-is (unended v c.put.new.self s h e.start e.link w.in-Err.ensures.err.1 w.end_with.result w.end_with.ensures)
      ]);
    }
