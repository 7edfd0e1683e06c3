use Rattle.std.proofs.Common.{sym, subst}
use Rattle.gp_session_http.specs.LongPolls.{AnsweringTold}
use Rattle.gp_session_http.specs.Views.{LiveView}
use Rattle.gp_session_http.proofs.Granting.{held_live, held_is}
use Rattle.gp_session_http.proofs.Awaiting.{answering_sent, answering_waits, answering_gone}
use Rattle.gp_session_http.proofs.answering.Answering.advance.Goals as goal
use Rattle.gp_session_http.proofs.answering.Answering.advance.Goals.{in-Empty, in-NotReady, in-Failed}

pub returns : goal.returns
returns g c =
    let v : LiveView = record { wire = c.live.inside.wire; line = c.live.inside.line; watch = c.live.inside.watch; seat = c.live.inside.seat; charter = record { rules = c.live.inside.routes.now; signer = c.live.inside.signer.now; tag = c.live.inside.tag }; reports = c.live.inside.reports } in
    let s = c.args.self in
    let h : AnsweringTold v s = subst (λ (x : LiveView). AnsweringTold x s) (sym c.live.view_is) c.requires.told in
    record {
      leads = held_live v c.args.live.now _ 1 _ c.live.view_is (elim c.match-flush.branch [
        | in-Empty w ↦ held_is v _ 1 _ _ w.result-is (answering_sent v s h c.flush.new.self w.in-Empty.ensures w.end_with.result w.end_with.ensures)
        | in-NotReady w ↦ held_is v _ 1 _ _ w.result-is (answering_waits v s h c.flush.new.self w.in-NotReady.ensures)
        | in-Failed w ↦ held_is v _ 1 _ _ w.result-is (answering_gone v s h c.flush.new.self w.in-Failed.ensures w.end_with-in-Failed.result w.end_with-in-Failed.ensures)
      ]);
    }
