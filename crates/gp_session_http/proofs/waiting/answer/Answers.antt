use Rattle.std.proofs.Common.{sym, subst, arith}
use Rattle.gp_session_http.specs.LongPolls.{HasAnswered}
use Rattle.gp_session_http.specs.Views.{LiveView}
use Rattle.gp_session_http.proofs.Granting.{held_live}
use Rattle.gp_session_http.proofs.Keeping.{reported_went}
use Rattle.gp_session_http.proofs.Awaiting.{answers_told}
use Rattle.gp_session_http.proofs.waiting.answer.Goals as goal

pub returns : goal.returns
returns g c =
    let v : LiveView = record { wire = c.live.inside.wire; line = c.live.inside.line; watch = c.live.inside.watch; seat = c.live.inside.seat; charter = record { rules = c.live.inside.routes.now; signer = c.live.inside.signer.now; tag = c.live.inside.tag }; reports = c.live.inside.reports } in
    let h : HasAnswered v c.args.poll c.args.hold c.args.cause c.args.code = subst (λ (x : LiveView). HasAnswered x c.args.poll c.args.hold c.args.cause c.args.code) (sym c.live.view_is) c.requires.told in
    let q = c.report.new.reports in
    record {
      leads = held_live v c.args.live.now _ 4 _ c.live.view_is (record {
        moved = reported_went v q;
        to = (answers_told v q c.args.poll c.args.hold c.args.cause c.args.code h (c.report.ensures.row v.seat h.over.holds) c.report.ensures.reported _ c.of-said.ensures, omega arith, tt);
      });
      on = tt;
    }
