use Rattle.std.proofs.Common.{refl}
use Rattle.gp_session_http.specs.declared.stage.Stage.{Stage}
use Rattle.gp_session_http.specs.declared.stage.Stage.TheVariants as stage
use Rattle.gp_hub.specs.declared.outcome.SessionEnd.TheVariants as end
use Rattle.gp_session_http.specs.Views.{LiveView}
use Rattle.gp_session_http.proofs.Rows.{from_live, told_live, leads_is, closed_ends, closed_gone, closed_waits}
use Rattle.gp_session_http.proofs.giving.Giving.advance.Goals as goal
use Rattle.gp_session_http.proofs.giving.Giving.advance.Goals.{in-Empty, in-NotReady, in-Failed}

pub returns : goal.returns
returns g c =
    let v : LiveView = record { wire = c.live.inside.wire; line = c.live.inside.line; watch = c.live.inside.watch; seat = c.live.inside.seat; charter = record { rules = c.live.inside.routes.now; signer = c.live.inside.signer.now; tag = c.live.inside.tag }; reports = c.live.inside.reports } in
    let s : Stage = stage.Giving c.args.self in
    let told = told_live v c.args.live.now s c.live.view_is c.requires.told in
    record {
      leads = from_live v c.args.live.now _ 1 _ c.live.view_is (elim c.match-flush.branch [
        | in-Empty w ↦ leads_is v _ 1 _ _ w.result-is (closed_ends v c.flush.new.self 1 s told (λ r. r) (λ u t. t) (λ given. refl) (end.Sent c.args.self.code) (w.in-Empty.ensures.cause.0, refl) w.in-Empty.ensures w.end_with.result w.end_with.ensures)
        | in-NotReady w ↦ leads_is v _ 1 _ _ w.result-is (closed_waits v c.flush.new.self 1 s told (λ r. r) (λ u t. t) (λ given. refl) w.in-NotReady.ensures)
        | in-Failed w ↦ leads_is v _ 1 _ _ w.result-is (closed_gone v c.flush.new.self 1 s told (λ r. r) (λ u t. t) (λ given. refl) w.in-Failed.ensures w.end_with-in-Failed.result w.end_with-in-Failed.ensures)
      ]);
    }
