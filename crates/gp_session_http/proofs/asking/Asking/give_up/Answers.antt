use Rattle.std.proofs.Common.{sym, refl, subst, []}
use Rattle.gp_session.specs.Lines.{speaking, hung}
use Rattle.gp_session_http.specs.Views.{LiveView}
use Rattle.gp_session_http.specs.Moves.{IsSpeakingAt, said}
use Rattle.gp_session_http.proofs.Rows.{from_live, with_line, moved_line}
use Rattle.gp_session_http.proofs.Talking.{polled, asking_lost}
use Rattle.gp_session_http.proofs.asking.Asking.give_up.Goals as goal

pub returns : goal.returns
returns g c =
    let v : LiveView = record { wire = c.live.inside.wire; line = c.live.inside.line; watch = c.live.inside.watch; seat = c.live.inside.seat; charter = record { rules = c.live.inside.routes.now; signer = c.live.inside.signer.now; tag = c.live.inside.tag }; reports = c.live.inside.reports } in
    let s = c.args.self in
    let told : IsSpeakingAt v s = subst (λ (x : LiveView). IsSpeakingAt x s) (sym c.live.view_is) c.requires.told in
    let l = c.hang_up.new.self in
    let e = c.hang_up.ensures in
    record {
      leads = from_live v c.args.live.now _ 3 _ c.live.view_is (asking_lost (with_line v l) s 3 v (moved_line v l e.moved)
          (polled v l s.asked s.exchange s.exchange (speaking (said s.exchange [])) (hung (said s.exchange [])) [] e.moved refl (λ aims. e.row aims []) told) c.end_with.result c.end_with.ensures);
    }
