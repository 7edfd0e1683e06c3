use Rattle.std.proofs.Common.{◌≡◌, ◌∙◌, ap, sym, subst}
use Rattle.std.specs.Prelude.{MatchResult}
use Rattle.gp_session_http.specs.Polls.{Ends, OpenView, PhaseTold, Waits, at_poll, polled}
use Rattle.gp_session_http.specs.Views.{LiveView}
use Rattle.gp_session_http.proofs.Rows.{with_watch}
use Rattle.gp_session_http.proofs.Turning.{phase_begun, polls_begun}
use Rattle.gp_session_http.proofs.session.Open.advance.Goals as goal

pub advance-requires : goal.advance-requires
advance-requires g c =
    let v : LiveView = record { wire = c.live.inside.wire; line = c.live.inside.line; watch = c.live.inside.watch; seat = c.live.inside.seat; charter = record { rules = c.live.inside.routes.now; signer = c.live.inside.signer.now; tag = c.live.inside.tag }; reports = c.live.inside.reports } in
    record { told = phase_begun v c.begin.new.self c.begin.ensures c.self.inside.phase (subst (λ (x : LiveView). PhaseTold x c.self.inside.phase) (sym c.live.view_is) c.self.invariant) }

pub returns : goal.returns
returns g c =
    let v : LiveView = record { wire = c.live.inside.wire; line = c.live.inside.line; watch = c.live.inside.watch; seat = c.live.inside.seat; charter = record { rules = c.live.inside.routes.now; signer = c.live.inside.signer.now; tag = c.live.inside.tag }; reports = c.live.inside.reports } in
    let begun : with_watch v c.begin.new.self ≡ at_poll c.self.inside.live = sym (polls_begun v c.begin.new.self c.begin.ensures) ∙ ap at_poll c.live.view_is in
    let same : record { live = with_watch v c.begin.new.self; phase = c.self.inside.phase } ≡ polled c.args.self = ap (λ (x : LiveView). record { live = x; phase = c.self.inside.phase }) begun ∙ ap polled c.self.view_is in
    subst (λ (o : OpenView). MatchResult c.advance.result (Waits o) (λ left. Ends o.live left.0 left.1)) same c.advance.ensures
