use Rattle.std.proofs.Common.{sym, subst}
use Rattle.gp_session_http.specs.Holding.{IsAttachedAt}
use Rattle.gp_session_http.specs.Views.{LiveView}
use Rattle.gp_session_http.proofs.Granting.{held_live, held_is}
use Rattle.gp_session_http.proofs.Keeping.{begins_stream, begins_not}
use Rattle.gp_session_http.proofs.attaching.begin.Goals as goal
use Rattle.gp_session_http.proofs.attaching.begin.Goals.{in-Ok, in-Err}

pub returns : goal.returns
returns g c =
    let v : LiveView = record { wire = c.live.inside.wire; line = c.live.inside.line; watch = c.live.inside.watch; seat = c.live.inside.seat; charter = record { rules = c.live.inside.routes.now; signer = c.live.inside.signer.now; tag = c.live.inside.tag }; reports = c.live.inside.reports } in
    let h : IsAttachedAt v c.args.grant c.args.head c.args.again c.args.hold = subst (λ (x : LiveView). IsAttachedAt x c.args.grant c.args.head c.args.again c.args.hold) (sym c.live.view_is) c.requires.told in
    record {
      leads = held_live v c.args.live.now _ 3 _ c.live.view_is (elim c.match-new.branch [
        | in-Ok w ↦ held_is v _ 3 _ _ w.result-is (begins_stream v c.args.grant c.args.head c.args.again c.args.hold h c.new.new.wire w.in-Ok.stream w.in-Ok.ensures.begins.0 w.in-Ok.ensures.begins.1 (w.in-Ok.ensures.streams v.seat h.share h.is h.untaken h.bytes) w.new-in-Ok.result w.new-in-Ok.ensures.is)
        | in-Err w ↦ held_is v _ 3 _ _ w.result-is (begins_not v c.args.grant c.args.head c.args.again c.args.hold h c.new.new.wire w.in-Err.ensures.begins.1 w.in-Err.hold w.in-Err.ensures.begins.0)
      ]);
    }
