use Rattle.std.proofs.Common.{sym, subst}
use Rattle.gp_session_http.specs.LongPolls.{HasStopped}
use Rattle.gp_session_http.specs.Views.{LiveView}
use Rattle.gp_session_http.proofs.Granting.{held_live}
use Rattle.gp_session_http.proofs.Awaiting.{stops_poll}
use Rattle.gp_session_http.proofs.waiting.stop.Goals as goal

pub returns : goal.returns
returns g c =
    let v : LiveView = record { wire = c.live.inside.wire; line = c.live.inside.line; watch = c.live.inside.watch; seat = c.live.inside.seat; charter = record { rules = c.live.inside.routes.now; signer = c.live.inside.signer.now; tag = c.live.inside.tag }; reports = c.live.inside.reports } in
    let h : HasStopped v c.args.poll c.args.hold c.args.told c.args.«end» = subst (λ (x : LiveView). HasStopped x c.args.poll c.args.hold c.args.told c.args.«end») (sym c.live.view_is) c.requires.told in
    record { leads = held_live v c.args.live.now _ 4 _ c.live.view_is (stops_poll v c.report.new.reports c.args.poll c.args.hold c.args.told c.args.«end» h c.report.ensures.reported (c.report.ensures.row v.seat) c.end_with.result c.end_with.ensures); on = tt }
