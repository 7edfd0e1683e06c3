use Rattle.std.proofs.Common.{sym, subst}
use Rattle.gp_session_http.specs.LongPolls.{HasDeparted}
use Rattle.gp_session_http.specs.Views.{LiveView}
use Rattle.gp_session_http.proofs.Granting.{held_live}
use Rattle.gp_session_http.proofs.Awaiting.{departs_by}
use Rattle.gp_session_http.proofs.departing.Departing.report.Goals as goal

pub returns : goal.returns
returns g c =
    let v : LiveView = record { wire = c.live.inside.wire; line = c.live.inside.line; watch = c.live.inside.watch; seat = c.live.inside.seat; charter = record { rules = c.live.inside.routes.now; signer = c.live.inside.signer.now; tag = c.live.inside.tag }; reports = c.live.inside.reports } in
    let s = c.args.self in
    let h : HasDeparted v s c.args.«end» = subst (λ (x : LiveView). HasDeparted x s c.args.«end») (sym c.live.view_is) c.requires.told in
    record { leads = held_live v c.args.live.now _ 1 _ c.live.view_is (departs_by v c.report.new.reports s c.args.«end» h c.report.ensures.reported (c.report.ensures.row v.seat) c.end_with.result c.end_with.ensures) }
