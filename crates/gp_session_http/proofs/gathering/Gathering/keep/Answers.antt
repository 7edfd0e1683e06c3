use Rattle.std.proofs.Common.{◌++◌, sym, subst}
use Rattle.gp_session_http.specs.Moves.{HasCome}
use Rattle.gp_session_http.specs.Views.{LiveView}
use Rattle.gp_session_http.proofs.Rows.{from_live}
use Rattle.gp_session_http.proofs.Collecting.{keeps_part, unkept}
use Rattle.gp_session_http.proofs.gathering.Gathering.keep.Goals as goal

pub returns-in-Ok : goal.returns-in-Ok
returns-in-Ok g c = record { gathers = keeps_part c.args.live.now c.args.self c.args.part c.requires.told c.in-Ok.content c.in-Ok.ensures c.requires.short }

pub returns : goal.returns
returns g c =
    let v : LiveView = record { wire = c.live.inside.wire; line = c.live.inside.line; watch = c.live.inside.watch; seat = c.live.inside.seat; charter = record { rules = c.live.inside.routes.now; signer = c.live.inside.signer.now; tag = c.live.inside.tag }; reports = c.live.inside.reports } in
    let s = c.args.self in
    let h : HasCome v s c.args.part = subst (λ (x : LiveView). HasCome x s c.args.part) (sym c.live.view_is) c.requires.told in
    record {
      gathers = from_live v c.args.live.now _ 2 _ c.live.view_is
          (unkept v s c.args.part h c.hang_up.new.self c.hang_up.ensures.moved (λ aims. c.hang_up.ensures.row aims (s.content ++ c.args.part)) c.end_with.result c.end_with.ensures);
    }
