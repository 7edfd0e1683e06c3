use Rattle.std.proofs.Common.{◌++◌, ◌∙◌, sym, subst, arith}
use Rattle.gp_session_http.specs.Moves.{HasCome}
use Rattle.gp_session_http.specs.Views.{LiveView}
use Rattle.gp_session_http.proofs.Rows.{from_live, with_line, moved_line, leads_from}
use Rattle.gp_session_http.proofs.Collecting.{too_long, lt_by, fits_in}
use Rattle.gp_session_http.proofs.gathering.Gathering.add.Goals as goal

pub is_too_long-requires : goal.is_too_long-requires
is_too_long-requires g c = c.requires.told.at.short

pub fail-requires : goal.fail-requires
fail-requires g c =
    let v : LiveView = record { wire = c.live.inside.wire; line = c.live.inside.line; watch = c.live.inside.watch; seat = c.live.inside.seat; charter = record { rules = c.live.inside.routes.now; signer = c.live.inside.signer.now; tag = c.live.inside.tag }; reports = c.live.inside.reports } in
    let s = c.args.self in
    let h : HasCome v s c.args.part = subst (λ (x : LiveView). HasCome x s c.args.part) (sym c.live.view_is) c.requires.told in
    let e = c.hang_up.ensures in
    record { told = too_long v s c.args.part h c.hang_up.new.self e.moved (λ aims. e.row aims (s.content ++ c.args.part)) (lt_by _ _ (sym c.is_too_long.ensures ∙ c.if-is_too_long.true)) }

pub returns-then-is_too_long : goal.returns-then-is_too_long
returns-then-is_too_long g c =
    let v : LiveView = record { wire = c.live.inside.wire; line = c.live.inside.line; watch = c.live.inside.watch; seat = c.live.inside.seat; charter = record { rules = c.live.inside.routes.now; signer = c.live.inside.signer.now; tag = c.live.inside.tag }; reports = c.live.inside.reports } in
    let l = c.hang_up.new.self in
    record { gathers = from_live v c.args.live.now _ 2 _ c.live.view_is (leads_from v (with_line v l) _ 2 2 _ (moved_line v l c.hang_up.ensures.moved) (omega arith) c.fail.ensures.leads) }

pub keep-requires-clause-short : goal.keep-requires-clause-short
keep-requires-clause-short g c = fits_in _ _ _ c.requires.told.at.short (sym c.is_too_long.ensures ∙ c.if-is_too_long.false)
