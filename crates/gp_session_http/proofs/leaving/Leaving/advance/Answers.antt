use Rattle.std.proofs.Common.{sym, subst, arith, refl, true}
use Rattle.gp_session_http.specs.Holding.{LeavingTold}
use Rattle.gp_session_http.specs.Views.{LiveView}
use Rattle.gp_session_http.proofs.Granting.{held_live, held_from, with_held}
use Rattle.gp_session_http.proofs.Keeping.{gone_recalled, keeps_hold, detached, detach_worn, detach_busy, gone_went}
use Rattle.gp_session.specs.declared.holding.LetGo.TheVariants as let_go_is
use Rattle.gp_session_http.proofs.Recalling.{missed_let_go, pages_let_go}
use Rattle.gp_session_http.proofs.leaving.Leaving.advance.Goals as goal

pub let_go-requires : goal.let_go-requires
let_go-requires g c =
    let v : LiveView = record { wire = c.live.inside.wire; line = c.live.inside.line; watch = c.live.inside.watch; seat = c.live.inside.seat; charter = record { rules = c.live.inside.routes.now; signer = c.live.inside.signer.now; tag = c.live.inside.tag }; reports = c.live.inside.reports } in
    let s = c.args.self in
    let h : LeavingTold v s = subst (λ (x : LiveView). LeavingTold x s) (sym c.live.view_is) c.requires.told in
    keeps_hold v s h

pub report-requires : goal.report-requires
report-requires g c =
    let v : LiveView = record { wire = c.live.inside.wire; line = c.live.inside.line; watch = c.live.inside.watch; seat = c.live.inside.seat; charter = record { rules = c.live.inside.routes.now; signer = c.live.inside.signer.now; tag = c.live.inside.tag }; reports = c.live.inside.reports } in
    let s = c.args.self in
    let h : LeavingTold v s = subst (λ (x : LiveView). LeavingTold x s) (sym c.live.view_is) c.requires.told in
    let e = c.in-Gone.ensures in
    record { told = detached v s h c.let_go.new.seat e.moved e.row e.attaches (gone_recalled v s h c.let_go.new.seat e.moved e.row (pages_let_go v.seat c.let_go.new.seat e.moved.same.number s.hold.number let_go_is.Gone e.gone) (missed_let_go v.seat c.let_go.new.seat s.hold let_go_is.Gone (keeps_hold v s h).0 (keeps_hold v s h).1 (e.leaves (keeps_hold v s h).0 (keeps_hold v s h).1))) (e.entries true h.keeps.entries) (e.holds v.reports.items h.keeps.holds) e.leaves c.end-end.result c.end-end.ensures }

pub returns-in-Gone : goal.returns-in-Gone
returns-in-Gone g c =
    let v : LiveView = record { wire = c.live.inside.wire; line = c.live.inside.line; watch = c.live.inside.watch; seat = c.live.inside.seat; charter = record { rules = c.live.inside.routes.now; signer = c.live.inside.signer.now; tag = c.live.inside.tag }; reports = c.live.inside.reports } in
    let s = c.args.self in
    let h : LeavingTold v s = subst (λ (x : LiveView). LeavingTold x s) (sym c.live.view_is) c.requires.told in
    let e = c.in-Gone.ensures in
    record { leads = held_live v c.args.live.now _ 1 _ c.live.view_is (held_from v (with_held v v.wire v.watch c.let_go.new.seat v.reports) _ 1 1 _ (gone_went v s h c.let_go.new.seat e.moved e.row) refl (omega arith) c.report.ensures.leads) }

pub returns-in-Busy : goal.returns-in-Busy
returns-in-Busy g c =
    let v : LiveView = record { wire = c.live.inside.wire; line = c.live.inside.line; watch = c.live.inside.watch; seat = c.live.inside.seat; charter = record { rules = c.live.inside.routes.now; signer = c.live.inside.signer.now; tag = c.live.inside.tag }; reports = c.live.inside.reports } in
    let s = c.args.self in
    let h : LeavingTold v s = subst (λ (x : LiveView). LeavingTold x s) (sym c.live.view_is) c.requires.told in
    let e = c.in-Busy.ensures in
    record { leads = held_live v c.args.live.now _ 1 _ c.live.view_is (detach_busy v s h c.let_go.new.seat e.moved e.row e.attaches (gone_recalled v s h c.let_go.new.seat e.moved e.row (pages_let_go v.seat c.let_go.new.seat e.moved.same.number s.hold.number let_go_is.Busy e.gone) (missed_let_go v.seat c.let_go.new.seat s.hold let_go_is.Busy (keeps_hold v s h).0 (keeps_hold v s h).1 (e.leaves (keeps_hold v s h).0 (keeps_hold v s h).1))) (e.entries true h.keeps.entries) (e.holds v.reports.items h.keeps.holds) e.leaves e.gone.free e.gone.busy) }

pub report-requires-in-Worn : goal.report-requires-in-Worn
report-requires-in-Worn g c =
    let v : LiveView = record { wire = c.live.inside.wire; line = c.live.inside.line; watch = c.live.inside.watch; seat = c.live.inside.seat; charter = record { rules = c.live.inside.routes.now; signer = c.live.inside.signer.now; tag = c.live.inside.tag }; reports = c.live.inside.reports } in
    let s = c.args.self in
    let h : LeavingTold v s = subst (λ (x : LiveView). LeavingTold x s) (sym c.live.view_is) c.requires.told in
    let e = c.in-Worn.ensures in
    record { told = detach_worn v s h c.let_go.new.seat e.moved e.row e.attaches (gone_recalled v s h c.let_go.new.seat e.moved e.row (pages_let_go v.seat c.let_go.new.seat e.moved.same.number s.hold.number let_go_is.Worn e.gone) (missed_let_go v.seat c.let_go.new.seat s.hold let_go_is.Worn (keeps_hold v s h).0 (keeps_hold v s h).1 (e.leaves (keeps_hold v s h).0 (keeps_hold v s h).1))) (e.entries true h.keeps.entries) (e.holds v.reports.items h.keeps.holds) e.leaves e.gone.worn }

pub returns-in-Worn : goal.returns-in-Worn
returns-in-Worn g c =
    let v : LiveView = record { wire = c.live.inside.wire; line = c.live.inside.line; watch = c.live.inside.watch; seat = c.live.inside.seat; charter = record { rules = c.live.inside.routes.now; signer = c.live.inside.signer.now; tag = c.live.inside.tag }; reports = c.live.inside.reports } in
    let s = c.args.self in
    let h : LeavingTold v s = subst (λ (x : LiveView). LeavingTold x s) (sym c.live.view_is) c.requires.told in
    let e = c.in-Worn.ensures in
    record { leads = held_live v c.args.live.now _ 1 _ c.live.view_is (held_from v (with_held v v.wire v.watch c.let_go.new.seat v.reports) _ 1 1 _ (gone_went v s h c.let_go.new.seat e.moved e.row) refl (omega arith) c.report-in-Worn.ensures.leads) }
