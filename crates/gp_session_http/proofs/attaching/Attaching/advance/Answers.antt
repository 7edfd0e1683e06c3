use Rattle.std.proofs.Common.{sym, subst, arith, refl, false}
use Rattle.gp_session_http.specs.Turns.{specs_before}
use Rattle.gp_session_http.specs.Holding.{AttachingTold}
use Rattle.gp_session_http.specs.Views.{LiveView}
use Rattle.gp_session_http.proofs.Granting.{held_live, held_from, with_held, goes_on}
use Rattle.gp_session_http.proofs.Rows.{watch_same}
use Rattle.gp_session.proofs.Moving.{moved_wire_same}
use Rattle.gp_session_http.proofs.Keeping.{attached, declined, still_busy, attach_worn, attach_wants}
use Rattle.gp_session_http.proofs.attaching.Attaching.advance.Goals as goal

pub begin-requires : goal.begin-requires
begin-requires g c =
    let v : LiveView = record { wire = c.live.inside.wire; line = c.live.inside.line; watch = c.live.inside.watch; seat = c.live.inside.seat; charter = record { rules = c.live.inside.routes.now; signer = c.live.inside.signer.now; tag = c.live.inside.tag }; reports = c.live.inside.reports } in
    let s = c.args.self in
    let told : AttachingTold v s = subst (λ (x : LiveView). AttachingTold x s) (sym c.live.view_is) c.requires.told in
    let e = c.in-Kept.ensures in
    record { told = attached v s told c.attach.new.seat c.attach.new.reports e.moved e.row e.items (e.entries false) c.in-Kept.hold e.opens (e.holds told.is.holds) (e.attaches (specs_before told.rows.heard.turns) told.is.attaches) }

pub returns-in-Kept : goal.returns-in-Kept
returns-in-Kept g c =
    let v : LiveView = record { wire = c.live.inside.wire; line = c.live.inside.line; watch = c.live.inside.watch; seat = c.live.inside.seat; charter = record { rules = c.live.inside.routes.now; signer = c.live.inside.signer.now; tag = c.live.inside.tag }; reports = c.live.inside.reports } in
    let e = c.in-Kept.ensures in
    record { leads = held_live v c.args.live.now _ 3 _ c.live.view_is (held_from v (with_held v v.wire v.watch c.attach.new.seat c.attach.new.reports) _ 3 3 _ (goes_on v v.wire v.watch c.attach.new.seat c.attach.new.reports (moved_wire_same v.wire) (watch_same v.watch) e.moved) e.items (omega arith) c.begin.ensures.leads) }

pub decline-requires : goal.decline-requires
decline-requires g c =
    let v : LiveView = record { wire = c.live.inside.wire; line = c.live.inside.line; watch = c.live.inside.watch; seat = c.live.inside.seat; charter = record { rules = c.live.inside.routes.now; signer = c.live.inside.signer.now; tag = c.live.inside.tag }; reports = c.live.inside.reports } in
    let s = c.args.self in
    let told : AttachingTold v s = subst (λ (x : LiveView). AttachingTold x s) (sym c.live.view_is) c.requires.told in
    let e = c.in-Full.ensures in
    record { told = declined v s told c.attach.new.seat c.attach.new.reports e.moved e.row e.items (e.entries false) e.opens (e.holds told.is.holds) (e.attaches (specs_before told.rows.heard.turns) told.is.attaches) }

pub returns-in-Full : goal.returns-in-Full
returns-in-Full g c =
    let v : LiveView = record { wire = c.live.inside.wire; line = c.live.inside.line; watch = c.live.inside.watch; seat = c.live.inside.seat; charter = record { rules = c.live.inside.routes.now; signer = c.live.inside.signer.now; tag = c.live.inside.tag }; reports = c.live.inside.reports } in
    let e = c.in-Full.ensures in
    record { leads = held_live v c.args.live.now _ 3 _ c.live.view_is (held_from v (with_held v v.wire v.watch c.attach.new.seat c.attach.new.reports) _ 3 3 _ (goes_on v v.wire v.watch c.attach.new.seat c.attach.new.reports (moved_wire_same v.wire) (watch_same v.watch) e.moved) e.items (omega arith) c.decline.ensures.leads) }

pub returns-in-Busy : goal.returns-in-Busy
returns-in-Busy g c =
    let v : LiveView = record { wire = c.live.inside.wire; line = c.live.inside.line; watch = c.live.inside.watch; seat = c.live.inside.seat; charter = record { rules = c.live.inside.routes.now; signer = c.live.inside.signer.now; tag = c.live.inside.tag }; reports = c.live.inside.reports } in
    let s = c.args.self in
    let told : AttachingTold v s = subst (λ (x : LiveView). AttachingTold x s) (sym c.live.view_is) c.requires.told in
    let e = c.in-Busy.ensures in
    record { leads = held_live v c.args.live.now _ 3 _ c.live.view_is (still_busy v s told c.attach.new.seat c.attach.new.reports e.moved e.row e.items (e.entries false) (e.holds told.is.holds) (e.attaches (specs_before told.rows.heard.turns) told.is.attaches) c.in-Busy.spec e.opens) }

pub returns-in-Worn : goal.returns-in-Worn
returns-in-Worn g c =
    let v : LiveView = record { wire = c.live.inside.wire; line = c.live.inside.line; watch = c.live.inside.watch; seat = c.live.inside.seat; charter = record { rules = c.live.inside.routes.now; signer = c.live.inside.signer.now; tag = c.live.inside.tag }; reports = c.live.inside.reports } in
    let s = c.args.self in
    let told : AttachingTold v s = subst (λ (x : LiveView). AttachingTold x s) (sym c.live.view_is) c.requires.told in
    let e = c.in-Worn.ensures in
    record { leads = held_live v c.args.live.now _ 3 _ c.live.view_is (attach_worn v s told c.attach.new.seat c.attach.new.reports e.moved e.row e.items (e.entries false) (e.holds told.is.holds) (e.attaches (specs_before told.rows.heard.turns) told.is.attaches) e.opens c.end_with.result c.end_with.ensures) }

pub returns-in-NoMemory : goal.returns-in-NoMemory
returns-in-NoMemory g c =
    let v : LiveView = record { wire = c.live.inside.wire; line = c.live.inside.line; watch = c.live.inside.watch; seat = c.live.inside.seat; charter = record { rules = c.live.inside.routes.now; signer = c.live.inside.signer.now; tag = c.live.inside.tag }; reports = c.live.inside.reports } in
    let s = c.args.self in
    let told : AttachingTold v s = subst (λ (x : LiveView). AttachingTold x s) (sym c.live.view_is) c.requires.told in
    let e = c.in-NoMemory.ensures in
    record { leads = held_live v c.args.live.now _ 3 _ c.live.view_is (attach_wants v s told c.attach.new.seat c.attach.new.reports e.moved e.row e.items (e.entries false) (e.holds told.is.holds) (e.attaches (specs_before told.rows.heard.turns) told.is.attaches) e.opens c.end_with-in-NoMemory.result c.end_with-in-NoMemory.ensures) }
