use Rattle.std.proofs.Common.{sym, subst, arith, ap, ◌∙◌, Some}
use Rattle.gp_session_http.specs.LongPolls.{BeginningTold}
use Rattle.gp_session_http.specs.Turns.{specs_before}
use Rattle.gp_session_http.specs.Views.{LiveView}
use Rattle.gp_session_http.proofs.Granting.{held_live, held_from, with_held}
use Rattle.gp_session_http.proofs.Awaiting.{begun_went, begins_wait, begins_full, begins_busy, begins_worn, begins_wants}
use Rattle.gp_session_http.proofs.beginning.Beginning.advance.Goals as goal

pub returns-in-Waits : goal.returns-in-Waits
returns-in-Waits g c =
    let v : LiveView = record { wire = c.live.inside.wire; line = c.live.inside.line; watch = c.live.inside.watch; seat = c.live.inside.seat; charter = record { rules = c.live.inside.routes.now; signer = c.live.inside.signer.now; tag = c.live.inside.tag }; reports = c.live.inside.reports } in
    let s = c.args.self in
    let h : BeginningTold v s = subst (λ (x : LiveView). BeginningTold x s) (sym c.live.view_is) c.requires.told in
    let m = c.moment-now in
    let e = c.in-Waits.ensures in
    record {
      leads = held_live v c.args.live.now _ 5 _ c.live.view_is (record {
        moved = begun_went v s h m.new.self m.result m.ensures.uses m.ensures.row c.attach.new.seat c.attach.new.reports e.moved e.row e.items;
        to = (
          begins_wait v s h m.new.self m.result m.ensures.uses m.ensures.row c.attach.new.seat c.attach.new.reports e.moved e.row e.items e.entries c.in-Waits.wait e.begins e.opens (e.holds h.is.holds) (e.attaches (specs_before h.rows.heard.turns) h.is.attaches) _ c.of-since.ensures,
          omega arith,
          (e.items, m.ensures.uses.moment ∙ ap Some (sym c.of-since.ensures)),
        );
      });
    }

pub deny-requires : goal.deny-requires
deny-requires g c =
    let v : LiveView = record { wire = c.live.inside.wire; line = c.live.inside.line; watch = c.live.inside.watch; seat = c.live.inside.seat; charter = record { rules = c.live.inside.routes.now; signer = c.live.inside.signer.now; tag = c.live.inside.tag }; reports = c.live.inside.reports } in
    let s = c.args.self in
    let h : BeginningTold v s = subst (λ (x : LiveView). BeginningTold x s) (sym c.live.view_is) c.requires.told in
    let m = c.moment-now in
    let e = c.in-Full.ensures in
    record { told = begins_full v s h m.new.self m.result m.ensures.uses m.ensures.row c.attach.new.seat c.attach.new.reports e.moved e.row e.items e.entries e.opens (e.holds h.is.holds) (e.attaches (specs_before h.rows.heard.turns) h.is.attaches) }

pub returns-in-Full : goal.returns-in-Full
returns-in-Full g c =
    let v : LiveView = record { wire = c.live.inside.wire; line = c.live.inside.line; watch = c.live.inside.watch; seat = c.live.inside.seat; charter = record { rules = c.live.inside.routes.now; signer = c.live.inside.signer.now; tag = c.live.inside.tag }; reports = c.live.inside.reports } in
    let s = c.args.self in
    let h : BeginningTold v s = subst (λ (x : LiveView). BeginningTold x s) (sym c.live.view_is) c.requires.told in
    let m = c.moment-now in
    let e = c.in-Full.ensures in
    record {
      leads = held_live v c.args.live.now _ 5 _ c.live.view_is (held_from v (with_held v v.wire m.new.self c.attach.new.seat c.attach.new.reports) _ 5 5 _ (begun_went v s h m.new.self m.result m.ensures.uses m.ensures.row c.attach.new.seat c.attach.new.reports e.moved e.row e.items) e.items (omega arith) c.deny.ensures.leads);
    }

pub returns-in-Busy : goal.returns-in-Busy
returns-in-Busy g c =
    let v : LiveView = record { wire = c.live.inside.wire; line = c.live.inside.line; watch = c.live.inside.watch; seat = c.live.inside.seat; charter = record { rules = c.live.inside.routes.now; signer = c.live.inside.signer.now; tag = c.live.inside.tag }; reports = c.live.inside.reports } in
    let s = c.args.self in
    let h : BeginningTold v s = subst (λ (x : LiveView). BeginningTold x s) (sym c.live.view_is) c.requires.told in
    let m = c.moment-now in
    let e = c.in-Busy.ensures in
    record { leads = held_live v c.args.live.now _ 5 _ c.live.view_is (begins_busy v s h m.new.self m.result m.ensures.uses m.ensures.row c.attach.new.seat c.attach.new.reports e.moved e.row e.items e.entries (e.holds h.is.holds) (e.attaches (specs_before h.rows.heard.turns) h.is.attaches) c.in-Busy.opening e.begins e.opens) }

pub returns-in-Worn : goal.returns-in-Worn
returns-in-Worn g c =
    let v : LiveView = record { wire = c.live.inside.wire; line = c.live.inside.line; watch = c.live.inside.watch; seat = c.live.inside.seat; charter = record { rules = c.live.inside.routes.now; signer = c.live.inside.signer.now; tag = c.live.inside.tag }; reports = c.live.inside.reports } in
    let s = c.args.self in
    let h : BeginningTold v s = subst (λ (x : LiveView). BeginningTold x s) (sym c.live.view_is) c.requires.told in
    let m = c.moment-now in
    let e = c.in-Worn.ensures in
    record { leads = held_live v c.args.live.now _ 5 _ c.live.view_is (begins_worn v s h m.new.self m.result m.ensures.uses m.ensures.row c.attach.new.seat c.attach.new.reports e.moved e.row e.items e.entries (e.holds h.is.holds) (e.attaches (specs_before h.rows.heard.turns) h.is.attaches) e.opens c.end_with.result c.end_with.ensures) }

pub returns-in-NoMemory : goal.returns-in-NoMemory
returns-in-NoMemory g c =
    let v : LiveView = record { wire = c.live.inside.wire; line = c.live.inside.line; watch = c.live.inside.watch; seat = c.live.inside.seat; charter = record { rules = c.live.inside.routes.now; signer = c.live.inside.signer.now; tag = c.live.inside.tag }; reports = c.live.inside.reports } in
    let s = c.args.self in
    let h : BeginningTold v s = subst (λ (x : LiveView). BeginningTold x s) (sym c.live.view_is) c.requires.told in
    let m = c.moment-now in
    let e = c.in-NoMemory.ensures in
    record { leads = held_live v c.args.live.now _ 5 _ c.live.view_is (begins_wants v s h m.new.self m.result m.ensures.uses m.ensures.row c.attach.new.seat c.attach.new.reports e.moved e.row e.items e.entries (e.holds h.is.holds) (e.attaches (specs_before h.rows.heard.turns) h.is.attaches) c.end_with-in-NoMemory.result c.end_with-in-NoMemory.ensures) }
