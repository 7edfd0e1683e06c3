use Rattle.std.proofs.Common.{arith, refl}
use Rattle.gp_session_http.specs.declared.stage.Stage.TheVariants as stage
use Rattle.gp_session_http.specs.Views.{LiveView}
use Rattle.gp_session_http.proofs.Rows.{told_live, from_live, leads_from}
use Rattle.gp_session_http.proofs.Hearing.{heard_moved, whole_at, body_refused_at, body_waits, body_gone, body_no_memory}
use Rattle.gp_session_http.proofs.reading_body.ReadingBody.advance.Goals as goal

pub ask-requires : goal.ask-requires
ask-requires g c =
    let v : LiveView = record { wire = c.live.inside.wire; line = c.live.inside.line; watch = c.live.inside.watch; seat = c.live.inside.seat; charter = record { rules = c.live.inside.routes.now; signer = c.live.inside.signer.now; tag = c.live.inside.tag }; reports = c.live.inside.reports } in
    let told = told_live v c.args.live.now (stage.ReadingBody c.args.self) c.live.view_is c.requires.told in
    let e = c.read_body.ensures in
    let p = c.in-Whole.ensures.polls in
    let says = p.says told.request.received told.request.asks.0 in
    record { told = whole_at v c.args.self told c.read_body.new.self e.start e.rest p.more p.hears c.in-Whole.whole says }

pub refuse-requires : goal.refuse-requires
refuse-requires g c =
    let v : LiveView = record { wire = c.live.inside.wire; line = c.live.inside.line; watch = c.live.inside.watch; seat = c.live.inside.seat; charter = record { rules = c.live.inside.routes.now; signer = c.live.inside.signer.now; tag = c.live.inside.tag }; reports = c.live.inside.reports } in
    let told = told_live v c.args.live.now (stage.ReadingBody c.args.self) c.live.view_is c.requires.told in
    let e = c.read_body.ensures in
    let p = c.in-Refused.ensures.polls in
    let says = p.says told.request.received told.request.asks.0 in
    body_refused_at v c.args.self told c.read_body.new.self e.start e.rest p.more p.hears c.in-Refused.refused.fault c.in-Refused.refused.method says

pub returns-in-Whole : goal.returns-in-Whole
returns-in-Whole g c =
    let v : LiveView = record { wire = c.live.inside.wire; line = c.live.inside.line; watch = c.live.inside.watch; seat = c.live.inside.seat; charter = record { rules = c.live.inside.routes.now; signer = c.live.inside.signer.now; tag = c.live.inside.tag }; reports = c.live.inside.reports } in
    let told = told_live v c.args.live.now (stage.ReadingBody c.args.self) c.live.view_is c.requires.told in
    let e = c.read_body.ensures in
    let p = c.in-Whole.ensures.polls in
    let says = p.says told.request.received told.request.asks.0 in
    record { leads = from_live v c.args.live.now _ 4 _ c.live.view_is (leads_from v _ _ 4 4 _ (heard_moved v c.read_body.new.self p.more e.start e.rest p.hears) (omega arith) c.ask.ensures.leads) }

pub returns-in-Refused : goal.returns-in-Refused
returns-in-Refused g c =
    let v : LiveView = record { wire = c.live.inside.wire; line = c.live.inside.line; watch = c.live.inside.watch; seat = c.live.inside.seat; charter = record { rules = c.live.inside.routes.now; signer = c.live.inside.signer.now; tag = c.live.inside.tag }; reports = c.live.inside.reports } in
    let told = told_live v c.args.live.now (stage.ReadingBody c.args.self) c.live.view_is c.requires.told in
    let e = c.read_body.ensures in
    let p = c.in-Refused.ensures.polls in
    let says = p.says told.request.received told.request.asks.0 in
    record { leads = from_live v c.args.live.now _ 4 _ c.live.view_is (leads_from v _ _ 2 4 _ (heard_moved v c.read_body.new.self p.more e.start e.rest p.hears) (omega arith) c.refuse.ensures) }

pub returns-in-NotReady : goal.returns-in-NotReady
returns-in-NotReady g c =
    let v : LiveView = record { wire = c.live.inside.wire; line = c.live.inside.line; watch = c.live.inside.watch; seat = c.live.inside.seat; charter = record { rules = c.live.inside.routes.now; signer = c.live.inside.signer.now; tag = c.live.inside.tag }; reports = c.live.inside.reports } in
    let told = told_live v c.args.live.now (stage.ReadingBody c.args.self) c.live.view_is c.requires.told in
    let e = c.read_body.ensures in
    let p = c.in-NotReady.ensures.polls in
    let says = p.says told.request.received told.request.asks.0 in
    record { leads = from_live v c.args.live.now _ 4 _ c.live.view_is (body_waits v c.args.self told c.read_body.new.self e.start e.rest p.more p.hears (record { intake = c.in-NotReady.intake; address = c.args.self.address }) refl says) }

pub returns-in-ClientGone : goal.returns-in-ClientGone
returns-in-ClientGone g c =
    let v : LiveView = record { wire = c.live.inside.wire; line = c.live.inside.line; watch = c.live.inside.watch; seat = c.live.inside.seat; charter = record { rules = c.live.inside.routes.now; signer = c.live.inside.signer.now; tag = c.live.inside.tag }; reports = c.live.inside.reports } in
    let told = told_live v c.args.live.now (stage.ReadingBody c.args.self) c.live.view_is c.requires.told in
    let e = c.read_body.ensures in
    let p = c.in-ClientGone.ensures.polls in
    let says = p.says told.request.received told.request.asks.0 in
    record { leads = from_live v c.args.live.now _ 4 _ c.live.view_is (body_gone v c.args.self told c.read_body.new.self e.start e.rest p.more p.hears says c.end_with.result c.end_with.ensures) }

pub returns-in-NoMemory : goal.returns-in-NoMemory
returns-in-NoMemory g c =
    let v : LiveView = record { wire = c.live.inside.wire; line = c.live.inside.line; watch = c.live.inside.watch; seat = c.live.inside.seat; charter = record { rules = c.live.inside.routes.now; signer = c.live.inside.signer.now; tag = c.live.inside.tag }; reports = c.live.inside.reports } in
    let told = told_live v c.args.live.now (stage.ReadingBody c.args.self) c.live.view_is c.requires.told in
    let e = c.read_body.ensures in
    let p = c.in-NoMemory.ensures.polls in
    let says = p.says told.request.received told.request.asks.0 in
    record { leads = from_live v c.args.live.now _ 4 _ c.live.view_is (body_no_memory v c.args.self told c.read_body.new.self e.start e.rest p.more p.hears says c.end_with-in-NoMemory.result c.end_with-in-NoMemory.ensures) }
