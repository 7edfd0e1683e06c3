use Rattle.std.proofs.Common.{arith}
use Rattle.gp_intake.specs.Requests.{IsHeaded}
use Rattle.gp_session_http.specs.declared.cause.Cause.TheVariants as cause
use Rattle.gp_session_http.specs.declared.stage.Stage.TheVariants as stage
use Rattle.gp_session_http.specs.Routing.{IsRefusedFor}
use Rattle.gp_session_http.specs.Views.{LiveView}
use Rattle.gp_session_http.proofs.Rows.{told_live, from_live, leads_from}
use Rattle.gp_session_http.proofs.Hearing.{heard_moved, refused_at_head, head_at, head_waits, head_gone, head_no_memory}
use Rattle.gp_session_http.proofs.reading_head.ReadingHead.advance.Goals as goal

pub routed-requires : goal.routed-requires
routed-requires g c =
    let v : LiveView = record { wire = c.live.inside.wire; line = c.live.inside.line; watch = c.live.inside.watch; seat = c.live.inside.seat; charter = record { rules = c.live.inside.routes.now; signer = c.live.inside.signer.now; tag = c.live.inside.tag }; reports = c.live.inside.reports } in
    let told = told_live v c.args.live.now (stage.ReadingHead c.args.self) c.live.view_is c.requires.told in
    let p = c.in-Head.ensures.polls in
    record { told = head_at v c.args.self told c.read_head.new.self c.read_head.ensures.start c.read_head.ensures.rest p.more p.hears (IsHeaded c.in-Head.intake) p.says }

pub refuse-requires : goal.refuse-requires
refuse-requires g c =
    let v : LiveView = record { wire = c.live.inside.wire; line = c.live.inside.line; watch = c.live.inside.watch; seat = c.live.inside.seat; charter = record { rules = c.live.inside.routes.now; signer = c.live.inside.signer.now; tag = c.live.inside.tag }; reports = c.live.inside.reports } in
    let told = told_live v c.args.live.now (stage.ReadingHead c.args.self) c.live.view_is c.requires.told in
    let p = c.in-Refused.ensures.polls in
    let r = c.in-Refused.refused in
    head_at v c.args.self told c.read_head.new.self c.read_head.ensures.start c.read_head.ensures.rest p.more p.hears (IsRefusedFor v.charter.rules (cause.Request r.fault) r.method) (refused_at_head v.charter.rules r.fault r.method _ p.says)

pub returns-in-Head : goal.returns-in-Head
returns-in-Head g c =
    let v : LiveView = record { wire = c.live.inside.wire; line = c.live.inside.line; watch = c.live.inside.watch; seat = c.live.inside.seat; charter = record { rules = c.live.inside.routes.now; signer = c.live.inside.signer.now; tag = c.live.inside.tag }; reports = c.live.inside.reports } in
    let p = c.in-Head.ensures.polls in
    record { leads = from_live v c.args.live.now _ 5 _ c.live.view_is (leads_from v _ _ 5 5 _ (heard_moved v c.read_head.new.self p.more c.read_head.ensures.start c.read_head.ensures.rest p.hears) (omega arith) c.routed.ensures.leads) }

pub returns-in-Refused : goal.returns-in-Refused
returns-in-Refused g c =
    let v : LiveView = record { wire = c.live.inside.wire; line = c.live.inside.line; watch = c.live.inside.watch; seat = c.live.inside.seat; charter = record { rules = c.live.inside.routes.now; signer = c.live.inside.signer.now; tag = c.live.inside.tag }; reports = c.live.inside.reports } in
    let p = c.in-Refused.ensures.polls in
    record { leads = from_live v c.args.live.now _ 5 _ c.live.view_is (leads_from v _ _ 2 5 _ (heard_moved v c.read_head.new.self p.more c.read_head.ensures.start c.read_head.ensures.rest p.hears) (omega arith) c.refuse.ensures) }

pub returns-in-NotReady : goal.returns-in-NotReady
returns-in-NotReady g c =
    let v : LiveView = record { wire = c.live.inside.wire; line = c.live.inside.line; watch = c.live.inside.watch; seat = c.live.inside.seat; charter = record { rules = c.live.inside.routes.now; signer = c.live.inside.signer.now; tag = c.live.inside.tag }; reports = c.live.inside.reports } in
    let told = told_live v c.args.live.now (stage.ReadingHead c.args.self) c.live.view_is c.requires.told in
    let p = c.in-NotReady.ensures.polls in
    record { leads = from_live v c.args.live.now _ 5 _ c.live.view_is (head_waits v c.args.self told c.read_head.new.self c.read_head.ensures.start c.read_head.ensures.rest p.more p.hears (record { intake = c.in-NotReady.intake }) p.says.0 p.says.1 p.says.2) }

pub returns-in-ClientGone : goal.returns-in-ClientGone
returns-in-ClientGone g c =
    let v : LiveView = record { wire = c.live.inside.wire; line = c.live.inside.line; watch = c.live.inside.watch; seat = c.live.inside.seat; charter = record { rules = c.live.inside.routes.now; signer = c.live.inside.signer.now; tag = c.live.inside.tag }; reports = c.live.inside.reports } in
    let told = told_live v c.args.live.now (stage.ReadingHead c.args.self) c.live.view_is c.requires.told in
    let p = c.in-ClientGone.ensures.polls in
    record { leads = from_live v c.args.live.now _ 5 _ c.live.view_is (head_gone v c.args.self told c.read_head.new.self c.read_head.ensures.start c.read_head.ensures.rest p.more p.hears p.says.0 p.says.1 c.end_with.result c.end_with.ensures) }

pub returns-in-NoMemory : goal.returns-in-NoMemory
returns-in-NoMemory g c =
    let v : LiveView = record { wire = c.live.inside.wire; line = c.live.inside.line; watch = c.live.inside.watch; seat = c.live.inside.seat; charter = record { rules = c.live.inside.routes.now; signer = c.live.inside.signer.now; tag = c.live.inside.tag }; reports = c.live.inside.reports } in
    let told = told_live v c.args.live.now (stage.ReadingHead c.args.self) c.live.view_is c.requires.told in
    let p = c.in-NoMemory.ensures.polls in
    record { leads = from_live v c.args.live.now _ 5 _ c.live.view_is (head_no_memory v c.args.self told c.read_head.new.self c.read_head.ensures.start c.read_head.ensures.rest p.more p.hears p.says c.end_with-in-NoMemory.result c.end_with-in-NoMemory.ensures) }
