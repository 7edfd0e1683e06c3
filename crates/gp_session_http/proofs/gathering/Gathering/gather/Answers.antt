use Rattle.std.proofs.Common.{arith}
use Rattle.gp_session_http.specs.declared.stage.Stage.TheVariants as stage
use Rattle.gp_session_http.specs.Views.{LiveView}
use Rattle.gp_session_http.proofs.Rows.{told_live, from_live, with_line, moved_line, leads_from}
use Rattle.gp_session_http.proofs.Collecting.{gather_part, gather_all, gather_fault, gather_waits, gather_wants, gathers_live, gathers_from}
use Rattle.gp_session_http.proofs.gathering.Gathering.gather.Goals as goal

pub add-requires : goal.add-requires
add-requires g c =
    let v : LiveView = record { wire = c.live.inside.wire; line = c.live.inside.line; watch = c.live.inside.watch; seat = c.live.inside.seat; charter = record { rules = c.live.inside.routes.now; signer = c.live.inside.signer.now; tag = c.live.inside.tag }; reports = c.live.inside.reports } in
    let s = c.args.self in
    let told = told_live v c.args.live.now (stage.Gathering s) c.live.view_is c.requires.told in
    let e = c.in-Part.ensures in
    record { told = gather_part v c.poll.new.self s told c.poll.new.exchange e.moved e.asked e.heads c.in-Part.part e.gives.0 e.gives.2 (λ aims. e.row aims s.content) }

pub returns-in-Part : goal.returns-in-Part
returns-in-Part g c =
    let v : LiveView = record { wire = c.live.inside.wire; line = c.live.inside.line; watch = c.live.inside.watch; seat = c.live.inside.seat; charter = record { rules = c.live.inside.routes.now; signer = c.live.inside.signer.now; tag = c.live.inside.tag }; reports = c.live.inside.reports } in
    record { gathers = gathers_live v c.args.live.now _ _ _ c.live.view_is (gathers_from v (with_line v c.poll.new.self) _ _ _ (moved_line v c.poll.new.self c.in-Part.ensures.moved) c.add.ensures.gathers) }

pub read-requires : goal.read-requires
read-requires g c =
    let v : LiveView = record { wire = c.live.inside.wire; line = c.live.inside.line; watch = c.live.inside.watch; seat = c.live.inside.seat; charter = record { rules = c.live.inside.routes.now; signer = c.live.inside.signer.now; tag = c.live.inside.tag }; reports = c.live.inside.reports } in
    let s = c.args.self in
    let told = told_live v c.args.live.now (stage.Gathering s) c.live.view_is c.requires.told in
    let e = c.in-End.ensures in
    record { told = gather_all v c.poll.new.self s told c.poll.new.exchange e.moved e.asked e.heads e.gives.1 (λ aims. e.row aims s.content) }

pub returns-in-End : goal.returns-in-End
returns-in-End g c =
    let v : LiveView = record { wire = c.live.inside.wire; line = c.live.inside.line; watch = c.live.inside.watch; seat = c.live.inside.seat; charter = record { rules = c.live.inside.routes.now; signer = c.live.inside.signer.now; tag = c.live.inside.tag }; reports = c.live.inside.reports } in
    record { gathers = from_live v c.args.live.now _ 2 _ c.live.view_is (leads_from v (with_line v c.poll.new.self) _ 2 2 _ (moved_line v c.poll.new.self c.in-End.ensures.moved) (omega arith) c.read.ensures.leads) }

pub fail-requires : goal.fail-requires
fail-requires g c =
    let v : LiveView = record { wire = c.live.inside.wire; line = c.live.inside.line; watch = c.live.inside.watch; seat = c.live.inside.seat; charter = record { rules = c.live.inside.routes.now; signer = c.live.inside.signer.now; tag = c.live.inside.tag }; reports = c.live.inside.reports } in
    let s = c.args.self in
    let told = told_live v c.args.live.now (stage.Gathering s) c.live.view_is c.requires.told in
    let e = c.in-Fault.ensures in
    record { told = gather_fault v c.poll.new.self s told c.poll.new.exchange e.moved e.asked e.heads c.in-Fault.fault c.why_failed.result c.why_failed.ensures e.gives (λ aims. e.row aims s.content) }

pub returns-in-Fault : goal.returns-in-Fault
returns-in-Fault g c =
    let v : LiveView = record { wire = c.live.inside.wire; line = c.live.inside.line; watch = c.live.inside.watch; seat = c.live.inside.seat; charter = record { rules = c.live.inside.routes.now; signer = c.live.inside.signer.now; tag = c.live.inside.tag }; reports = c.live.inside.reports } in
    record { gathers = from_live v c.args.live.now _ 2 _ c.live.view_is (leads_from v (with_line v c.poll.new.self) _ 2 2 _ (moved_line v c.poll.new.self c.in-Fault.ensures.moved) (omega arith) c.fail.ensures.leads) }

pub returns-in-NotReady : goal.returns-in-NotReady
returns-in-NotReady g c =
    let v : LiveView = record { wire = c.live.inside.wire; line = c.live.inside.line; watch = c.live.inside.watch; seat = c.live.inside.seat; charter = record { rules = c.live.inside.routes.now; signer = c.live.inside.signer.now; tag = c.live.inside.tag }; reports = c.live.inside.reports } in
    let s = c.args.self in
    let told = told_live v c.args.live.now (stage.Gathering s) c.live.view_is c.requires.told in
    let e = c.in-NotReady.ensures in
    record { gathers = from_live v c.args.live.now _ 2 _ c.live.view_is (gather_waits v c.poll.new.self s told c.poll.new.exchange e.moved e.asked e.heads e.gives (λ aims. e.row aims s.content)) }

pub returns-in-NoMemory : goal.returns-in-NoMemory
returns-in-NoMemory g c =
    let v : LiveView = record { wire = c.live.inside.wire; line = c.live.inside.line; watch = c.live.inside.watch; seat = c.live.inside.seat; charter = record { rules = c.live.inside.routes.now; signer = c.live.inside.signer.now; tag = c.live.inside.tag }; reports = c.live.inside.reports } in
    let s = c.args.self in
    let told = told_live v c.args.live.now (stage.Gathering s) c.live.view_is c.requires.told in
    let e = c.in-NoMemory.ensures in
    record { gathers = from_live v c.args.live.now _ 2 _ c.live.view_is (gather_wants v c.poll.new.self s told c.poll.new.exchange e.moved e.asked e.heads e.gives (λ aims. e.row aims s.content) c.end_with.result c.end_with.ensures) }
