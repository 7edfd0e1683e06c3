use Rattle.std.proofs.Common.{◌∙◌, refl, ap, arith}
use Rattle.gp_session_http.specs.declared.stage.Stage.TheVariants as stage
use Rattle.gp_session_http.specs.Views.{LiveView}
use Rattle.gp_session.proofs.Moving.{says_same}
use Rattle.gp_session_http.proofs.Rows.{told_live, from_live, with_line, moved_line, leads_from}
use Rattle.gp_session_http.proofs.Sending.{steps_live, steps_from, gave_part, gave_all, cut_short, goes_on, lost}
use Rattle.gp_session_http.proofs.passing.Passing.receive.Goals as goal

pub put-requires : goal.put-requires
put-requires g c =
    let v : LiveView = record { wire = c.live.inside.wire; line = c.live.inside.line; watch = c.live.inside.watch; seat = c.live.inside.seat; charter = record { rules = c.live.inside.routes.now; signer = c.live.inside.signer.now; tag = c.live.inside.tag }; reports = c.live.inside.reports } in
    let s = c.args.self in
    let told = told_live v c.args.live.now (stage.Passing s) c.live.view_is c.requires.told in
    let l = c.poll.new.self in
    let y = c.poll.new.exchange in
    let e = c.in-Part.ensures in
    record { told = gave_part v l s told y e.moved e.asked e.heads c.in-Part.part e.gives.0 e.gives.2 (λ aims. e.row aims told.given) }

pub returns-in-Part : goal.returns-in-Part
returns-in-Part g c =
    let v : LiveView = record { wire = c.live.inside.wire; line = c.live.inside.line; watch = c.live.inside.watch; seat = c.live.inside.seat; charter = record { rules = c.live.inside.routes.now; signer = c.live.inside.signer.now; tag = c.live.inside.tag }; reports = c.live.inside.reports } in
    let s = c.args.self in
    let told = told_live v c.args.live.now (stage.Passing s) c.live.view_is c.requires.told in
    let l = c.poll.new.self in
    let y = c.poll.new.exchange in
    let e = c.in-Part.ensures in
    record { steps = steps_live v c.args.live.now _ _ _ c.live.view_is (steps_from v (with_line v l) _ _ _ (moved_line v l e.moved) (says_same v.wire v.wire refl refl refl) c.put.ensures.steps) }

pub finish-requires : goal.finish-requires
finish-requires g c =
    let v : LiveView = record { wire = c.live.inside.wire; line = c.live.inside.line; watch = c.live.inside.watch; seat = c.live.inside.seat; charter = record { rules = c.live.inside.routes.now; signer = c.live.inside.signer.now; tag = c.live.inside.tag }; reports = c.live.inside.reports } in
    let s = c.args.self in
    let told = told_live v c.args.live.now (stage.Passing s) c.live.view_is c.requires.told in
    let l = c.poll.new.self in
    let y = c.poll.new.exchange in
    let e = c.in-End.ensures in
    record { told = gave_all v l s told y e.moved e.asked e.heads e.gives.1 (λ aims. e.row aims told.given) }

pub returns-in-End : goal.returns-in-End
returns-in-End g c =
    let v : LiveView = record { wire = c.live.inside.wire; line = c.live.inside.line; watch = c.live.inside.watch; seat = c.live.inside.seat; charter = record { rules = c.live.inside.routes.now; signer = c.live.inside.signer.now; tag = c.live.inside.tag }; reports = c.live.inside.reports } in
    let s = c.args.self in
    let told = told_live v c.args.live.now (stage.Passing s) c.live.view_is c.requires.told in
    let l = c.poll.new.self in
    let y = c.poll.new.exchange in
    let e = c.in-End.ensures in
    record { steps = from_live v c.args.live.now _ 2 _ c.live.view_is (leads_from v (with_line v l) _ 2 2 _ (moved_line v l e.moved) (omega arith) c.finish.ensures.leads) }

pub returns-in-Fault : goal.returns-in-Fault
returns-in-Fault g c =
    let v : LiveView = record { wire = c.live.inside.wire; line = c.live.inside.line; watch = c.live.inside.watch; seat = c.live.inside.seat; charter = record { rules = c.live.inside.routes.now; signer = c.live.inside.signer.now; tag = c.live.inside.tag }; reports = c.live.inside.reports } in
    let s = c.args.self in
    let told = told_live v c.args.live.now (stage.Passing s) c.live.view_is c.requires.told in
    let l = c.poll.new.self in
    let y = c.poll.new.exchange in
    let e = c.in-Fault.ensures in
    record {
      steps = from_live v c.args.live.now _ 2 _ c.live.view_is
          (cut_short v l s told y e.moved e.asked e.heads c.in-Fault.field-0 e.gives.0 e.gives.1 (λ aims. e.row aims told.given) c.over-finishing.result c.over-finishing.ensures.passed c.over-finishing.ensures.exchange c.over-finishing.ensures.cause);
    }

pub returns-in-NotReady : goal.returns-in-NotReady
returns-in-NotReady g c =
    let v : LiveView = record { wire = c.live.inside.wire; line = c.live.inside.line; watch = c.live.inside.watch; seat = c.live.inside.seat; charter = record { rules = c.live.inside.routes.now; signer = c.live.inside.signer.now; tag = c.live.inside.tag }; reports = c.live.inside.reports } in
    let s = c.args.self in
    let told = told_live v c.args.live.now (stage.Passing s) c.live.view_is c.requires.told in
    let l = c.poll.new.self in
    let y = c.poll.new.exchange in
    let e = c.in-NotReady.ensures in
    record { steps = from_live v c.args.live.now _ 2 _ c.live.view_is (goes_on v l s told y e.moved e.asked e.heads (ap (λ (x : LiveView). x.wire.rest) c.live.view_is ∙ c.requires.empty) e.gives (λ aims. e.row aims told.given)) }

pub returns-in-NoMemory : goal.returns-in-NoMemory
returns-in-NoMemory g c =
    let v : LiveView = record { wire = c.live.inside.wire; line = c.live.inside.line; watch = c.live.inside.watch; seat = c.live.inside.seat; charter = record { rules = c.live.inside.routes.now; signer = c.live.inside.signer.now; tag = c.live.inside.tag }; reports = c.live.inside.reports } in
    let s = c.args.self in
    let told = told_live v c.args.live.now (stage.Passing s) c.live.view_is c.requires.told in
    let l = c.poll.new.self in
    let y = c.poll.new.exchange in
    let e = c.in-NoMemory.ensures in
    record { steps = from_live v c.args.live.now _ 2 _ c.live.view_is (lost v l s told y e.moved e.asked e.heads e.gives (λ aims. e.row aims told.given) c.end_with.result c.end_with.ensures) }
