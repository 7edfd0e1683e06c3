use Rattle.std.proofs.Common.{◌∙◌, sym, subst, arith, inl, []}
use Rattle.gp_hub.specs.declared.outcome.Why.{Why}
use Rattle.gp_session.specs.Lines.{speaking}
use Rattle.gp_session_http.specs.declared.stage.Stage.TheVariants as stage
use Rattle.gp_session_http.specs.declared.asking.Asking.{Asking as AskingStage}
use Rattle.gp_session_http.specs.Asking.{FailsBy}
use Rattle.gp_session_http.specs.Views.{LiveView}
use Rattle.gp_session_http.specs.Moves.{said}
use Rattle.gp_session_http.proofs.Rows.{told_live, from_live, leads_from, with_line, moved_line, no_parts}
use Rattle.gp_session_http.proofs.Talking.{asking_rows, polled, reads_head, over_hung, over_rank, faulted, asking_waits, still_expects, asking_lost}
use Rattle.gp_session_http.proofs.asking.Asking.advance.Goals as goal

pub answered-requires : goal.answered-requires
answered-requires g c =
    let v : LiveView = record { wire = c.live.inside.wire; line = c.live.inside.line; watch = c.live.inside.watch; seat = c.live.inside.seat; charter = record { rules = c.live.inside.routes.now; signer = c.live.inside.signer.now; tag = c.live.inside.tag }; reports = c.live.inside.reports } in
    let s = c.args.self in
    let told = told_live v c.args.live.now (stage.Asking s) c.live.view_is c.requires.told in
    let l = c.poll.new.self in
    let x = c.poll.new.exchange in
    let e = c.in-Head.ensures in
    let rows = polled v l s.asked s.exchange x (speaking (said s.exchange [])) (speaking (said x [])) [] e.moved e.asked (λ aims. e.row aims []) (asking_rows v s told) in
    record { told = record { rows = rows; has = reads_head c.in-Head.head x e.gives.1 } }

pub fail-requires : goal.fail-requires
fail-requires g c =
    let v : LiveView = record { wire = c.live.inside.wire; line = c.live.inside.line; watch = c.live.inside.watch; seat = c.live.inside.seat; charter = record { rules = c.live.inside.routes.now; signer = c.live.inside.signer.now; tag = c.live.inside.tag }; reports = c.live.inside.reports } in
    let s = c.args.self in
    let told = told_live v c.args.live.now (stage.Asking s) c.live.view_is c.requires.told in
    let l = c.poll.new.self in
    let x = c.poll.new.exchange in
    let e = c.in-Fault.ensures in
    let rows = polled v l s.asked s.exchange x (speaking (said s.exchange [])) (speaking (said x [])) [] e.moved e.asked (λ aims. e.row aims []) (asking_rows v s told) in
    record {
      told = record {
        given = [];
        parts = [];
        cut = no_parts;
        rows = over_hung (with_line v l) s.asked x [] [] (over_rank _ x.place e.gives.0) rows;
        fails = subst (λ (w : Why). FailsBy l s.asked.request.head.method x [] w) (sym c.why_failed.ensures) (faulted v.line l s.asked.request.head.method s.exchange x c.in-Fault.fault [] (omega (arith, told.at.early)) (inl (e.heads ∙ told.at.none)) e.moved told.stays.dials.faults e.gives);
      };
    }

pub returns-in-Head : goal.returns-in-Head
returns-in-Head g c =
    let v : LiveView = record { wire = c.live.inside.wire; line = c.live.inside.line; watch = c.live.inside.watch; seat = c.live.inside.seat; charter = record { rules = c.live.inside.routes.now; signer = c.live.inside.signer.now; tag = c.live.inside.tag }; reports = c.live.inside.reports } in
    let s = c.args.self in
    let told = told_live v c.args.live.now (stage.Asking s) c.live.view_is c.requires.told in
    let l = c.poll.new.self in
    let x = c.poll.new.exchange in
    let e = c.in-Head.ensures in
    let rows = polled v l s.asked s.exchange x (speaking (said s.exchange [])) (speaking (said x [])) [] e.moved e.asked (λ aims. e.row aims []) (asking_rows v s told) in
    record { leads = from_live v c.args.live.now _ 3 _ c.live.view_is (leads_from v _ _ 3 3 _ (moved_line v l e.moved) (omega arith) c.answered.ensures.leads) }

pub returns-in-Fault : goal.returns-in-Fault
returns-in-Fault g c =
    let v : LiveView = record { wire = c.live.inside.wire; line = c.live.inside.line; watch = c.live.inside.watch; seat = c.live.inside.seat; charter = record { rules = c.live.inside.routes.now; signer = c.live.inside.signer.now; tag = c.live.inside.tag }; reports = c.live.inside.reports } in
    let s = c.args.self in
    let told = told_live v c.args.live.now (stage.Asking s) c.live.view_is c.requires.told in
    let l = c.poll.new.self in
    let x = c.poll.new.exchange in
    let e = c.in-Fault.ensures in
    let rows = polled v l s.asked s.exchange x (speaking (said s.exchange [])) (speaking (said x [])) [] e.moved e.asked (λ aims. e.row aims []) (asking_rows v s told) in
    record { leads = from_live v c.args.live.now _ 3 _ c.live.view_is (leads_from v _ _ 2 3 _ (moved_line v l e.moved) (omega arith) c.fail.ensures.leads) }

pub returns-in-NotReady : goal.returns-in-NotReady
returns-in-NotReady g c =
    let v : LiveView = record { wire = c.live.inside.wire; line = c.live.inside.line; watch = c.live.inside.watch; seat = c.live.inside.seat; charter = record { rules = c.live.inside.routes.now; signer = c.live.inside.signer.now; tag = c.live.inside.tag }; reports = c.live.inside.reports } in
    let s = c.args.self in
    let told = told_live v c.args.live.now (stage.Asking s) c.live.view_is c.requires.told in
    let l = c.poll.new.self in
    let x = c.poll.new.exchange in
    let e = c.in-NotReady.ensures in
    let rows = polled v l s.asked s.exchange x (speaking (said s.exchange [])) (speaking (said x [])) [] e.moved e.asked (λ aims. e.row aims []) (asking_rows v s told) in
    let t : AskingStage = record { asked = s.asked; exchange = x } in
    record { leads = from_live v c.args.live.now _ 3 _ c.live.view_is (asking_waits v l t (moved_line v l e.moved) rows (still_expects s.exchange x v.line.dial l.dial e.gives e.heads told.at) e.gives.1) }

pub returns-in-NoMemory : goal.returns-in-NoMemory
returns-in-NoMemory g c =
    let v : LiveView = record { wire = c.live.inside.wire; line = c.live.inside.line; watch = c.live.inside.watch; seat = c.live.inside.seat; charter = record { rules = c.live.inside.routes.now; signer = c.live.inside.signer.now; tag = c.live.inside.tag }; reports = c.live.inside.reports } in
    let s = c.args.self in
    let told = told_live v c.args.live.now (stage.Asking s) c.live.view_is c.requires.told in
    let l = c.poll.new.self in
    let x = c.poll.new.exchange in
    let e = c.in-NoMemory.ensures in
    let rows = polled v l s.asked s.exchange x (speaking (said s.exchange [])) (speaking (said x [])) [] e.moved e.asked (λ aims. e.row aims []) (asking_rows v s told) in
    let t : AskingStage = record { asked = s.asked; exchange = x } in
    record {
      leads = from_live v c.args.live.now _ 3 _ c.live.view_is (asking_lost (with_line v l) t 3 v (moved_line v l e.moved) (over_hung (with_line v l) s.asked x [] [] (over_rank _ x.place e.gives) rows) c.end_with.result c.end_with.ensures);
    }
