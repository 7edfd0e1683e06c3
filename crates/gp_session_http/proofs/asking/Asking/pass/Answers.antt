use Rattle.std.proofs.Common.{◌++◌, ◌∙◌, sym, subst, ap, arith, List, ℕ, []}
use Rattle.gp_session.specs.Lines.{speaking}
use Rattle.gp_session_http.specs.Passing.{head_by}
use Rattle.gp_session_http.specs.Views.{LiveView}
use Rattle.gp_session_http.specs.Moves.{IsAnsweredAt, said}
use Rattle.gp_session_http.proofs.Rows.{from_live, leads_from, moved_by_put, moved_unput}
use Rattle.gp_session_http.proofs.Talking.{put_on, put_none, put_head}
use Rattle.gp_session_http.proofs.asking.Asking.pass.Goals as goal

pub begin-requires-clause-told : goal.begin-requires-clause-told
begin-requires-clause-told g c =
    let v : LiveView = record { wire = c.live.inside.wire; line = c.live.inside.line; watch = c.live.inside.watch; seat = c.live.inside.seat; charter = record { rules = c.live.inside.routes.now; signer = c.live.inside.signer.now; tag = c.live.inside.tag }; reports = c.live.inside.reports } in
    let s = c.args.self in
    let told : IsAnsweredAt v s c.args.head = subst (λ (x : LiveView). IsAnsweredAt x s c.args.head) (sym c.live.view_is) c.requires.told in
    let e = c.put.ensures in
    let rest = c.in-Ok-put.ensures.ok ∙ ap (λ (xs : List ℕ). v.wire.rest ++ xs) (put_head c.bytes.result.now c.in-Ok.text c.empty.result (head_by s.asked c.args.head c.args.status) c.bytes.ensures c.in-Ok.ensures c.empty.ensures) in
    record { rows = put_on v c.put.new.self e.start e.link s.asked s.exchange (speaking (said s.exchange [])) [] told.rows (head_by s.asked c.args.head c.args.status) rest; has = told.has }

pub returns : goal.returns
returns g c =
    let v : LiveView = record { wire = c.live.inside.wire; line = c.live.inside.line; watch = c.live.inside.watch; seat = c.live.inside.seat; charter = record { rules = c.live.inside.routes.now; signer = c.live.inside.signer.now; tag = c.live.inside.tag }; reports = c.live.inside.reports } in
    let e = c.put.ensures in
    record { leads = from_live v c.args.live.now _ 3 _ c.live.view_is (leads_from v _ _ 3 3 _ (moved_by_put v c.put.new.self _ e.start e.link c.in-Ok-put.ensures.ok) (omega arith) c.begin.ensures.leads) }

pub give_up-requires-in-Err : goal.give_up-requires-in-Err
give_up-requires-in-Err g c =
    let v : LiveView = record { wire = c.live.inside.wire; line = c.live.inside.line; watch = c.live.inside.watch; seat = c.live.inside.seat; charter = record { rules = c.live.inside.routes.now; signer = c.live.inside.signer.now; tag = c.live.inside.tag }; reports = c.live.inside.reports } in
    let s = c.args.self in
    let told : IsAnsweredAt v s c.args.head = subst (λ (x : LiveView). IsAnsweredAt x s c.args.head) (sym c.live.view_is) c.requires.told in
    let e = c.put.ensures in
    record { told = put_none v c.put.new.self e.start e.link s.asked s.exchange (speaking (said s.exchange [])) [] told.rows c.in-Err.ensures.err.1 }

pub returns-in-Err : goal.returns-in-Err
returns-in-Err g c =
    let v : LiveView = record { wire = c.live.inside.wire; line = c.live.inside.line; watch = c.live.inside.watch; seat = c.live.inside.seat; charter = record { rules = c.live.inside.routes.now; signer = c.live.inside.signer.now; tag = c.live.inside.tag }; reports = c.live.inside.reports } in
    let e = c.put.ensures in
    record { leads = from_live v c.args.live.now _ 3 _ c.live.view_is (leads_from v _ _ 3 3 _ (moved_unput v c.put.new.self e.start e.link c.in-Err.ensures.err.1) (omega arith) c.give_up-in-Err.ensures.leads) }
