use Rattle.std.proofs.Common.{refl}
use Rattle.gp_outbox.specs.declared.outbox.Flushed.TheVariants as flushed
use Rattle.gp_session.specs.Lines.{speaking, hung}
use Rattle.gp_session_http.specs.declared.stage.Stage.TheVariants as stage
use Rattle.gp_session_http.specs.Passing.{asked_of, passed_text}
use Rattle.gp_session_http.specs.Views.{LiveView}
use Rattle.gp_session_http.specs.Moves.{said}
use Rattle.std.proofs.Common.{None}
use Rattle.gp_session.proofs.Moving.{says_flushed}
use Rattle.gp_session_http.proofs.Rows.{told_live, from_live, with_wire, with_line, moved_flush, moved_line, moved_again, told_flushed}
use Rattle.gp_session_http.proofs.Talking.{polled, flushed_on}
use Rattle.gp_session_http.proofs.Sending.{steps_live, steps_from, passing_rows, passing_full, passing_gone}
use Rattle.gp_session_http.proofs.passing.Passing.pass.Goals as goal

pub receive-requires-clause-told : goal.receive-requires-clause-told
receive-requires-clause-told g c =
    let v : LiveView = record { wire = c.live.inside.wire; line = c.live.inside.line; watch = c.live.inside.watch; seat = c.live.inside.seat; charter = record { rules = c.live.inside.routes.now; signer = c.live.inside.signer.now; tag = c.live.inside.tag }; reports = c.live.inside.reports } in
    told_flushed v c.flush.new.self (stage.Passing c.args.self) flushed.Empty (told_live v c.args.live.now (stage.Passing c.args.self) c.live.view_is c.requires.told) c.in-Empty.ensures

pub receive-requires-clause-empty : goal.receive-requires-clause-empty
receive-requires-clause-empty g c = c.in-Empty.ensures.cause.0

pub returns-in-Empty : goal.returns-in-Empty
returns-in-Empty g c =
    let v : LiveView = record { wire = c.live.inside.wire; line = c.live.inside.line; watch = c.live.inside.watch; seat = c.live.inside.seat; charter = record { rules = c.live.inside.routes.now; signer = c.live.inside.signer.now; tag = c.live.inside.tag }; reports = c.live.inside.reports } in
    record {
      steps = steps_live v c.args.live.now _ _ _ c.live.view_is (steps_from v (with_wire v c.flush.new.self) _ _ _ (moved_flush v c.flush.new.self flushed.Empty c.in-Empty.ensures) (says_flushed v.wire c.flush.new.self flushed.Empty c.in-Empty.ensures) c.receive.ensures.steps);
    }

pub returns-in-NotReady : goal.returns-in-NotReady
returns-in-NotReady g c =
    let v : LiveView = record { wire = c.live.inside.wire; line = c.live.inside.line; watch = c.live.inside.watch; seat = c.live.inside.seat; charter = record { rules = c.live.inside.routes.now; signer = c.live.inside.signer.now; tag = c.live.inside.tag }; reports = c.live.inside.reports } in
    let told = told_live v c.args.live.now (stage.Passing c.args.self) c.live.view_is c.requires.told in
    record { steps = from_live v c.args.live.now _ 2 _ c.live.view_is (passing_full v c.flush.new.self c.args.self told c.in-NotReady.ensures) }

pub returns-in-Failed : goal.returns-in-Failed
returns-in-Failed g c =
    let v : LiveView = record { wire = c.live.inside.wire; line = c.live.inside.line; watch = c.live.inside.watch; seat = c.live.inside.seat; charter = record { rules = c.live.inside.routes.now; signer = c.live.inside.signer.now; tag = c.live.inside.tag }; reports = c.live.inside.reports } in
    let s = c.args.self in
    let told = told_live v c.args.live.now (stage.Passing s) c.live.view_is c.requires.told in
    let w = c.flush.new.self in
    let l = c.hang_up.new.self in
    let e = c.hang_up.ensures in
    let x = s.exchange in
    let text = passed_text s.passed told.parts None in
    let moved = moved_again v (with_wire v w) (with_line (with_wire v w) l) (moved_flush v w flushed.Failed c.in-Failed.ensures) (moved_line (with_wire v w) l e.moved) in
    let rows = polled (with_wire v w) l (asked_of s.passed) x x (speaking (said x told.given)) (hung (said x told.given)) text e.moved refl (λ aims. e.row aims told.given)
    (flushed_on v w flushed.Failed c.in-Failed.ensures (asked_of s.passed) x (speaking (said x told.given)) text (passing_rows v s told)) in
    record { steps = from_live v c.args.live.now _ 2 _ c.live.view_is (passing_gone v w l s told c.in-Failed.ensures moved rows c.end_with.result c.end_with.ensures) }
