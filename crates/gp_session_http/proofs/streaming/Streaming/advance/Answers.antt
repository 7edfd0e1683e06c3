use Rattle.std.proofs.Common.{sym, subst, arith, refl, Some}
use Rattle.gp_session_http.specs.declared.held.Held.TheVariants.{Streaming}
use Rattle.gp_session_http.specs.declared.held.HeldNext.TheVariants.{Wait}
use Rattle.gp_session_http.specs.declared.streaming.Streaming.{Streaming as StreamingStage}
use Rattle.gp_session_http.specs.Holding.{StreamTimed, StreamingTold}
use Rattle.gp_session_http.specs.Views.{LiveView}
use Rattle.gp_session_http.proofs.Granting.{held_live, held_from, held_is, onward_is, onward_stream, timed_live}
use Rattle.gp_session_http.proofs.Keeping.{streaming_waits, streaming_ended, streaming_gone, streaming_wants, streaming_unput, streaming_worn, streaming_told, stream_went, with_streamed}
use Rattle.gp_session_recover.specs.declared.polling.StreamPolled.TheVariants as polled
use Rattle.gp_session_http.proofs.streaming.Streaming.advance.Goals as goal

pub returns-in-Pending : goal.returns-in-Pending
returns-in-Pending g c =
    let v : LiveView = record { wire = c.live.inside.wire; line = c.live.inside.line; watch = c.live.inside.watch; seat = c.live.inside.seat; charter = record { rules = c.live.inside.routes.now; signer = c.live.inside.signer.now; tag = c.live.inside.tag }; reports = c.live.inside.reports } in
    let s = c.args.self in
    let h : StreamingTold v s = subst (λ (x : LiveView). StreamingTold x s) (sym c.live.view_is) c.requires.told in
    let w = with_streamed v c.poll.new.wire c.poll.new.line c.moment-now.new.self c.poll.new.seat in
    let next : StreamingStage = record { grant = s.grant; recovering = c.poll.new.self } in
    let timed : StreamTimed v w s next = record { now = c.moment-now.result; moment = c.moment-now.ensures.uses.moment; recovers = c.in-Pending.ensures.says.recovers } in
    record {
      leads = held_live v c.args.live.now _ 2 _ c.live.view_is (streaming_waits v s h c.moment-now.new.self c.moment-now.result c.moment-now.ensures.uses c.moment-now.ensures.row c.poll.new.self c.poll.new.wire c.poll.new.line c.poll.new.seat c.in-Pending.ensures);
      timed = timed_live v c.args.live.now w s (Wait (Streaming next)) c.live.view_is timed;
    }

pub close-requires : goal.close-requires
close-requires g c =
    let v : LiveView = record { wire = c.live.inside.wire; line = c.live.inside.line; watch = c.live.inside.watch; seat = c.live.inside.seat; charter = record { rules = c.live.inside.routes.now; signer = c.live.inside.signer.now; tag = c.live.inside.tag }; reports = c.live.inside.reports } in
    let s = c.args.self in
    let h : StreamingTold v s = subst (λ (x : LiveView). StreamingTold x s) (sym c.live.view_is) c.requires.told in
    record { told = streaming_ended v s h c.moment-now.new.self c.moment-now.result c.moment-now.ensures.uses c.moment-now.ensures.row c.poll.new.self c.poll.new.wire c.poll.new.line c.poll.new.seat c.in-Ended.cause c.in-Ended.ensures }

pub returns-in-Ended : goal.returns-in-Ended
returns-in-Ended g c =
    let v : LiveView = record { wire = c.live.inside.wire; line = c.live.inside.line; watch = c.live.inside.watch; seat = c.live.inside.seat; charter = record { rules = c.live.inside.routes.now; signer = c.live.inside.signer.now; tag = c.live.inside.tag }; reports = c.live.inside.reports } in
    let s = c.args.self in
    let h : StreamingTold v s = subst (λ (x : LiveView). StreamingTold x s) (sym c.live.view_is) c.requires.told in
    let went = stream_went v s h c.moment-now.new.self c.moment-now.result c.moment-now.ensures.uses c.moment-now.ensures.row c.poll.new.self c.poll.new.wire c.poll.new.line c.poll.new.seat (polled.Ended c.in-Ended.cause) c.in-Ended.ensures in
    record { leads = held_live v c.args.live.now _ 2 _ c.live.view_is (held_from v (with_streamed v c.poll.new.wire c.poll.new.line c.moment-now.new.self c.poll.new.seat) _ 2 2 _ went refl (omega arith) c.close.ensures.leads); timed = onward_stream c.args.live.now _ s _ c.close.ensures.on }

pub returns-in-Gone : goal.returns-in-Gone
returns-in-Gone g c =
    let v : LiveView = record { wire = c.live.inside.wire; line = c.live.inside.line; watch = c.live.inside.watch; seat = c.live.inside.seat; charter = record { rules = c.live.inside.routes.now; signer = c.live.inside.signer.now; tag = c.live.inside.tag }; reports = c.live.inside.reports } in
    let s = c.args.self in
    let h : StreamingTold v s = subst (λ (x : LiveView). StreamingTold x s) (sym c.live.view_is) c.requires.told in
    record { leads = held_live v c.args.live.now _ 2 _ c.live.view_is (held_is v _ 2 _ _ c.leave.ensures (streaming_gone v s h c.moment-now.new.self c.moment-now.result c.moment-now.ensures.uses c.moment-now.ensures.row c.poll.new.self c.poll.new.wire c.poll.new.line c.poll.new.seat c.in-Gone.ensures)); timed = onward_stream c.args.live.now _ s _ (onward_is _ _ c.leave.ensures tt) }

pub stop-requires : goal.stop-requires
stop-requires g c =
    let v : LiveView = record { wire = c.live.inside.wire; line = c.live.inside.line; watch = c.live.inside.watch; seat = c.live.inside.seat; charter = record { rules = c.live.inside.routes.now; signer = c.live.inside.signer.now; tag = c.live.inside.tag }; reports = c.live.inside.reports } in
    let s = c.args.self in
    let h : StreamingTold v s = subst (λ (x : LiveView). StreamingTold x s) (sym c.live.view_is) c.requires.told in
    record { told = streaming_worn v s h c.moment-now.new.self c.moment-now.result c.moment-now.ensures.uses c.moment-now.ensures.row c.poll.new.self c.poll.new.wire c.poll.new.line c.poll.new.seat c.in-Worn.ensures }

pub returns-in-Worn : goal.returns-in-Worn
returns-in-Worn g c =
    let v : LiveView = record { wire = c.live.inside.wire; line = c.live.inside.line; watch = c.live.inside.watch; seat = c.live.inside.seat; charter = record { rules = c.live.inside.routes.now; signer = c.live.inside.signer.now; tag = c.live.inside.tag }; reports = c.live.inside.reports } in
    let s = c.args.self in
    let h : StreamingTold v s = subst (λ (x : LiveView). StreamingTold x s) (sym c.live.view_is) c.requires.told in
    let went = stream_went v s h c.moment-now.new.self c.moment-now.result c.moment-now.ensures.uses c.moment-now.ensures.row c.poll.new.self c.poll.new.wire c.poll.new.line c.poll.new.seat polled.Worn c.in-Worn.ensures in
    record { leads = held_live v c.args.live.now _ 2 _ c.live.view_is (held_from v (with_streamed v c.poll.new.wire c.poll.new.line c.moment-now.new.self c.poll.new.seat) _ 2 2 _ went refl (omega arith) c.stop.ensures.leads); timed = onward_stream c.args.live.now _ s _ c.stop.ensures.on }

pub returns-in-NoMemory : goal.returns-in-NoMemory
returns-in-NoMemory g c =
    let v : LiveView = record { wire = c.live.inside.wire; line = c.live.inside.line; watch = c.live.inside.watch; seat = c.live.inside.seat; charter = record { rules = c.live.inside.routes.now; signer = c.live.inside.signer.now; tag = c.live.inside.tag }; reports = c.live.inside.reports } in
    let s = c.args.self in
    let h : StreamingTold v s = subst (λ (x : LiveView). StreamingTold x s) (sym c.live.view_is) c.requires.told in
    record { leads = held_live v c.args.live.now _ 2 _ c.live.view_is (held_is v _ 2 _ _ c.leave-in-NoMemory.ensures (streaming_wants v s h c.moment-now.new.self c.moment-now.result c.moment-now.ensures.uses c.moment-now.ensures.row c.poll.new.self c.poll.new.wire c.poll.new.line c.poll.new.seat c.in-NoMemory.ensures)); timed = onward_stream c.args.live.now _ s _ (onward_is _ _ c.leave-in-NoMemory.ensures tt) }

pub returns-in-Unput-None : goal.returns-in-Unput-None
returns-in-Unput-None g c =
    let v : LiveView = record { wire = c.live.inside.wire; line = c.live.inside.line; watch = c.live.inside.watch; seat = c.live.inside.seat; charter = record { rules = c.live.inside.routes.now; signer = c.live.inside.signer.now; tag = c.live.inside.tag }; reports = c.live.inside.reports } in
    let s = c.args.self in
    let h : StreamingTold v s = subst (λ (x : LiveView). StreamingTold x s) (sym c.live.view_is) c.requires.told in
    record { leads = held_live v c.args.live.now _ 2 _ c.live.view_is (held_is v _ 2 _ _ c.leave-in-Unput-None.ensures (streaming_unput v s h c.moment-now.new.self c.moment-now.result c.moment-now.ensures.uses c.moment-now.ensures.row c.poll.new.self c.poll.new.wire c.poll.new.line c.poll.new.seat (rw c.in-Unput-None.field-0-is at c.in-Unput-None.ensures))); timed = onward_stream c.args.live.now _ s _ (onward_is _ _ c.leave-in-Unput-None.ensures tt) }

pub stop-requires-in-Unput-Some : goal.stop-requires-in-Unput-Some
stop-requires-in-Unput-Some g c =
    let v : LiveView = record { wire = c.live.inside.wire; line = c.live.inside.line; watch = c.live.inside.watch; seat = c.live.inside.seat; charter = record { rules = c.live.inside.routes.now; signer = c.live.inside.signer.now; tag = c.live.inside.tag }; reports = c.live.inside.reports } in
    let s = c.args.self in
    let h : StreamingTold v s = subst (λ (x : LiveView). StreamingTold x s) (sym c.live.view_is) c.requires.told in
    record { told = streaming_told v s h c.moment-now.new.self c.moment-now.result c.moment-now.ensures.uses c.moment-now.ensures.row c.poll.new.self c.poll.new.wire c.poll.new.line c.poll.new.seat c.in-Unput-Some.cause (rw c.in-Unput-Some.field-0-is at c.in-Unput-Some.ensures) }

pub returns-in-Unput-Some : goal.returns-in-Unput-Some
returns-in-Unput-Some g c =
    let v : LiveView = record { wire = c.live.inside.wire; line = c.live.inside.line; watch = c.live.inside.watch; seat = c.live.inside.seat; charter = record { rules = c.live.inside.routes.now; signer = c.live.inside.signer.now; tag = c.live.inside.tag }; reports = c.live.inside.reports } in
    let s = c.args.self in
    let h : StreamingTold v s = subst (λ (x : LiveView). StreamingTold x s) (sym c.live.view_is) c.requires.told in
    let went = stream_went v s h c.moment-now.new.self c.moment-now.result c.moment-now.ensures.uses c.moment-now.ensures.row c.poll.new.self c.poll.new.wire c.poll.new.line c.poll.new.seat (polled.Unput (Some c.in-Unput-Some.cause)) (rw c.in-Unput-Some.field-0-is at c.in-Unput-Some.ensures) in
    record { leads = held_live v c.args.live.now _ 2 _ c.live.view_is (held_from v (with_streamed v c.poll.new.wire c.poll.new.line c.moment-now.new.self c.poll.new.seat) _ 2 2 _ went refl (omega arith) c.stop-in-Unput-Some.ensures.leads); timed = onward_stream c.args.live.now _ s _ c.stop-in-Unput-Some.ensures.on }
