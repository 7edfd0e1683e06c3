use Rattle.std.proofs.Common.{sym, subst, arith, refl}
use Rattle.gp_session_wait.specs.declared.wait.Polled.TheVariants as polled
use Rattle.gp_session_http.specs.LongPolls.{WaitingTold}
use Rattle.gp_session_http.specs.Views.{LiveView}
use Rattle.gp_session_http.proofs.Granting.{held_live, held_from, held_is, onward_is, onward_poll, with_held}
use Rattle.gp_session_http.proofs.Awaiting.{wait_went, waits_told, waits_on, wait_answered, wait_repeated, wait_overflowed, wait_unput, wait_worn, wait_gone, wait_wants}
use Rattle.gp_session_http.proofs.waiting.Waiting.advance.Goals as goal

pub returns-in-Waits : goal.returns-in-Waits
returns-in-Waits g c =
    let v : LiveView = record { wire = c.live.inside.wire; line = c.live.inside.line; watch = c.live.inside.watch; seat = c.live.inside.seat; charter = record { rules = c.live.inside.routes.now; signer = c.live.inside.signer.now; tag = c.live.inside.tag }; reports = c.live.inside.reports } in
    let s = c.args.self in
    let h : WaitingTold v s = subst (λ (x : LiveView). WaitingTold x s) (sym c.live.view_is) c.requires.told in
    let m = c.moment-now in
    let x = c.poll.new.wire in
    let t = c.poll.new.seat in
    let e = c.in-Waits.ensures in
    record { leads = held_live v c.args.live.now _ 4 _ c.live.view_is (record { moved = wait_went v s.poll s.wait s.again s.since.value h m.new.self m.result m.ensures.uses m.ensures.row x t (polled.Waits c.in-Waits.wait) e; to = (waits_told v s.poll s.wait s.again s.since.value h m.new.self m.result m.ensures.uses m.ensures.row x t c.in-Waits.wait e, waits_on v s.poll s.wait s.again s.since.value h m.new.self m.result m.ensures.uses m.ensures.row x t c.in-Waits.wait e, refl) }); timed = record { number = e.number; since = refl } }

pub answer-requires : goal.answer-requires
answer-requires g c =
    let v : LiveView = record { wire = c.live.inside.wire; line = c.live.inside.line; watch = c.live.inside.watch; seat = c.live.inside.seat; charter = record { rules = c.live.inside.routes.now; signer = c.live.inside.signer.now; tag = c.live.inside.tag }; reports = c.live.inside.reports } in
    let s = c.args.self in
    let h : WaitingTold v s = subst (λ (x : LiveView). WaitingTold x s) (sym c.live.view_is) c.requires.told in
    let m = c.moment-now in
    let x = c.poll.new.wire in
    let t = c.poll.new.seat in
    let e = c.in-Answered.ensures in
    record { told = wait_answered v s.poll s.wait s.again s.since.value h m.new.self m.result m.ensures.uses m.ensures.row x t c.in-Answered.hold c.in-Answered.cause c.in-Answered.code e }

pub returns-in-Answered : goal.returns-in-Answered
returns-in-Answered g c =
    let v : LiveView = record { wire = c.live.inside.wire; line = c.live.inside.line; watch = c.live.inside.watch; seat = c.live.inside.seat; charter = record { rules = c.live.inside.routes.now; signer = c.live.inside.signer.now; tag = c.live.inside.tag }; reports = c.live.inside.reports } in
    let s = c.args.self in
    let h : WaitingTold v s = subst (λ (x : LiveView). WaitingTold x s) (sym c.live.view_is) c.requires.told in
    let m = c.moment-now in
    let x = c.poll.new.wire in
    let t = c.poll.new.seat in
    let e = c.in-Answered.ensures in
    record { leads = held_live v c.args.live.now _ 4 _ c.live.view_is (held_from v (with_held v x m.new.self t v.reports) _ 4 4 _ (wait_went v s.poll s.wait s.again s.since.value h m.new.self m.result m.ensures.uses m.ensures.row x t (polled.Answered c.in-Answered.hold c.in-Answered.cause c.in-Answered.code) e) refl (omega arith) c.answer.ensures.leads); timed = onward_poll s _ c.answer.ensures.on }

pub repeat-requires : goal.repeat-requires
repeat-requires g c =
    let v : LiveView = record { wire = c.live.inside.wire; line = c.live.inside.line; watch = c.live.inside.watch; seat = c.live.inside.seat; charter = record { rules = c.live.inside.routes.now; signer = c.live.inside.signer.now; tag = c.live.inside.tag }; reports = c.live.inside.reports } in
    let s = c.args.self in
    let h : WaitingTold v s = subst (λ (x : LiveView). WaitingTold x s) (sym c.live.view_is) c.requires.told in
    let m = c.moment-now in
    let x = c.poll.new.wire in
    let t = c.poll.new.seat in
    let e = c.in-Retry.ensures in
    record { told = wait_repeated v s.poll s.wait s.again s.since.value h m.new.self m.result m.ensures.uses m.ensures.row x t c.in-Retry.repeated e }

pub returns-in-Retry : goal.returns-in-Retry
returns-in-Retry g c =
    let v : LiveView = record { wire = c.live.inside.wire; line = c.live.inside.line; watch = c.live.inside.watch; seat = c.live.inside.seat; charter = record { rules = c.live.inside.routes.now; signer = c.live.inside.signer.now; tag = c.live.inside.tag }; reports = c.live.inside.reports } in
    let s = c.args.self in
    let h : WaitingTold v s = subst (λ (x : LiveView). WaitingTold x s) (sym c.live.view_is) c.requires.told in
    let m = c.moment-now in
    let x = c.poll.new.wire in
    let t = c.poll.new.seat in
    let e = c.in-Retry.ensures in
    record { leads = held_live v c.args.live.now _ 4 _ c.live.view_is (held_from v (with_held v x m.new.self t v.reports) _ 4 4 _ (wait_went v s.poll s.wait s.again s.since.value h m.new.self m.result m.ensures.uses m.ensures.row x t (polled.Retry c.in-Retry.repeated) e) refl (omega arith) c.repeat.ensures.leads); timed = onward_poll s _ c.repeat.ensures.on }

pub stop-requires : goal.stop-requires
stop-requires g c =
    let v : LiveView = record { wire = c.live.inside.wire; line = c.live.inside.line; watch = c.live.inside.watch; seat = c.live.inside.seat; charter = record { rules = c.live.inside.routes.now; signer = c.live.inside.signer.now; tag = c.live.inside.tag }; reports = c.live.inside.reports } in
    let s = c.args.self in
    let h : WaitingTold v s = subst (λ (x : LiveView). WaitingTold x s) (sym c.live.view_is) c.requires.told in
    let m = c.moment-now in
    let x = c.poll.new.wire in
    let t = c.poll.new.seat in
    let e = c.in-Overflow.ensures in
    record { told = wait_overflowed v s.poll s.wait s.again s.since.value h m.new.self m.result m.ensures.uses m.ensures.row x t c.in-Overflow.hold e }

pub returns-in-Overflow : goal.returns-in-Overflow
returns-in-Overflow g c =
    let v : LiveView = record { wire = c.live.inside.wire; line = c.live.inside.line; watch = c.live.inside.watch; seat = c.live.inside.seat; charter = record { rules = c.live.inside.routes.now; signer = c.live.inside.signer.now; tag = c.live.inside.tag }; reports = c.live.inside.reports } in
    let s = c.args.self in
    let h : WaitingTold v s = subst (λ (x : LiveView). WaitingTold x s) (sym c.live.view_is) c.requires.told in
    let m = c.moment-now in
    let x = c.poll.new.wire in
    let t = c.poll.new.seat in
    let e = c.in-Overflow.ensures in
    record { leads = held_live v c.args.live.now _ 4 _ c.live.view_is (held_from v (with_held v x m.new.self t v.reports) _ 4 4 _ (wait_went v s.poll s.wait s.again s.since.value h m.new.self m.result m.ensures.uses m.ensures.row x t (polled.Overflow c.in-Overflow.hold) e) refl (omega arith) c.stop.ensures.leads); timed = onward_poll s _ c.stop.ensures.on }

pub returns-in-Gone : goal.returns-in-Gone
returns-in-Gone g c =
    let v : LiveView = record { wire = c.live.inside.wire; line = c.live.inside.line; watch = c.live.inside.watch; seat = c.live.inside.seat; charter = record { rules = c.live.inside.routes.now; signer = c.live.inside.signer.now; tag = c.live.inside.tag }; reports = c.live.inside.reports } in
    let s = c.args.self in
    let h : WaitingTold v s = subst (λ (x : LiveView). WaitingTold x s) (sym c.live.view_is) c.requires.told in
    let m = c.moment-now in
    let x = c.poll.new.wire in
    let t = c.poll.new.seat in
    let e = c.in-Gone.ensures in
    record { leads = held_live v c.args.live.now _ 4 _ c.live.view_is (held_is v _ 4 _ _ c.leave.ensures (wait_gone v s.poll s.wait s.again s.since.value h m.new.self m.result m.ensures.uses m.ensures.row x t c.in-Gone.hold e)); timed = onward_poll s _ (onward_is _ _ c.leave.ensures tt) }

pub stop-requires-in-Worn : goal.stop-requires-in-Worn
stop-requires-in-Worn g c =
    let v : LiveView = record { wire = c.live.inside.wire; line = c.live.inside.line; watch = c.live.inside.watch; seat = c.live.inside.seat; charter = record { rules = c.live.inside.routes.now; signer = c.live.inside.signer.now; tag = c.live.inside.tag }; reports = c.live.inside.reports } in
    let s = c.args.self in
    let h : WaitingTold v s = subst (λ (x : LiveView). WaitingTold x s) (sym c.live.view_is) c.requires.told in
    let m = c.moment-now in
    let x = c.poll.new.wire in
    let t = c.poll.new.seat in
    let e = c.in-Worn.ensures in
    record { told = wait_worn v s.poll s.wait s.again s.since.value h m.new.self m.result m.ensures.uses m.ensures.row x t c.in-Worn.hold e }

pub returns-in-Worn : goal.returns-in-Worn
returns-in-Worn g c =
    let v : LiveView = record { wire = c.live.inside.wire; line = c.live.inside.line; watch = c.live.inside.watch; seat = c.live.inside.seat; charter = record { rules = c.live.inside.routes.now; signer = c.live.inside.signer.now; tag = c.live.inside.tag }; reports = c.live.inside.reports } in
    let s = c.args.self in
    let h : WaitingTold v s = subst (λ (x : LiveView). WaitingTold x s) (sym c.live.view_is) c.requires.told in
    let m = c.moment-now in
    let x = c.poll.new.wire in
    let t = c.poll.new.seat in
    let e = c.in-Worn.ensures in
    record { leads = held_live v c.args.live.now _ 4 _ c.live.view_is (held_from v (with_held v x m.new.self t v.reports) _ 4 4 _ (wait_went v s.poll s.wait s.again s.since.value h m.new.self m.result m.ensures.uses m.ensures.row x t (polled.Worn c.in-Worn.hold) e) refl (omega arith) c.stop-in-Worn.ensures.leads); timed = onward_poll s _ c.stop-in-Worn.ensures.on }

pub returns-in-NoMemory : goal.returns-in-NoMemory
returns-in-NoMemory g c =
    let v : LiveView = record { wire = c.live.inside.wire; line = c.live.inside.line; watch = c.live.inside.watch; seat = c.live.inside.seat; charter = record { rules = c.live.inside.routes.now; signer = c.live.inside.signer.now; tag = c.live.inside.tag }; reports = c.live.inside.reports } in
    let s = c.args.self in
    let h : WaitingTold v s = subst (λ (x : LiveView). WaitingTold x s) (sym c.live.view_is) c.requires.told in
    let m = c.moment-now in
    let x = c.poll.new.wire in
    let t = c.poll.new.seat in
    let e = c.in-NoMemory.ensures in
    record { leads = held_live v c.args.live.now _ 4 _ c.live.view_is (held_is v _ 4 _ _ c.leave-in-NoMemory.ensures (wait_wants v s.poll s.wait s.again s.since.value h m.new.self m.result m.ensures.uses m.ensures.row x t c.in-NoMemory.hold e)); timed = onward_poll s _ (onward_is _ _ c.leave-in-NoMemory.ensures tt) }

pub stop-requires-in-Unput : goal.stop-requires-in-Unput
stop-requires-in-Unput g c =
    let v : LiveView = record { wire = c.live.inside.wire; line = c.live.inside.line; watch = c.live.inside.watch; seat = c.live.inside.seat; charter = record { rules = c.live.inside.routes.now; signer = c.live.inside.signer.now; tag = c.live.inside.tag }; reports = c.live.inside.reports } in
    let s = c.args.self in
    let h : WaitingTold v s = subst (λ (x : LiveView). WaitingTold x s) (sym c.live.view_is) c.requires.told in
    let m = c.moment-now in
    let x = c.poll.new.wire in
    let t = c.poll.new.seat in
    let e = c.in-Unput.ensures in
    record { told = wait_unput v s.poll s.wait s.again s.since.value h m.new.self m.result m.ensures.uses m.ensures.row x t c.in-Unput.hold c.in-Unput.cause e }

pub returns-in-Unput : goal.returns-in-Unput
returns-in-Unput g c =
    let v : LiveView = record { wire = c.live.inside.wire; line = c.live.inside.line; watch = c.live.inside.watch; seat = c.live.inside.seat; charter = record { rules = c.live.inside.routes.now; signer = c.live.inside.signer.now; tag = c.live.inside.tag }; reports = c.live.inside.reports } in
    let s = c.args.self in
    let h : WaitingTold v s = subst (λ (x : LiveView). WaitingTold x s) (sym c.live.view_is) c.requires.told in
    let m = c.moment-now in
    let x = c.poll.new.wire in
    let t = c.poll.new.seat in
    let e = c.in-Unput.ensures in
    record { leads = held_live v c.args.live.now _ 4 _ c.live.view_is (held_from v (with_held v x m.new.self t v.reports) _ 4 4 _ (wait_went v s.poll s.wait s.again s.since.value h m.new.self m.result m.ensures.uses m.ensures.row x t (polled.Unput c.in-Unput.hold c.in-Unput.cause) e) refl (omega arith) c.stop-in-Unput.ensures.leads); timed = onward_poll s _ c.stop-in-Unput.ensures.on }
