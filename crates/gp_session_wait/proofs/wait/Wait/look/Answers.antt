use Rattle.std.proofs.Common.{sym, subst}
use Rattle.gp_session_wait.specs.Views.{WaitView}
use Rattle.gp_session_wait.specs.Waits.{Waits, Looks}
use Rattle.gp_session_hold.specs.Rows.{KeptView}
use Rattle.gp_session_wait.specs.declared.wait.Polled.TheVariants as polled
use Rattle.gp_session_wait.proofs.Looking.{behind, looked_busy, looked_end, looked_idle, looked_sixteen, looked_wanting, looked_worn}
use Rattle.gp_session_wait.proofs.wait.Wait.look.Goals as goal

pub returns-in-Ended : goal.returns-in-Ended
returns-in-Ended g c =
    let i = c.self.inside in
    let v : WaitView = record { hold = i.poll.hold; spec = i.poll.spec; own = i.own; channel = i.channel; repeats = i.repeats } in
    let waits : Waits v c.args.wire.now c.args.seat.now = subst (λ (u : WaitView). Waits u c.args.wire.now c.args.seat.now) (sym c.self.view_is) c.requires in
    subst (λ (u : WaitView). Looks u c.args.wire.now c.end.new.wire c.args.seat.now c.seek.new.seat c.args.now c.end.result) c.self.view_is
    (looked_end v c.seek.new.self c.args.wire.now c.end.new.wire c.args.seat.now c.seek.new.seat c.args.now waits c.in-Ended.end c.end.result c.in-Ended.ensures c.end.ensures)

pub returns-in-Idle : goal.returns-in-Idle
returns-in-Idle g c =
    let i = c.self.inside in
    let v : WaitView = record { hold = i.poll.hold; spec = i.poll.spec; own = i.own; channel = i.channel; repeats = i.repeats } in
    let waits : Waits v c.args.wire.now c.args.seat.now = subst (λ (u : WaitView). Waits u c.args.wire.now c.args.seat.now) (sym c.self.view_is) c.requires in
    subst (λ (u : WaitView). Looks u c.args.wire.now c.args.wire.now c.args.seat.now c.seek.new.seat c.args.now (polled.Waits (behind v c.seek.new.self))) c.self.view_is
    (looked_idle v c.seek.new.self c.args.wire.now c.args.seat.now c.seek.new.seat c.args.now waits c.in-Idle.ensures)

pub returns-in-Sixteen : goal.returns-in-Sixteen
returns-in-Sixteen g c =
    let i = c.self.inside in
    let v : WaitView = record { hold = i.poll.hold; spec = i.poll.spec; own = i.own; channel = i.channel; repeats = i.repeats } in
    let waits : Waits v c.args.wire.now c.args.seat.now = subst (λ (u : WaitView). Waits u c.args.wire.now c.args.seat.now) (sym c.self.view_is) c.requires in
    subst (λ (u : WaitView). Looks u c.args.wire.now c.args.wire.now c.args.seat.now c.seek.new.seat c.args.now (polled.Waits (behind v c.seek.new.self))) c.self.view_is
    (looked_sixteen v c.seek.new.self c.args.wire.now c.args.seat.now c.seek.new.seat c.args.now waits c.in-Sixteen.ensures)

pub returns-in-Busy : goal.returns-in-Busy
returns-in-Busy g c =
    let i = c.self.inside in
    let v : WaitView = record { hold = i.poll.hold; spec = i.poll.spec; own = i.own; channel = i.channel; repeats = i.repeats } in
    let waits : Waits v c.args.wire.now c.args.seat.now = subst (λ (u : WaitView). Waits u c.args.wire.now c.args.seat.now) (sym c.self.view_is) c.requires in
    subst (λ (u : WaitView). Looks u c.args.wire.now c.args.wire.now c.args.seat.now c.seek.new.seat c.args.now (polled.Waits (behind v c.seek.new.self))) c.self.view_is
    (looked_busy v c.seek.new.self c.args.wire.now c.args.seat.now c.seek.new.seat c.args.now waits c.in-Busy.ensures)

pub returns-in-Worn : goal.returns-in-Worn
returns-in-Worn g c =
    let i = c.self.inside in
    let v : WaitView = record { hold = i.poll.hold; spec = i.poll.spec; own = i.own; channel = i.channel; repeats = i.repeats } in
    let waits : Waits v c.args.wire.now c.args.seat.now = subst (λ (u : WaitView). Waits u c.args.wire.now c.args.seat.now) (sym c.self.view_is) c.requires in
    subst (λ (k : KeptView). Looks c.args.self c.args.wire.now c.args.wire.now c.args.seat.now c.seek.new.seat c.args.now (polled.Worn k)) (sym c.into_hold.ensures)
    (subst (λ (u : WaitView). Looks u c.args.wire.now c.args.wire.now c.args.seat.now c.seek.new.seat c.args.now (polled.Worn c.seek.new.self.hold)) c.self.view_is
    (looked_worn v c.seek.new.self c.args.wire.now c.args.seat.now c.seek.new.seat c.args.now waits c.in-Worn.ensures))

pub returns-in-NoMemory : goal.returns-in-NoMemory
returns-in-NoMemory g c =
    let i = c.self.inside in
    let v : WaitView = record { hold = i.poll.hold; spec = i.poll.spec; own = i.own; channel = i.channel; repeats = i.repeats } in
    let waits : Waits v c.args.wire.now c.args.seat.now = subst (λ (u : WaitView). Waits u c.args.wire.now c.args.seat.now) (sym c.self.view_is) c.requires in
    subst (λ (k : KeptView). Looks c.args.self c.args.wire.now c.args.wire.now c.args.seat.now c.seek.new.seat c.args.now (polled.NoMemory k)) (sym c.into_hold-in-NoMemory.ensures)
    (subst (λ (u : WaitView). Looks u c.args.wire.now c.args.wire.now c.args.seat.now c.seek.new.seat c.args.now (polled.NoMemory c.seek.new.self.hold)) c.self.view_is
    (looked_wanting v c.seek.new.self c.args.wire.now c.args.seat.now c.seek.new.seat c.args.now waits c.in-NoMemory.ensures))
