use Rattle.std.proofs.Common.{subst, sym}
use Rattle.gp_session_recover.specs.Polls.{TurnsAs}
use Rattle.gp_session_recover.specs.Rows.{IsReady, RecoveringView, sides}
use Rattle.gp_session_recover.specs.declared.turning.Stepped.TheVariants as stepped
use Rattle.gp_session_recover.proofs.Stepped.{asks_alone, asks_someone, turned_busy, turned_ended, turned_gave, turned_gone, turned_idle, turned_missing, turned_unput, turned_unsent, turned_wanting, turned_worn}
use Rattle.gp_session_recover.proofs.recovering.Recovering.turn.Goals as goal

pub ask-requires-clause-some : goal.ask-requires-clause-some
ask-requires-clause-some g c =
    asks_someone c.args.signer.now c.args.now c.self.inside.stream c.turn.new.self c.self.inside.again c.self.inside.talk c.args.wire.now c.turn.new.wire c.args.line.now c.args.seat.now c.turn.new.seat c.in-Missing.from
    (subst (λ (v : RecoveringView). IsReady c.args.signer.now (sides v c.args.wire.now c.args.line.now c.args.seat.now)) (sym c.self.view_is) c.requires) c.in-Missing.ensures

pub ask-requires-clause-none : goal.ask-requires-clause-none
ask-requires-clause-none g c =
    asks_alone c.args.signer.now c.args.now c.self.inside.stream c.turn.new.self c.self.inside.again c.self.inside.talk c.args.wire.now c.turn.new.wire c.args.line.now c.args.seat.now c.turn.new.seat c.in-Missing.from
    (subst (λ (v : RecoveringView). IsReady c.args.signer.now (sides v c.args.wire.now c.args.line.now c.args.seat.now)) (sym c.self.view_is) c.requires) c.in-Missing.ensures

pub returns-in-Missing : goal.returns-in-Missing
returns-in-Missing g c =
    subst (λ (v : RecoveringView). TurnsAs c.args.signer.now c.args.now (sides v c.args.wire.now c.args.line.now c.args.seat.now) (sides c.ask.new.self c.turn.new.wire c.ask.new.line c.turn.new.seat) c.ask.result) c.self.view_is
    (turned_missing c.args.signer.now c.args.now c.self.inside.stream c.turn.new.self c.self.inside.again c.self.inside.talk c.args.wire.now c.turn.new.wire c.args.line.now c.args.seat.now c.turn.new.seat c.in-Missing.from
    (subst (λ (v : RecoveringView). IsReady c.args.signer.now (sides v c.args.wire.now c.args.line.now c.args.seat.now)) (sym c.self.view_is) c.requires) c.in-Missing.ensures c.ask.new.self c.ask.new.line c.ask.result c.ask.ensures)

pub returns-in-Gave : goal.returns-in-Gave
returns-in-Gave g c =
    subst (λ (v : RecoveringView). TurnsAs c.args.signer.now c.args.now (sides v c.args.wire.now c.args.line.now c.args.seat.now) (sides (record { stream = c.turn.new.self; again = c.self.inside.again; talk = c.self.inside.talk }) c.turn.new.wire c.args.line.now c.turn.new.seat) stepped.More) c.self.view_is
    (turned_gave c.args.signer.now c.args.now c.self.inside.stream c.turn.new.self c.self.inside.again c.self.inside.talk c.args.wire.now c.turn.new.wire c.args.line.now c.args.seat.now c.turn.new.seat c.in-Gave.ensures)

pub returns-in-Idle : goal.returns-in-Idle
returns-in-Idle g c =
    subst (λ (v : RecoveringView). TurnsAs c.args.signer.now c.args.now (sides v c.args.wire.now c.args.line.now c.args.seat.now) (sides (record { stream = c.turn.new.self; again = c.self.inside.again; talk = c.self.inside.talk }) c.turn.new.wire c.args.line.now c.turn.new.seat) stepped.Idle) c.self.view_is
    (turned_idle c.args.signer.now c.args.now c.self.inside.stream c.turn.new.self c.self.inside.again c.self.inside.talk c.args.wire.now c.turn.new.wire c.args.line.now c.args.seat.now c.turn.new.seat c.in-Idle.ensures)

pub returns-in-Unsent : goal.returns-in-Unsent
returns-in-Unsent g c =
    subst (λ (v : RecoveringView). TurnsAs c.args.signer.now c.args.now (sides v c.args.wire.now c.args.line.now c.args.seat.now) (sides (record { stream = c.turn.new.self; again = c.self.inside.again; talk = c.self.inside.talk }) c.turn.new.wire c.args.line.now c.turn.new.seat) stepped.Unsent) c.self.view_is
    (turned_unsent c.args.signer.now c.args.now c.self.inside.stream c.turn.new.self c.self.inside.again c.self.inside.talk c.args.wire.now c.turn.new.wire c.args.line.now c.args.seat.now c.turn.new.seat c.in-Unsent.ensures)

pub returns-in-Busy : goal.returns-in-Busy
returns-in-Busy g c =
    subst (λ (v : RecoveringView). TurnsAs c.args.signer.now c.args.now (sides v c.args.wire.now c.args.line.now c.args.seat.now) (sides (record { stream = c.turn.new.self; again = c.self.inside.again; talk = c.self.inside.talk }) c.turn.new.wire c.args.line.now c.turn.new.seat) stepped.Busy) c.self.view_is
    (turned_busy c.args.signer.now c.args.now c.self.inside.stream c.turn.new.self c.self.inside.again c.self.inside.talk c.args.wire.now c.turn.new.wire c.args.line.now c.args.seat.now c.turn.new.seat c.in-Busy.ensures)

pub returns-in-Ended : goal.returns-in-Ended
returns-in-Ended g c =
    subst (λ (v : RecoveringView). TurnsAs c.args.signer.now c.args.now (sides v c.args.wire.now c.args.line.now c.args.seat.now) (sides c.end.new.self c.turn.new.wire c.end.new.line c.turn.new.seat) c.end.result) c.self.view_is
    (subst (TurnsAs c.args.signer.now c.args.now (sides (record { stream = c.self.inside.stream; again = c.self.inside.again; talk = c.self.inside.talk }) c.args.wire.now c.args.line.now c.args.seat.now) (sides c.end.new.self c.turn.new.wire c.end.new.line c.turn.new.seat)) (sym c.end.ensures.is)
    (turned_ended c.args.signer.now c.args.now c.self.inside.stream c.turn.new.self c.self.inside.again c.self.inside.talk c.args.wire.now c.turn.new.wire c.args.line.now c.args.seat.now c.turn.new.seat c.end.new.self c.end.new.line c.end.ensures.closes c.in-Ended.cause c.in-Ended.ensures))

pub returns-in-Gone : goal.returns-in-Gone
returns-in-Gone g c =
    subst (λ (v : RecoveringView). TurnsAs c.args.signer.now c.args.now (sides v c.args.wire.now c.args.line.now c.args.seat.now) (sides c.end-in-Gone.new.self c.turn.new.wire c.end-in-Gone.new.line c.turn.new.seat) c.end-in-Gone.result) c.self.view_is
    (subst (TurnsAs c.args.signer.now c.args.now (sides (record { stream = c.self.inside.stream; again = c.self.inside.again; talk = c.self.inside.talk }) c.args.wire.now c.args.line.now c.args.seat.now) (sides c.end-in-Gone.new.self c.turn.new.wire c.end-in-Gone.new.line c.turn.new.seat)) (sym c.end-in-Gone.ensures.is)
    (turned_gone c.args.signer.now c.args.now c.self.inside.stream c.turn.new.self c.self.inside.again c.self.inside.talk c.args.wire.now c.turn.new.wire c.args.line.now c.args.seat.now c.turn.new.seat c.end-in-Gone.new.self c.end-in-Gone.new.line c.end-in-Gone.ensures.closes c.in-Gone.ensures))

pub returns-in-Worn : goal.returns-in-Worn
returns-in-Worn g c =
    subst (λ (v : RecoveringView). TurnsAs c.args.signer.now c.args.now (sides v c.args.wire.now c.args.line.now c.args.seat.now) (sides c.end-in-Worn.new.self c.turn.new.wire c.end-in-Worn.new.line c.turn.new.seat) c.end-in-Worn.result) c.self.view_is
    (subst (TurnsAs c.args.signer.now c.args.now (sides (record { stream = c.self.inside.stream; again = c.self.inside.again; talk = c.self.inside.talk }) c.args.wire.now c.args.line.now c.args.seat.now) (sides c.end-in-Worn.new.self c.turn.new.wire c.end-in-Worn.new.line c.turn.new.seat)) (sym c.end-in-Worn.ensures.is)
    (turned_worn c.args.signer.now c.args.now c.self.inside.stream c.turn.new.self c.self.inside.again c.self.inside.talk c.args.wire.now c.turn.new.wire c.args.line.now c.args.seat.now c.turn.new.seat c.end-in-Worn.new.self c.end-in-Worn.new.line c.end-in-Worn.ensures.closes c.in-Worn.ensures))

pub returns-in-NoMemory : goal.returns-in-NoMemory
returns-in-NoMemory g c =
    subst (λ (v : RecoveringView). TurnsAs c.args.signer.now c.args.now (sides v c.args.wire.now c.args.line.now c.args.seat.now) (sides c.end-in-NoMemory.new.self c.turn.new.wire c.end-in-NoMemory.new.line c.turn.new.seat) c.end-in-NoMemory.result) c.self.view_is
    (subst (TurnsAs c.args.signer.now c.args.now (sides (record { stream = c.self.inside.stream; again = c.self.inside.again; talk = c.self.inside.talk }) c.args.wire.now c.args.line.now c.args.seat.now) (sides c.end-in-NoMemory.new.self c.turn.new.wire c.end-in-NoMemory.new.line c.turn.new.seat)) (sym c.end-in-NoMemory.ensures.is)
    (turned_wanting c.args.signer.now c.args.now c.self.inside.stream c.turn.new.self c.self.inside.again c.self.inside.talk c.args.wire.now c.turn.new.wire c.args.line.now c.args.seat.now c.turn.new.seat c.end-in-NoMemory.new.self c.end-in-NoMemory.new.line c.end-in-NoMemory.ensures.closes c.in-NoMemory.ensures))

pub returns-in-Unput : goal.returns-in-Unput
returns-in-Unput g c =
    subst (λ (v : RecoveringView). TurnsAs c.args.signer.now c.args.now (sides v c.args.wire.now c.args.line.now c.args.seat.now) (sides c.end-in-Unput.new.self c.turn.new.wire c.end-in-Unput.new.line c.turn.new.seat) c.end-in-Unput.result) c.self.view_is
    (subst (TurnsAs c.args.signer.now c.args.now (sides (record { stream = c.self.inside.stream; again = c.self.inside.again; talk = c.self.inside.talk }) c.args.wire.now c.args.line.now c.args.seat.now) (sides c.end-in-Unput.new.self c.turn.new.wire c.end-in-Unput.new.line c.turn.new.seat)) (sym c.end-in-Unput.ensures.is)
    (turned_unput c.args.signer.now c.args.now c.self.inside.stream c.turn.new.self c.self.inside.again c.self.inside.talk c.args.wire.now c.turn.new.wire c.args.line.now c.args.seat.now c.turn.new.seat c.end-in-Unput.new.self c.end-in-Unput.new.line c.end-in-Unput.ensures.closes c.in-Unput.told c.in-Unput.ensures))
