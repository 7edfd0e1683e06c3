use Rattle.std.proofs.Common.{refl, subst}
use Rattle.gp_session.specs.Seats.{SeatView, MovedSeat, SeatRow}
use Rattle.gp_session.specs.Holding.{TookFrom, took_by}
use Rattle.gp_session.proofs.Keeping.{take_moved, take_row, take_says}
use Rattle.gp_session.proofs.seat.Seat.take.Goals as goal

pub returns-clause-moved : goal.returns-clause-moved
returns-clause-moved c =
    let s : SeatView = record { start = c.self.inside.start.value; pass = c.self.inside.pass } in
    let t : SeatView = record { start = c.self.inside.start.value; pass = c.take.new.pass } in
    let e = c.take.ensures in
    subst (λ (x : SeatView). MovedSeat x t) c.self.view_is (take_moved s t refl e.same e.looks c.args.hold c.args.now c.take.result (e.ok, e.err, e.cause))

pub returns-clause-row : goal.returns-clause-row
returns-clause-row c =
    let s : SeatView = record { start = c.self.inside.start.value; pass = c.self.inside.pass } in
    let t : SeatView = record { start = c.self.inside.start.value; pass = c.take.new.pass } in
    let e = c.take.ensures in
    subst (λ (x : SeatView). SeatRow x → SeatRow t) c.self.view_is (take_row s t refl e.same e.looks c.args.hold c.args.now c.take.result (e.ok, e.err, e.cause))

pub returns-clause-took : goal.returns-clause-took
returns-clause-took c =
    let s : SeatView = record { start = c.self.inside.start.value; pass = c.self.inside.pass } in
    let t : SeatView = record { start = c.self.inside.start.value; pass = c.take.new.pass } in
    let e = c.take.ensures in
    rw c.take_answer.ensures (subst (λ (x : SeatView). TookFrom x t c.args.hold c.args.now (took_by c.take.result)) c.self.view_is (take_says s t refl e.same e.looks c.args.hold c.args.now c.take.result (e.ok, e.err, e.cause)))
