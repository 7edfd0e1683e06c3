use Rattle.std.proofs.Common.{refl, subst}
use Rattle.gp_session.specs.Seats.{SeatView, MovedSeat, SeatRow, PublishedTo}
use Rattle.gp_session.proofs.Publishing.{moved_by, row_by, published_by}
use Rattle.gp_session.proofs.seat.Seat.publish.Goals as goal

pub returns-clause-moved : goal.returns-clause-moved
returns-clause-moved c =
    let s : SeatView = record { start = c.self.inside.start.value; pass = c.self.inside.pass } in
    let t : SeatView = record { start = c.self.inside.start.value; pass = c.call.new.pass } in
    let e = c.call.ensures in
    subst (λ (x : SeatView). MovedSeat x t) c.self.view_is (moved_by s t c.args.item refl e.same e.looks c.call.result (e.ok, e.err, e.cause))

pub returns-clause-row : goal.returns-clause-row
returns-clause-row c =
    let s : SeatView = record { start = c.self.inside.start.value; pass = c.self.inside.pass } in
    let t : SeatView = record { start = c.self.inside.start.value; pass = c.call.new.pass } in
    let e = c.call.ensures in
    subst (λ (x : SeatView). SeatRow x → SeatRow t) c.self.view_is (row_by s t c.args.item refl e.same e.looks c.call.result (e.ok, e.err, e.cause))

pub returns-clause-published : goal.returns-clause-published
returns-clause-published c =
    let s : SeatView = record { start = c.self.inside.start.value; pass = c.self.inside.pass } in
    let t : SeatView = record { start = c.self.inside.start.value; pass = c.call.new.pass } in
    let e = c.call.ensures in
    subst (λ (x : SeatView). PublishedTo x t c.args.item c.answered.result) c.self.view_is
    (published_by s t c.args.item refl e.same e.looks c.call.result c.answered.result (e.ok, e.err, e.cause) c.answered.ensures)
