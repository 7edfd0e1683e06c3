use Rattle.std.proofs.Common.{refl, subst}
use Rattle.gp_session.specs.Seats.{SeatView, MovedSeat, SeatRow}
use Rattle.gp_session.specs.Holding.{LetsGo}
use Rattle.gp_session.proofs.Keeping.{wants_none, detach_moved, detach_row, detach_says}
use Rattle.gp_session.proofs.seat.Seat.detach.Goals as goal

pub detach_answer-requires : goal.detach_answer-requires
detach_answer-requires c = wants_none c.args.hold c.detach.new.pass.found c.detach.result c.detach.ensures.cause

pub returns-clause-moved : goal.returns-clause-moved
returns-clause-moved c =
    let s : SeatView = record { start = c.self.inside.start.value; pass = c.self.inside.pass } in
    let t : SeatView = record { start = c.self.inside.start.value; pass = c.detach.new.pass } in
    let e = c.detach.ensures in
    subst (λ (x : SeatView). MovedSeat x t) c.self.view_is (detach_moved s t refl e.same e.looks c.args.hold c.detach.result (e.ok, e.err, e.cause))

pub returns-clause-row : goal.returns-clause-row
returns-clause-row c =
    let s : SeatView = record { start = c.self.inside.start.value; pass = c.self.inside.pass } in
    let t : SeatView = record { start = c.self.inside.start.value; pass = c.detach.new.pass } in
    let e = c.detach.ensures in
    subst (λ (x : SeatView). SeatRow x → SeatRow t) c.self.view_is (detach_row s t refl e.same e.looks c.args.hold c.detach.result (e.ok, e.err, e.cause))

pub returns-clause-gone : goal.returns-clause-gone
returns-clause-gone c =
    let s : SeatView = record { start = c.self.inside.start.value; pass = c.self.inside.pass } in
    let t : SeatView = record { start = c.self.inside.start.value; pass = c.detach.new.pass } in
    let e = c.detach.ensures in
    subst (λ (x : SeatView). LetsGo x t c.args.hold c.detach_answer.result) c.self.view_is (detach_says s t refl e.same e.looks c.args.hold c.detach.result c.detach_answer.result (e.ok, e.err, e.cause) c.detach_answer.ensures)
