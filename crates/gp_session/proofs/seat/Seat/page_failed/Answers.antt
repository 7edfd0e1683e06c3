use Rattle.std.proofs.Common.{refl, subst}
use Rattle.gp_session.specs.Seats.{SeatView, MovedSeat, SeatRow}
use Rattle.gp_session.specs.Paging.{FailsTo}
use Rattle.gp_session.proofs.Pages.{failure_wants_none, failure_moved, failure_row, failure_says}
use Rattle.gp_session.proofs.seat.Seat.page_failed.Goals as goal

pub failed_answer-requires : goal.failed_answer-requires
failed_answer-requires c = failure_wants_none c.args.hold c.page_failed.new.pass.found c.page_failed.result c.page_failed.ensures.cause

pub returns-clause-moved : goal.returns-clause-moved
returns-clause-moved c =
    let s : SeatView = record { start = c.self.inside.start.value; pass = c.self.inside.pass } in
    let t : SeatView = record { start = c.self.inside.start.value; pass = c.page_failed.new.pass } in
    let e = c.page_failed.ensures in
    subst (λ (x : SeatView). MovedSeat x t) c.self.view_is (failure_moved s t refl e.same e.looks c.args.hold c.page_failed.result (e.ok, e.err, e.cause))

pub returns-clause-row : goal.returns-clause-row
returns-clause-row c =
    let s : SeatView = record { start = c.self.inside.start.value; pass = c.self.inside.pass } in
    let t : SeatView = record { start = c.self.inside.start.value; pass = c.page_failed.new.pass } in
    let e = c.page_failed.ensures in
    subst (λ (x : SeatView). SeatRow x → SeatRow t) c.self.view_is (failure_row s t refl e.same e.looks c.args.hold c.page_failed.result (e.ok, e.err, e.cause))

pub returns-clause-failed : goal.returns-clause-failed
returns-clause-failed c =
    let s : SeatView = record { start = c.self.inside.start.value; pass = c.self.inside.pass } in
    let t : SeatView = record { start = c.self.inside.start.value; pass = c.page_failed.new.pass } in
    let e = c.page_failed.ensures in
    subst (λ (x : SeatView). FailsTo x t c.args.hold c.failed_answer.result) c.self.view_is (failure_says s t refl e.same e.looks c.args.hold c.page_failed.result c.failed_answer.result (e.ok, e.err, e.cause) c.failed_answer.ensures)
