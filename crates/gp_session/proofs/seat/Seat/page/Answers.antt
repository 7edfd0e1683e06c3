use Rattle.std.proofs.Common.{refl, subst}
use Rattle.gp_session.specs.Seats.{SeatView, MovedSeat, SeatRow}
use Rattle.gp_session.specs.Paging.{PagesTo, paged_by}
use Rattle.gp_session.proofs.Pages.{page_handed_back, page_moved, page_row, page_says}
use Rattle.gp_session.proofs.seat.Seat.page.Goals as goal

pub page_answer-requires : goal.page_answer-requires
page_answer-requires c = (c.args.hold, c.args.page, page_handed_back c.args.hold c.args.page c.page.new.pass.found c.page.result c.page.ensures.cause)

pub returns-clause-moved : goal.returns-clause-moved
returns-clause-moved c =
    let s : SeatView = record { start = c.self.inside.start.value; pass = c.self.inside.pass } in
    let t : SeatView = record { start = c.self.inside.start.value; pass = c.page.new.pass } in
    let e = c.page.ensures in
    subst (λ (x : SeatView). MovedSeat x t) c.self.view_is (page_moved s t refl e.same e.looks c.args.hold c.args.page c.page.result (e.ok, e.err, e.cause))

pub returns-clause-row : goal.returns-clause-row
returns-clause-row c =
    let s : SeatView = record { start = c.self.inside.start.value; pass = c.self.inside.pass } in
    let t : SeatView = record { start = c.self.inside.start.value; pass = c.page.new.pass } in
    let e = c.page.ensures in
    subst (λ (x : SeatView). SeatRow x → SeatRow t) c.self.view_is (page_row s t refl e.same e.looks c.args.hold c.args.page c.page.result (e.ok, e.err, e.cause))

pub returns-clause-paged : goal.returns-clause-paged
returns-clause-paged c =
    let s : SeatView = record { start = c.self.inside.start.value; pass = c.self.inside.pass } in
    let t : SeatView = record { start = c.self.inside.start.value; pass = c.page.new.pass } in
    let e = c.page.ensures in
    let back = page_handed_back c.args.hold c.args.page c.page.new.pass.found c.page.result e.cause in
    rw (c.page_answer.ensures c.args.hold c.args.page back) (subst (λ (x : SeatView). PagesTo x t c.args.hold c.args.page (paged_by c.args.page c.page.result)) c.self.view_is (page_says s t refl e.same e.looks c.args.hold c.args.page c.page.result (e.ok, e.err, e.cause)))
