use Rattle.std.proofs.Common.{refl, subst}
use Rattle.gp_session.specs.Seats.{SeatView, MovedSeat, SeatRow}
use Rattle.gp_session.specs.Holding.{AttachedTo, attached_by}
use Rattle.gp_session.proofs.Keeping.{hands_back, attach_moved, attach_row, attach_says}
use Rattle.gp_session.proofs.seat.Seat.attach.Goals as goal

pub attach_answer-requires : goal.attach_answer-requires
attach_answer-requires c = (c.args.spec, hands_back c.args.spec c.attach.new.pass.found c.attach.result c.attach.ensures.cause)

pub returns-clause-moved : goal.returns-clause-moved
returns-clause-moved c =
    let s : SeatView = record { start = c.self.inside.start.value; pass = c.self.inside.pass } in
    let t : SeatView = record { start = c.self.inside.start.value; pass = c.attach.new.pass } in
    let e = c.attach.ensures in
    subst (λ (x : SeatView). MovedSeat x t) c.self.view_is (attach_moved s t refl e.same e.looks c.args.spec c.attach.result (e.ok, e.err, e.cause))

pub returns-clause-row : goal.returns-clause-row
returns-clause-row c =
    let s : SeatView = record { start = c.self.inside.start.value; pass = c.self.inside.pass } in
    let t : SeatView = record { start = c.self.inside.start.value; pass = c.attach.new.pass } in
    let e = c.attach.ensures in
    subst (λ (x : SeatView). SeatRow x → SeatRow t) c.self.view_is (attach_row s t refl e.same e.looks c.args.spec c.attach.result (e.ok, e.err, e.cause))

pub returns-clause-attached : goal.returns-clause-attached
returns-clause-attached c =
    let s : SeatView = record { start = c.self.inside.start.value; pass = c.self.inside.pass } in
    let t : SeatView = record { start = c.self.inside.start.value; pass = c.attach.new.pass } in
    let e = c.attach.ensures in
    let back = hands_back c.args.spec c.attach.new.pass.found c.attach.result e.cause in
    rw (c.attach_answer.ensures c.args.spec back) (subst (λ (x : SeatView). AttachedTo x t c.args.spec (attached_by c.args.spec c.attach.result)) c.self.view_is (attach_says s t refl e.same e.looks c.args.spec c.attach.result (e.ok, e.err, e.cause)))
