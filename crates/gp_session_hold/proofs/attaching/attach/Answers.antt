use Rattle.std.proofs.Common.{subst, sym}
use Rattle.gp_session_hold.specs.Opens.{OpensTo}
use Rattle.gp_session_hold.proofs.Opening.{opens_by, entries_by}
use Rattle.gp_session_hold.proofs.attaching.attach.Goals as goal

pub returns-clause-opens : goal.returns-clause-opens
returns-clause-opens c =
    subst (OpensTo c.args.seat.now c.attach.new.self c.args.spec c.prepared.new.reports.spare) (sym c.opened_of.ensures)
    (opens_by c.args.seat.now c.attach.new.self c.attach.ensures.moved.same.number c.args.spec c.in-Ok.tally c.in-Ok.ensures.ready.0 c.prepared.new.reports.spare c.attach.result
    c.in-Ok.ensures.ready.1 c.attach.ensures.attached)

pub returns-clause-entries : goal.returns-clause-entries
returns-clause-entries c = entries_by c.args.seat.now c.attach.new.self c.attach.ensures.moved.same.number c.args.spec c.in-Ok.tally c.in-Ok.ensures.ready.0 c.attach.result c.attach.ensures.attached
