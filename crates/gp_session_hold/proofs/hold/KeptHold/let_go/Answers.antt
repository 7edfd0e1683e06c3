use Rattle.std.proofs.Common.{ℕ, subst}
use Rattle.gp_session.specs.Holding.{LetsGo}
use Rattle.gp_session_hold.proofs.Parting.{leaves_by, holds_by, entries_by, attaches_by}
use Rattle.gp_session_hold.proofs.hold.KeptHold.let_go.Goals as goal

pub returns-clause-leaves : goal.returns-clause-leaves
returns-clause-leaves c = λ share k.
    leaves_by c.args.seat.now c.detach.new.self c.detach.ensures.moved.same.number c.args.self.now c.detach.result share
    (subst (λ (n : ℕ). LetsGo c.args.seat.now c.detach.new.self n c.detach.result) c.number.ensures c.detach.ensures.gone) k

pub returns-clause-holds : goal.returns-clause-holds
returns-clause-holds c = λ reports row.
    holds_by c.args.seat.now c.detach.new.self c.detach.ensures.moved.same.number c.args.self.now c.detach.result reports
    (subst (λ (n : ℕ). LetsGo c.args.seat.now c.detach.new.self n c.detach.result) c.number.ensures c.detach.ensures.gone) row

pub returns-clause-entries : goal.returns-clause-entries
returns-clause-entries c =
    entries_by c.args.seat.now c.detach.new.self c.detach.ensures.moved.same.number c.args.self.now c.detach.result c.requires.0
    (subst (λ (n : ℕ). LetsGo c.args.seat.now c.detach.new.self n c.detach.result) c.number.ensures c.detach.ensures.gone) c.requires.1

pub returns-clause-attaches : goal.returns-clause-attaches
returns-clause-attaches c = λ specs refused row.
    attaches_by c.args.seat.now c.detach.new.self c.detach.ensures.moved.same.number c.args.self.now c.detach.result specs refused
    (subst (λ (n : ℕ). LetsGo c.args.seat.now c.detach.new.self n c.detach.result) c.number.ensures c.detach.ensures.gone) row
