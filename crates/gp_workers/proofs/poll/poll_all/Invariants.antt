use Rattle.std.proofs.Common.{◌-◌, length}
use Rattle.gp_workers.specs.Books.{Books, books}
use Rattle.gp_workers.specs.Works.{Stands, Works}
use Rattle.gp_workers.proofs.poll.poll_all.Given as goal

abbrev pub invariant-loop-place : goal.invariant-loop-place
invariant-loop-place g l =
    let told = books g.M.Kit.Kit.parts g.M.Kit.Listen.Listen.tells in
    let means = g.M.Maker.means l.crew.maker.now in
    Stands g.S.Session.ended g.S.Session.may_give means l.crew.hub.now l.crew.claims.now (told l.worker) l.running.items
    × ((start : Books _ _ _) → Works means l.crew.hub.now l.crew.limit start (told l.initial.worker) l.initial.running.items → Works means l.crew.hub.now l.crew.limit start (told l.worker) l.running.items)

abbrev pub decreases-loop-place : goal.decreases-loop-place
decreases-loop-place g l = length l.running.items - l.place
