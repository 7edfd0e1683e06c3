use Rattle.gp_workers.specs.Books.{Books, books}
use Rattle.gp_workers.specs.Visits.{ended_by, gives_by}
use Rattle.gp_workers.specs.Works.{Stands, Works}
use Rattle.gp_workers.proofs.serve.serve.Given as goal

abbrev pub invariant-loop : goal.invariant-loop
invariant-loop g l =
    let told = books g.M.Kit.Kit.parts g.M.Kit.Listen.Listen.tells in
    let means = g.M.Maker.means l.crew.maker.now in
    (goal.iterator-loop g).can_next l.iterator' × (goal.iterator-loop g).is_finite l.iterator'
    × Stands (λ v. ended_by g.M.Client.Session.ended g.M.Publisher.Session.ended v.visit) (λ v. gives_by g.M.Client.Session.may_give g.M.Publisher.Session.may_give v.visit) means l.crew.hub.now l.crew.claims.now (told l.worker) l.running.items
    × ((start : Books _ _ _) → Works means l.crew.hub.now l.crew.limit start (told l.initial.worker) l.initial.running.items → Works means l.crew.hub.now l.crew.limit start (told l.worker) l.running.items)
