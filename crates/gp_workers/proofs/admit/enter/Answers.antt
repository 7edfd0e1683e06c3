use Rattle.std.proofs.Common.{rules, arith}
use Rattle.gp_workers.specs.Books.{books}
use Rattle.gp_workers.specs.Visits.{ended_by, gives_by}
use Rattle.gp_workers.proofs.Entering.{begun_stands, begun_works}
use Rattle.gp_workers.proofs.admit.enter.Goals as goal

-- src/admit.rt:54:1
pub returns-then-claim-crew-clause-stands : goal.returns-then-claim-crew-clause-stands
returns-then-claim-crew-clause-stands g c =
    let stands = c.requires.stands in
    let before = stands.spare in let rise = stands.rise in let next = c.requires.next in
    begun_stands (λ v. ended_by g.M.Client.Session.ended g.M.Publisher.Session.ended v.visit) (λ v. gives_by g.M.Client.Session.may_give g.M.Publisher.Session.may_give v.visit) (g.M.Maker.means c.args.crew.now.maker.now) c.args.crew.now.hub.now c.args.crew.now.claims.now c.args.crew.now.limit
    (books g.M.Kit.Kit.parts g.M.Kit.Listen.Listen.tells c.args.worker.now) (books g.M.Kit.Kit.parts g.M.Kit.Listen.Listen.tells c.begin.new.worker) c.take-claim.new.by
    c.args.running.now.items c.begin.new.running.items c.take-claim.result
    (search rules) (search rules) (search rules) (omega arith) c.begin.ensures stands

-- src/admit.rt:54:1
pub returns-then-claim-crew-clause-works : goal.returns-then-claim-crew-clause-works
returns-then-claim-crew-clause-works g c start w =
    let stands = c.requires.stands in
    let before = stands.spare in let rise = stands.rise in let next = c.requires.next in let enough = stands.enough in
    begun_works (λ v. ended_by g.M.Client.Session.ended g.M.Publisher.Session.ended v.visit) (λ v. gives_by g.M.Client.Session.may_give g.M.Publisher.Session.may_give v.visit) (g.M.Maker.means c.args.crew.now.maker.now) c.args.crew.now.hub.now c.args.crew.now.claims.now c.args.crew.now.limit
    start (books g.M.Kit.Kit.parts g.M.Kit.Listen.Listen.tells c.args.worker.now) (books g.M.Kit.Kit.parts g.M.Kit.Listen.Listen.tells c.begin.new.worker) c.take-claim.new.by
    c.args.running.now.items c.begin.new.running.items c.take-claim.result
    (search rules) (omega arith) enough c.requires.memory c.begin.ensures w
