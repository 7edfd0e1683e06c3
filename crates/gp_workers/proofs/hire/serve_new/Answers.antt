use Rattle.gp_workers.specs.Books.{books}
use Rattle.gp_workers.proofs.Hiring.{new_works, served}
use Rattle.gp_workers.proofs.hire.serve_new.Goals as goal

pub returns : goal.returns
returns g c =
    let told = books g.M.Kit.Kit.parts g.M.Kit.Listen.Listen.tells in
    let means = g.M.Maker.means c.args.crew.now.maker.now in
    let start = told c.args.worker.now in
    let stands = c.serve.ensures.stands in
    let done = c.serve.ensures.done in
    served means c.args.crew.now.hub.now c.args.crew.now.claims.now c.args.crew.now.limit start (told c.serve.new.worker) c.serve.new.running.items
    stands.of_turn stands.of_claims stands.parts done.0 done.1
    (c.serve.ensures.works start (rw c.new-running.ensures.items (new_works means c.args.crew.now.limit c.args.crew.now.hub.now c.args.crew.now.claims.now start c.requires.new)))
