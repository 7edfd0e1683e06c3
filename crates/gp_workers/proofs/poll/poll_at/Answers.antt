use Rattle.std.proofs.Common.{rules}
use Rattle.gp_workers.specs.Books.{books}
use Rattle.gp_workers.proofs.Working.{works_finished, works_polled}
use Rattle.gp_workers.proofs.poll.poll_at.Goals as goal

-- src/poll.rt:28:1
pub returns-in-Ready-clause-works : goal.returns-in-Ready-clause-works
returns-in-Ready-clause-works g c start w =
    works_finished (g.M.Maker.means c.args.crew.now.maker.now) c.args.crew.now.hub.now c.args.crew.now.limit start
    (books g.M.Kit.Kit.parts g.M.Kit.Listen.Listen.tells c.args.worker.now) (books g.M.Kit.Kit.parts g.M.Kit.Listen.Listen.tells c.finish.new.worker)
    c.args.running.now.items c.swap_remove-ended.new.self.items c.args.place c.visit.new.running c.swap_remove-ended.result c.index_mut.result.now c.in-Ready.over
    c.requires.place (search rules) (search rules) (search rules) (search rules) (search rules) (search rules) c.finish.ensures w

-- src/poll.rt:28:1
pub returns-in-Pending-clause-works : goal.returns-in-Pending-clause-works
returns-in-Pending-clause-works g c start w =
    works_polled (g.M.Maker.means c.args.crew.now.maker.now) c.args.crew.now.hub.now c.args.crew.now.limit start
    (books g.M.Kit.Kit.parts g.M.Kit.Listen.Listen.tells c.args.worker.now)
    c.args.running.now.items _ c.args.place c.visit.new.running c.index_mut.result.now
    c.requires.place (search rules) (search rules) (search rules) w
