use Rattle.gp_serve.proofs.Leaving.{served}
use Rattle.gp_serve.proofs.server.run_workers.Goals as goal

pub returns-in-Ok-work : goal.returns-in-Ok-work
returns-in-Ok-work g c =
    served g.W.Out.Out.tells g.W.Kit.Kit.parts g.W.Kit.Listen.Listen.tells (g.M.Maker.means c.args.maker.now) c.args.options.now.workers c.args.options.now.sessions c.args.pass
    (g.W.World.parts c.args.world.now) _ (g.W.World.parts c.leave.new.world) c.leave.result c.work.new.kits.items c.as_slice.result.now c.in-Ok-work.reports.items
    c.in-Ok.ensures.same
    c.as_slice.ensures.value
    record { made = c.in-Ok.kits.items; count = c.in-Ok.ensures.count; unused = c.in-Ok.ensures.unused; last = _; worked = c.in-Ok-work.ensures.ok }
    c.leave.ensures
