use Rattle.std.proofs.Common.{refl}
use Rattle.gp_workers.specs.Books.{books}
use Rattle.gp_workers.proofs.Moving.{moved_works}
use Rattle.gp_workers.proofs.admit.admit.Goals as goal

-- src/admit.rt:151:9
pub returns-then-not-prepares-clause-works : goal.returns-then-not-prepares-clause-works
returns-then-not-prepares-clause-works g c start w =
    let told = books g.M.Kit.Kit.parts g.M.Kit.Listen.Listen.tells in
    moved_works (g.M.Maker.means c.args.crew.now.maker.now) c.args.crew.now.hub.now c.args.crew.now.limit start (told c.args.worker.now) (told c.prepares.new.worker) c.args.running.now.items c.prepares.new.running.items c.prepares.ensures.running c.prepares.ensures.moved w

-- src/admit.rt:139:1
pub returns-in-Took-clause-works : goal.returns-in-Took-clause-works
returns-in-Took-clause-works g c start w =
    let told = books g.M.Kit.Kit.parts g.M.Kit.Listen.Listen.tells in
    let means = g.M.Maker.means c.args.crew.now.maker.now in
    let first = moved_works means c.args.crew.now.hub.now c.args.crew.now.limit start (told c.args.worker.now) (told c.prepares.new.worker) c.args.running.now.items c.prepares.new.running.items c.prepares.ensures.running c.prepares.ensures.moved w in
    let second = moved_works means c.args.crew.now.hub.now c.args.crew.now.limit start (told c.prepares.new.worker) (told c.look.new.worker) c.prepares.new.running.items c.prepares.new.running.items refl c.look.ensures.moved first in
    c.enter.ensures.works start second

-- src/admit.rt:139:1
pub returns-in-NotReady-clause-works : goal.returns-in-NotReady-clause-works
returns-in-NotReady-clause-works g c start w =
    let told = books g.M.Kit.Kit.parts g.M.Kit.Listen.Listen.tells in
    let means = g.M.Maker.means c.args.crew.now.maker.now in
    let first = moved_works means c.args.crew.now.hub.now c.args.crew.now.limit start (told c.args.worker.now) (told c.prepares.new.worker) c.args.running.now.items c.prepares.new.running.items c.prepares.ensures.running c.prepares.ensures.moved w in
    moved_works means c.args.crew.now.hub.now c.args.crew.now.limit start (told c.prepares.new.worker) (told c.look.new.worker) c.prepares.new.running.items c.prepares.new.running.items refl c.look.ensures.moved first

-- src/admit.rt:139:1
pub returns-in-Failed-clause-works : goal.returns-in-Failed-clause-works
returns-in-Failed-clause-works g c start w =
    let told = books g.M.Kit.Kit.parts g.M.Kit.Listen.Listen.tells in
    let means = g.M.Maker.means c.args.crew.now.maker.now in
    let first = moved_works means c.args.crew.now.hub.now c.args.crew.now.limit start (told c.args.worker.now) (told c.prepares.new.worker) c.args.running.now.items c.prepares.new.running.items c.prepares.ensures.running c.prepares.ensures.moved w in
    moved_works means c.args.crew.now.hub.now c.args.crew.now.limit start (told c.prepares.new.worker) (told c.look.new.worker) c.prepares.new.running.items c.prepares.new.running.items refl c.look.ensures.moved first
