use Rattle.std.proofs.Common.{rules, refl}
use Rattle.gp_workers.specs.Books.{books}
use Rattle.gp_workers.proofs.Moving.{moved_works}
use Rattle.gp_workers.proofs.serve.serve.Goals as goal

-- src/serve.rt:66:13
pub returns-then-is_done-clause-works : goal.returns-then-is_done-clause-works
returns-then-is_done-clause-works g c start w =
    let told = books g.M.Kit.Kit.parts g.M.Kit.Listen.Listen.tells in
    let means = g.M.Maker.means c.args.crew.now.maker.now in
    let first = c.round-is_idle.ensures.works start (c.loop.invariant.3 start w) in
    moved_works means c.args.crew.now.hub.now c.args.crew.now.limit start (told c.round-is_idle.new.worker) (told c.is_done.new.worker) c.round-is_idle.new.running.items c.round-is_idle.new.running.items refl c.is_done.ensures.moved first

-- src/serve.rt:63:5
pub loop-preserved-then-is_idle : goal.loop-preserved-then-is_idle
loop-preserved-then-is_idle g c =
    let told = books g.M.Kit.Kit.parts g.M.Kit.Listen.Listen.tells in
    let means = g.M.Maker.means c.args.crew.now.maker.now in (
      search rules,
      search rules,
      search rules,
      λ start w.
          let first = c.round-is_idle.ensures.works start (c.loop.invariant.3 start w) in
          let second = moved_works means c.args.crew.now.hub.now c.args.crew.now.limit start (told c.round-is_idle.new.worker) (told c.is_done.new.worker) c.round-is_idle.new.running.items c.round-is_idle.new.running.items refl c.is_done.ensures.moved first in
          moved_works means c.args.crew.now.hub.now c.args.crew.now.limit start (told c.is_done.new.worker) (told c.rest.new.worker) c.round-is_idle.new.running.items c.round-is_idle.new.running.items refl c.rest.ensures.moved second,
    )

-- src/serve.rt:63:5
pub loop-preserved : goal.loop-preserved
loop-preserved g c =
    let told = books g.M.Kit.Kit.parts g.M.Kit.Listen.Listen.tells in
    let means = g.M.Maker.means c.args.crew.now.maker.now in (
      search rules,
      search rules,
      search rules,
      λ start w.
          let first = c.round-is_idle.ensures.works start (c.loop.invariant.3 start w) in
          moved_works means c.args.crew.now.hub.now c.args.crew.now.limit start (told c.round-is_idle.new.worker) (told c.is_done.new.worker) c.round-is_idle.new.running.items c.round-is_idle.new.running.items refl c.is_done.ensures.moved first,
    )
