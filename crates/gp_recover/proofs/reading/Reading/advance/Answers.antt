use Rattle.std.proofs.Common.{arith}
use Rattle.gp_recover.proofs.Going.{behind, content_less, on_on, on_same}
use Rattle.gp_recover.proofs.reading.Reading.advance.Goals as goal

pub loop-next-init : goal.loop-next-init
loop-next-init g c = record {
  on = on_same c.args.sought.now c.args.self.exchange.place c.args.self.reader.content (g.D.Dial.tells c.args.dial.now) (let begun = c.requires.begun in omega (arith, begun));
  kept = c.requires;
}

pub loop-next-smaller : goal.loop-next-smaller
loop-next-smaller g c =
    let less = content_less c.args.sought.now c.in-More.next c.in-More.ensures.kept in
    let more = c.in-More.ensures.more in
    omega (arith, less, more)

pub loop-next-preserved : goal.loop-next-preserved
loop-next-preserved g c = record {
  on = on_on c.args.sought.now c.args.self.exchange.place c.loop-next.reading.exchange.place c.in-More.next.exchange.place c.args.self.reader.content c.loop-next.reading.reader.content c.in-More.next.reader.content
      (g.D.Dial.tells c.args.dial.now) (g.D.Dial.tells c.loop-next.dial) (g.D.Dial.tells c.gather.new.dial) c.loop-next.invariant.on c.in-More.ensures.on;
  kept = c.in-More.ensures.kept;
}

pub returns-in-Next : goal.returns-in-Next
returns-in-Next g c =
    behind c.args.sought.now c.args.self.exchange.place c.loop-next.reading.exchange.place c.args.self.reader.content c.loop-next.reading.reader.content
    (g.D.Dial.tells c.args.dial.now) (g.D.Dial.tells c.loop-next.dial) (g.D.Dial.tells c.gather.new.dial) c.loop-next.invariant.on c.in-Next.next c.in-Next.ensures
