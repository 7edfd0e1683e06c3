use Rattle.std.proofs.Common.{◌-◌, drop, arith, length-take, length-drop}
use Rattle.std.proofs.lemmas.Result.{err_from_is_err_and}
use Rattle.std.proofs.lemmas.List.{take_rest}
use Rattle.gp_body.proofs.GatherLemmas.{starts, one_feed, one_refusal}
use Rattle.gp_body.proofs.reading.Reading.gather.Goals as goal

pub loop-taken-init : goal.loop-taken-init
loop-taken-init c = record {
  gathers = starts c.args.self.now c.args.bytes.now c.args.into.now.items c.requires.«open»;
  sound = c.requires.sound;
  room = omega (arith, c.requires.room);
}

pub returns-in_err-fed-clause-fed : goal.returns-in_err-fed-clause-fed
returns-in_err-fed-clause-fed c =
    let p = err_from_is_err_and c.from_residual.result c.from_residual.ensures.1 in
    let refused = rw (take_rest c.args.bytes.now c.loop-taken.taken) at c.in_err-fed.ensures.fed in
    rw (p.1, p.2) (one_refusal c.args.self.now c.loop-taken.self c.args.bytes.now c.args.into.now.items c.loop-taken.into.items c.loop-taken.taken c.loop-taken.invariant.gathers c.feed.new.self c.in_err-fed.field-0.0 refused)

pub loop-taken-preserved : goal.loop-taken-preserved
loop-taken-preserved c =
    let feeds = rw (take_rest c.args.bytes.now c.loop-taken.taken) at c.in_ok-fed.ensures.fed in
    let fed = c.in_ok-fed.fed in
    let rest = drop c.loop-taken.taken c.args.bytes.now in
    let len = rw (take_rest c.args.bytes.now c.loop-taken.taken) at c.add.ensures.len in
    let grown = rw (take_rest c.args.bytes.now c.loop-taken.taken) at c.add.ensures.items in
    record {
      gathers = one_feed c.args.self.now c.loop-taken.self c.args.bytes.now c.args.into.now.items c.loop-taken.into.items c.loop-taken.taken c.loop-taken.invariant.gathers c.feed.new.self c.add.new.into.items c.in_ok-fed.fed feeds grown;
      sound = c.in_ok-fed.ensures.sound;
      room = omega (arith, c.loop-taken.invariant.room, len, c.add.ensures.capacity, feeds.order.run, feeds.order.taken, feeds.order.within, length-take (fed.to - fed.from) (drop fed.from rest), length-drop fed.from rest, length-drop c.loop-taken.taken c.args.bytes.now);
    }
