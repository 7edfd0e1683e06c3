use Rattle.std.proofs.Common.{take, drop, arith, ◌∙◌}
use Rattle.std.proofs.lemmas.List.{take-append-drop, length-take-le}
use Rattle.gp_outside.proofs.Sends.{told_more, sent_within}
use Rattle.gp_outside.proofs.send.write_all.Goals as goal

pub loop-done-preserved : goal.loop-done-preserved
loop-done-preserved g c =
    let m = c.in-Took.ensures.moved in
    let le = sent_within c.args.bytes.now c.loop-done.done c.in-Took.count m.1 in
    record {
      within = omega arith;
      quiet = m.3 ∙ c.loop-done.invariant.quiet;
      told = told_more c.args.bytes.now _ _ _ c.loop-done.done c.in-Took.count le m.2 c.loop-done.invariant.told;
    }

pub returns-in-Failed : goal.returns-in-Failed
returns-in-Failed g c = let m = c.in-Failed.ensures in record {
  later = omega (arith, m.later, c.loop-done.invariant.quiet);
  rose = omega (arith, m.moved.1, c.loop-done.invariant.quiet);
  part = (take c.loop-done.done c.args.bytes.now, (drop c.loop-done.done c.args.bytes.now, take-append-drop c.loop-done.done c.args.bytes.now), omega (arith, c.loop-done-test.true, length-take-le c.loop-done.done c.args.bytes.now c.loop-done.invariant.within), m.moved.0 ∙ c.loop-done.invariant.told);
}
