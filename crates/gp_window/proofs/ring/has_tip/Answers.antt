use Rattle.std.proofs.Common.{◌-◌, sym, ◌∙◌, arith}
use Rattle.gp_plain.specs.Tails.{is_tip_of}
use Rattle.gp_window.proofs.Walking.{none_at_all, some_at}
use Rattle.gp_window.proofs.ring.has_tip.Goals as goal

pub returns-then-is_tip : goal.returns-then-is_tip
returns-then-is_tip c = sym (some_at (is_tip_of c.args.items.now c.args.channel.now c.args.id.now) c.args.items.now (c.len.result - 1 - c.loop-behind.behind) (sym c.is_tip.ensures ∙ c.if-is_tip.true))

pub returns : goal.returns
returns c = sym (none_at_all (is_tip_of c.args.items.now c.args.channel.now c.args.id.now) c.args.items.now (λ k h. c.loop-behind.invariant k (omega (arith, c.loop-behind-test.false, c.len-behind-end.ensures.len))))
