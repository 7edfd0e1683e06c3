use Rattle.std.proofs.Common.{◌∙◌}
use Rattle.gp_sig.proofs.Texts.{begins, not_both}
use Rattle.gp_sig.proofs.text.after.Goals as goal

pub returns-else-are_same : goal.returns-else-are_same
returns-else-are_same c rest e = not_both c.are_same.ensures c.if-are_same.false (c.split_at.ensures.front ∙ begins c.args.text.now c.args.front.now rest e)
