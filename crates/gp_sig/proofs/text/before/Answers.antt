use Rattle.std.proofs.Common.{◌∙◌}
use Rattle.gp_sig.proofs.Texts.{ends, not_both}
use Rattle.gp_sig.proofs.text.before.Goals as goal

pub returns-else-are_same : goal.returns-else-are_same
returns-else-are_same c front e = not_both c.are_same.ensures c.if-are_same.false (c.split_at.ensures.back ∙ ends c.args.text.now front c.args.back.now e)
