use Rattle.std.proofs.Common.{sym, ◌∙◌}
use Rattle.gp_ws.proofs.KeepLemmas.{left_kept}
use Rattle.gp_ws.proofs.frame.read_data.Goals as goal

pub returns-else-is_refused-clause-end : goal.returns-else-is_refused-clause-end
returns-else-is_refused-clause-end c =
    left_kept c.args.end.now c.read_frame-framed.new.end c.args.bytes.now c.read_frame-framed.new.bytes c.read_frame-framed.result c.requires.data c.requires.end
    (sym c.is_refused.ensures ∙ c.if-is_refused.false) c.read_frame-framed.ensures.left
