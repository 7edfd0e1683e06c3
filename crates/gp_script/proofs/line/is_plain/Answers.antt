use Rattle.std.proofs.Common.{not, ap, ◌∙◌}
use Rattle.gp_script.proofs.Escapes.{kept-is}
use Rattle.gp_script.proofs.line.is_plain.Goals as goal

pub returns : goal.returns
returns c = ap not c.should_percent_encode.ensures ∙ kept-is c.args.byte
