use Rattle.gp_again.proofs.Asking.{has_form}
use Rattle.gp_again.proofs.target.path_of.Goals as goal

pub unreachable-requires : goal.unreachable-requires
unreachable-requires c = has_form c.forward_law.ensures c.args.link.now c.bytes.result.now c.in-Err-Form.field-0 c.requires c.bytes.ensures c.in-Err-Form.field-0-is c.in-Err-Form.ensures
