use Rattle.gp_intake.proofs.Asking.{head_within}
use Rattle.gp_intake.proofs.head.headed.Goals as goal

pub slice_bounds-begin-count : goal.slice_bounds-begin-count
slice_bounds-begin-count c = head_within c.args.bytes.now c.args.head c.args.length c.requires

pub slice_bounds-begin-start : goal.slice_bounds-begin-start
slice_bounds-begin-start c = head_within c.args.bytes.now c.args.head c.args.length c.requires
