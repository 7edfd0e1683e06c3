use Rattle.std.proofs.Common.{◌++◌, length}
use Rattle.std.specs.Prelude.{option_to_list}
use Rattle.gp_session_publish.specs.Moves.{IsPublishing}
use Rattle.gp_session_publish.proofs.publishing.publish_all.Given as goal

abbrev pub invariant-loop-next : goal.invariant-loop-next
invariant-loop-next l = IsPublishing l.fn.seat l.seat (option_to_list l.fn.first ++ l.fn.items) l.next l.items l.fn.published l.published

abbrev pub decreases-loop-next : goal.decreases-loop-next
decreases-loop-next l = length (option_to_list l.next ++ l.items)
