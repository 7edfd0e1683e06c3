use Rattle.std.proofs.Common.{List, ℕ, Option, IfSome, subst, sym}
use Rattle.gp_instruct.specs.Targets.{IsTarget}
use Rattle.gp_session_http.proofs.Recalling.{prepared_by, target_of}
use Rattle.gp_session_http.proofs.grant.prepare.Goals as goal

pub attaching-requires-clause-target : goal.attaching-requires-clause-target
attaching-requires-clause-target c = subst (λ (link : Option (List ℕ)). IfSome link IsTarget) (sym c.in-Ok.ensures.link_is) (target_of c.args.answer.instruct c.requires.target)
