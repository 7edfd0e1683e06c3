use Rattle.std.proofs.lemmas.Bool.{false≢true}
use Rattle.gp_head.proofs.TargetLemmas.{not_split_none}
use Rattle.gp_head.proofs.target.split_target.Goals as goal

pub returns-in-Err-Invalid : goal.returns-in-Err-Invalid
returns-in-Err-Invalid c = not_split_none c.args.target.now ((rw c.in-Err-Invalid.field-0-is at c.in-Err-Invalid.ensures.err) (λ no. false≢true no))
