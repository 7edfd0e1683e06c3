use Rattle.std.proofs.lemmas.Bool.{false≢true}
use Rattle.gp_instruct.proofs.TargetLemmas.{no_target_none}
use Rattle.gp_instruct.proofs.target.is_target.Goals as goal

pub returns-in-Err-Invalid : goal.returns-in-Err-Invalid
returns-in-Err-Invalid c = no_target_none c.args.text.now ((rw c.in-Err-Invalid.field-0-is at c.in-Err-Invalid.ensures.err) (λ no. false≢true no))
