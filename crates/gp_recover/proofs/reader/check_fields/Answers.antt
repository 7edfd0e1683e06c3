use Rattle.std.proofs.Common.{subst}
use Rattle.gp_instruct.specs.Page.{page}
use Rattle.gp_recover.proofs.Faults.{fields_fault}
use Rattle.gp_recover.specs.Pages.{IsGivenFault}
use Rattle.gp_recover.proofs.reader.check_fields.Goals as goal

pub returns-in-Ok-clause-err : goal.returns-in-Ok-clause-err
returns-in-Ok-clause-err c =
    λ content from. fields_fault c.args.head.now c.requires.ok c.requires.untyped c.in-Ok.instruct c.in-Ok.ensures.ok content c.args.channel.now from c.in-Err.fault
    (subst (λ given. IsGivenFault (page given content c.args.channel.now from) c.in-Err.fault) c.as_ref.ensures.value (c.in-Err.ensures.err content from))
