use Rattle.std.proofs.Common.{◌∙◌}
use Rattle.gp_again.proofs.Asking.{asks}
use Rattle.gp_again.proofs.again.Again.request.Goals as goal

pub returns-clause-asks : goal.returns-clause-asks
returns-clause-asks c =
    asks c.self.inside.head c.aim.new.head c.self.inside.address c.self.inside.channel c.self.inside.link c.args.from.now c.args.signer.now c.args.now _ _
    c.args.self.now c.self.view_is c.in_ok-aim.ensures.ok (c.bytes_of.ensures ∙ c.in_ok-sig.ensures.is) (c.as_slice.ensures.value ∙ c.in_ok-lasts.ensures.are)
    c.forward.result c.forward.ensures
