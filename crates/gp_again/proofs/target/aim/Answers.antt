use Rattle.std.proofs.Common.{rules}
use Rattle.gp_again.specs.Quests.{IsAimed}
use Rattle.gp_again.proofs.Asking.{aimed_can}
use Rattle.gp_again.proofs.target.aim.Goals as goal

pub returns-clause-can : goal.returns-clause-can
returns-clause-can c =
    let aimed : IsAimed c.args.head.now c.args.link.now (record { method = c.in_ok-method.method; target = c.in_ok-target.target; version = c.args.head.now.version; fields = c.args.head.now.fields }) = search rules in
    aimed_can c.forward_law.ensures c.args.head.now c.args.link.now _ c.requires.head aimed
