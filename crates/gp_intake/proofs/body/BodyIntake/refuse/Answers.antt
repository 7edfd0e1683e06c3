use Rattle.std.proofs.Common.{ap}
use Rattle.gp_intake.specs.Requests.{HeadedView}
use Rattle.gp_intake.proofs.Asking.{refused_from, refused_by}
use Rattle.gp_intake.proofs.body.BodyIntake.refuse.Goals as goal

pub returns : goal.returns
returns c = λ received headed.
    rw c.request_fault.ensures (refused_by c.args.self.head c.args.self.path received c.self.inside.head.method c.args.fault c.requires.cause
    (refused_from c.args.self received c.self.inside.head.method c.args.fault (ap (λ (v : HeadedView). v.head.method) c.self.view_is) c.requires.refused headed))
