use Rattle.std.proofs.Common.{ap, ◌∙◌}
use Rattle.gp_intake.specs.Requests.{HeadedView}
use Rattle.gp_intake.proofs.Asking.{whole_from}
use Rattle.gp_intake.proofs.body.BodyIntake.whole.Goals as goal

pub returns : goal.returns
returns c =
    let head = ap (λ (v : HeadedView). v.head) c.self.view_is in
    let path = ap (λ (v : HeadedView). v.path) c.self.view_is in
    let content = c.into_parts-body.ensures.0 ∙ ap (λ (v : HeadedView). v.body.content) c.self.view_is in
    let unused = c.into_parts-body.ensures.1 ∙ ap (λ (v : HeadedView). v.body.unused) c.self.view_is in
    (λ received headed. whole_from c.args.self _ received head path content unused c.requires.«open» c.requires.end headed, head, path)
