use Rattle.std.proofs.Common.{◌≡◌, [], sym, ◌∙◌, ap}
use Rattle.gp_body.specs.Plans.{plan_of_response}
use Rattle.gp_body.specs.Wholes.{reading_of}
use Rattle.gp_exchange.specs.Views.{AskedView}
use Rattle.gp_exchange.proofs.Bodies.{begun}
use Rattle.gp_exchange.proofs.heading.begin.Goals as goal

pub returns-in-Ok : goal.returns-in-Ok
returns-in-Ok c =
    let method : c.args.asked.now.method ≡ c.bytes.result.now = sym (ap (λ (a : AskedView). a.method) c.asked.view_is) ∙ sym c.bytes.ensures in
    begun c.args.asked.now c.args.head c.args.rest.now c.in-Ok.plan c.new.result c.begin_body.result
    (ap (plan_of_response c.args.head) method ∙ sym c.of_response.ensures ∙ c.in-Ok.is)
    (c.new.ensures ∙ ap (λ (a : AskedView). reading_of c.in-Ok.plan a.limit []) c.asked.view_is) c.begin_body.ensures
