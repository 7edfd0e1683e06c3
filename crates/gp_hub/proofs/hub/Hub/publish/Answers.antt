use Rattle.std.proofs.Common.{subst, sym, ap, ◌∙◌, []}
use Rattle.gp_plain.specs.Pieces.{id_or}
use Rattle.gp_plain.specs.declared.event.Event.TheVariants.{Publish}
use Rattle.gp_hub.specs.Calls.{HasCalled}
use Rattle.gp_hub.specs.Own.{publish_reply}
use Rattle.gp_hub.proofs.Owned.{publish_answers, published}
use Rattle.gp_hub.proofs.hub.Hub.publish.Goals as goal

pub published-requires : goal.published-requires
published-requires c =
    let answers = publish_answers c.args.pass.now c.call.new.pass c.args.item c.in-Ok.reply c.in-Ok.ensures.ok in
    (id_or c.args.item.id [], answers.0, answers.1)

pub returns-in-Ok-clause-ok : goal.returns-in-Ok-clause-ok
returns-in-Ok-clause-ok c =
    let answers = publish_answers c.args.pass.now c.call.new.pass c.args.item c.in-Ok.reply c.in-Ok.ensures.ok in
    let is = answers.1 ∙ ap (publish_reply (id_or c.args.item.id [])) (sym (c.published.ensures (id_or c.args.item.id []) answers.0 answers.1)) in
    published c.args.pass.now c.call.new.pass c.args.item c.published.result c.call.ensures.same (subst (HasCalled c.args.pass.now c.call.new.pass (Publish c.args.item)) is c.in-Ok.ensures.ok)
