use Rattle.std.proofs.Common.{subst, sym, ap, ◌∙◌}
use Rattle.gp_plain.specs.History.{page_of}
use Rattle.gp_hub.specs.Calls.{HasCalled}
use Rattle.gp_hub.specs.Own.{page_event, page_reply}
use Rattle.gp_hub.proofs.Owned.{page_answers, paged}
use Rattle.gp_hub.proofs.hub.Hub.page.Goals as goal

pub paged-requires : goal.paged-requires
paged-requires c =
    let page = page_of c.args.from c.args.to c.args.bytes c.args.then in
    let answers = page_answers c.args.pass.now c.call.new.pass c.args.hold page c.in-Ok.reply c.requires.keeps c.call.ensures.same c.in-Ok.ensures.ok in
    (c.args.from, answers.0, answers.1)

pub returns-in-Ok-clause-ok : goal.returns-in-Ok-clause-ok
returns-in-Ok-clause-ok c =
    let page = page_of c.args.from c.args.to c.args.bytes c.args.then in
    let answers = page_answers c.args.pass.now c.call.new.pass c.args.hold page c.in-Ok.reply c.requires.keeps c.call.ensures.same c.in-Ok.ensures.ok in
    let is = answers.1 ∙ ap (page_reply c.args.from) (sym (c.paged.ensures c.args.from answers.0 answers.1)) in
    paged c.args.pass.now c.call.new.pass c.args.hold page c.paged.result c.requires.keeps c.call.ensures.same
    (subst (HasCalled c.args.pass.now c.call.new.pass (page_event c.args.hold page)) is c.in-Ok.ensures.ok)
