use Rattle.std.proofs.Common.{sym, ap, ◌∙◌, subst}
use Rattle.std.specs.Prelude.{IfErr, Result}
use Rattle.gp_hub.specs.declared.fault.HubFault.{HubFault}
use Rattle.gp_hub.specs.declared.own.PageReply.{PageReply}
use Rattle.gp_session.specs.Paging.{HandsBackPage, paged_by}
use Rattle.gp_session.proofs.paging.page_answer.Goals as goal

pub returns-in-Err : goal.returns-in-Err
returns-in-Err c = λ hold page back.
    c.page_fault.ensures hold page (subst (λ (r : Result PageReply HubFault). IfErr r (HandsBackPage hold page)) c.in-Err.is back) ∙ ap (paged_by page) (sym c.in-Err.is)
