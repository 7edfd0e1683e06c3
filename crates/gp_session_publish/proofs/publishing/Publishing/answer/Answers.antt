use Rattle.std.proofs.Common.{◌++◌, ◌∙◌, List, ℕ, refl, ap}
use Rattle.gp_session_publish.specs.declared.stage.Stage.TheVariants as stage
use Rattle.gp_session_publish.specs.Views.{LiveView}
use Rattle.gp_session_publish.proofs.Rows.{from_live, told_live, leads_is}
use Rattle.gp_session_publish.proofs.Standing.{answer_put, answered, unanswered}
use Rattle.gp_session_publish.proofs.publishing.Publishing.answer.Goals as goal
use Rattle.gp_session_publish.proofs.publishing.Publishing.answer.Goals.{in-Ok, in-Err}

pub returns : goal.returns
returns g c =
    let v : LiveView = record { wire = c.live.inside.wire; seat = c.live.inside.seat } in
    let told = told_live v c.args.live.now (stage.Publishing c.args.self) c.live.view_is c.requires.told in
    let e = c.put.ensures in
    record {
      leads = from_live v c.args.live.now _ 2 _ c.live.view_is (elim c.match-put.branch [
        | in-Ok w ↦ leads_is v _ 2 _ _ w.result-is (answered v c.put.new.self c.args.self told c.requires.none e.start e.link (record { published = c.args.self.published; request = c.args.self.request }) refl refl
            (w.in-Ok.ensures.ok ∙ ap (λ (xs : List ℕ). v.wire.rest ++ xs) (answer_put _ _ _ c.published_head.ensures c.empty-body.ensures refl)))
        | in-Err w ↦ leads_is v _ 2 _ _ w.result-is (unanswered v c.put.new.self c.args.self told c.requires.none e.start e.link w.in-Err.ensures.err.1 w.ended.result w.ended.ensures)
      ]);
    }
