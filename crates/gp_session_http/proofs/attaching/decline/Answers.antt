use Rattle.std.proofs.Common.{◌++◌, ◌∙◌, sym, subst, ap, refl, List, ℕ, []}
use Rattle.gp_answer.specs.declared.refusal.Refusal.TheVariants.{Unavailable}
use Rattle.gp_session_http.specs.Holding.{IsDeclinedAt}
use Rattle.gp_session_http.specs.Views.{LiveView}
use Rattle.gp_session_http.proofs.Granting.{held_live, held_is}
use Rattle.gp_session_http.proofs.Keeping.{declines, declines_not}
use Rattle.gp_session_http.proofs.Putting.{put_text}
use Rattle.gp_session_http.proofs.attaching.decline.Goals as goal
use Rattle.gp_session_http.proofs.attaching.decline.Goals.{in-Ok, in-Err}

pub returns : goal.returns
returns g c =
    let v : LiveView = record { wire = c.live.inside.wire; line = c.live.inside.line; watch = c.live.inside.watch; seat = c.live.inside.seat; charter = record { rules = c.live.inside.routes.now; signer = c.live.inside.signer.now; tag = c.live.inside.tag }; reports = c.live.inside.reports } in
    let h : IsDeclinedAt v c.args.grant = subst (λ (x : LiveView). IsDeclinedAt x c.args.grant) (sym c.live.view_is) c.requires.told in
    let e = c.put.ensures in
    let text = put_text Unavailable Unavailable [] [] c.head.result.now c.empty.result c.body.result.now refl refl c.head.ensures c.empty.ensures c.body.ensures in
    record {
      leads = held_live v c.args.live.now _ 3 _ c.live.view_is (elim c.match-put.branch [
        | in-Ok w ↦ held_is v _ 3 _ _ w.result-is (declines v c.args.grant h c.put.new.self e.start e.link (w.in-Ok.ensures.ok ∙ ap (λ (xs : List ℕ). v.wire.rest ++ xs) text))
        | in-Err w ↦ held_is v _ 3 _ _ w.result-is (declines_not v c.args.grant h c.put.new.self e.start e.link w.in-Err.ensures.err.1 _ refl)
      ]);
    }
