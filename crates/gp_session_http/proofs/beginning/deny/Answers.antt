use Rattle.std.proofs.Common.{◌++◌, ◌∙◌, sym, subst, ap, refl, List, ℕ, []}
use Rattle.gp_answer.specs.declared.refusal.Refusal.TheVariants.{Unavailable}
use Rattle.gp_session_http.specs.LongPolls.{IsDeniedAt}
use Rattle.gp_session_http.specs.Views.{LiveView}
use Rattle.gp_session_http.proofs.Granting.{held_live, held_is}
use Rattle.gp_session_http.proofs.Awaiting.{denies, denies_not}
use Rattle.gp_session_http.proofs.Putting.{put_text}
use Rattle.gp_session_http.proofs.beginning.deny.Goals as goal
use Rattle.gp_session_http.proofs.beginning.deny.Goals.{in-Ok, in-Err}

pub returns : goal.returns
returns g c =
    let v : LiveView = record { wire = c.live.inside.wire; line = c.live.inside.line; watch = c.live.inside.watch; seat = c.live.inside.seat; charter = record { rules = c.live.inside.routes.now; signer = c.live.inside.signer.now; tag = c.live.inside.tag }; reports = c.live.inside.reports } in
    let h : IsDeniedAt v c.args.poll = subst (λ (x : LiveView). IsDeniedAt x c.args.poll) (sym c.live.view_is) c.requires.told in
    let e = c.put.ensures in
    let text = put_text Unavailable Unavailable [] [] c.head.result.now c.empty.result c.body.result.now refl refl c.head.ensures c.empty.ensures c.body.ensures in
    record {
      leads = held_live v c.args.live.now _ 5 _ c.live.view_is (elim c.match-put.branch [
        | in-Ok w ↦ held_is v _ 5 _ _ w.result-is (denies v c.args.poll h c.put.new.self e.start e.link (w.in-Ok.ensures.ok ∙ ap (λ (xs : List ℕ). v.wire.rest ++ xs) text))
        | in-Err w ↦ held_is v _ 5 _ _ w.result-is (denies_not v c.args.poll h c.put.new.self e.start e.link w.in-Err.ensures.err.1 _ refl)
      ]);
    }
