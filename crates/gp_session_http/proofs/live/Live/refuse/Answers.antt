use Rattle.std.proofs.Common.{◌++◌, List, ℕ, refl, sym, ap, ◌∙◌, subst}
use Rattle.gp_session_http.specs.Views.{LiveView}
use Rattle.gp_session_http.specs.Moves.{MayRefuse}
use Rattle.gp_session_http.specs.Routing.{refusal_of}
use Rattle.gp_session_http.proofs.Rows.{from_live, leads_is}
use Rattle.gp_session_http.proofs.Putting.{put_text}
use Rattle.gp_session_http.proofs.Hearing.{refused_go, refused_end}
use Rattle.gp_session_http.proofs.live.Live.refuse.Goals as goal
use Rattle.gp_session_http.proofs.live.Live.refuse.Goals.{in-Ok, in-Err}

pub returns : goal.returns
returns g c =
    let v : LiveView = record { wire = c.self.inside.wire; line = c.self.inside.line; watch = c.self.inside.watch; seat = c.self.inside.seat; charter = record { rules = c.self.inside.routes.now; signer = c.self.inside.signer.now; tag = c.self.inside.tag }; reports = c.self.inside.reports } in
    let may : MayRefuse v c.args.cause c.args.method.now = subst (λ (x : LiveView). MayRefuse x c.args.cause c.args.method.now) (sym c.self.view_is) c.requires in
    let text = put_text (refusal_of c.args.cause) c.refusal-refusal.result c.args.method.now c.bytes.result.now c.head.result.now c.empty-body.result c.body.result.now c.refusal-refusal.ensures c.bytes.ensures c.head.ensures c.empty-body.ensures c.body.ensures in
    from_live v c.args.self.now _ 2 _ c.self.view_is (elim c.match-put.branch [
      | in-Ok w ↦ leads_is v _ 2 _ _ w.result-is (refused_go v c.put.new.self c.args.cause c.args.method.now may (record { cause = c.args.cause; method = c.of-said.result }) refl c.of-said.ensures c.put.ensures.start c.put.ensures.link
          (w.in-Ok.ensures.ok ∙ ap (λ (xs : List ℕ). v.wire.rest ++ xs) text))
      | in-Err w ↦ leads_is v _ 2 _ _ w.result-is (refused_end v c.put.new.self c.args.cause c.args.method.now may (record { cause = c.args.cause; method = c.of-said.result }) refl c.of-said.ensures c.put.ensures.start c.put.ensures.link
          w.in-Err.ensures.err.1 _ (ap (λ y. record { end = _; why = y }) w.why.ensures))
    ])
