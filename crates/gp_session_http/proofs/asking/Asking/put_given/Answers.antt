use Rattle.std.proofs.Common.{◌++◌, ◌∙◌, sym, subst, ap, List, ℕ}
use Rattle.gp_session_http.specs.Givings.{body_given, head_given}
use Rattle.gp_session_http.specs.Moves.{IsAnsweredWith}
use Rattle.gp_session_http.specs.Views.{LiveView}
use Rattle.gp_session_http.proofs.Rows.{from_live}
use Rattle.gp_session_http.proofs.Collecting.{gives_answer, gives_not, put_both}
use Rattle.gp_session_http.proofs.asking.Asking.put_given.Goals as goal

pub returns-in-Ok : goal.returns-in-Ok
returns-in-Ok g c =
    let v : LiveView = record { wire = c.live.inside.wire; line = c.live.inside.line; watch = c.live.inside.watch; seat = c.live.inside.seat; charter = record { rules = c.live.inside.routes.now; signer = c.live.inside.signer.now; tag = c.live.inside.tag }; reports = c.live.inside.reports } in
    let s = c.args.self in
    let a = c.args.answer in
    let h : IsAnsweredWith v s a = subst (λ (x : LiveView). IsAnsweredWith x s a) (sym c.live.view_is) c.requires.told in
    let e = c.put.ensures in
    let text = put_both c.bytes.result.now c.args.head c.body_given-body.result (head_given a) (body_given a) c.bytes.ensures c.requires.head c.body_given-body.ensures in
    record {
      leads = from_live v c.args.live.now _ 2 _ c.live.view_is
          (gives_answer v s a h c.put.new.self e.start e.link (c.in-Ok.ensures.ok ∙ ap (λ (xs : List ℕ). v.wire.rest ++ xs) text) c.requires.wish (record { asked = c.of-asked.result; exchange = c.of-exchange.result; answer = c.of-said.result; code = c.code_given-code.result }) c.of-asked.ensures c.of-exchange.ensures c.of-said.ensures c.code_given-code.ensures);
    }

pub returns : goal.returns
returns g c =
    let v : LiveView = record { wire = c.live.inside.wire; line = c.live.inside.line; watch = c.live.inside.watch; seat = c.live.inside.seat; charter = record { rules = c.live.inside.routes.now; signer = c.live.inside.signer.now; tag = c.live.inside.tag }; reports = c.live.inside.reports } in
    let s = c.args.self in
    let a = c.args.answer in
    let h : IsAnsweredWith v s a = subst (λ (x : LiveView). IsAnsweredWith x s a) (sym c.live.view_is) c.requires.told in
    let e = c.put.ensures in
    record { leads = from_live v c.args.live.now _ 2 _ c.live.view_is (gives_not v s a h c.put.new.self e.start e.link c.in-Err.ensures.err.1 c.end_with.result c.end_with.ensures) }
