use Rattle.std.proofs.Common.{◌++◌, sym, subst}
use Rattle.gp_session_http.specs.declared.passing.Step.TheVariants as step
use Rattle.gp_session_http.specs.declared.stage.Next.TheVariants.{End}
use Rattle.gp_session_http.specs.Views.{LiveView}
use Rattle.gp_session_http.specs.Moves.{HasGiven}
use Rattle.gp_session_http.proofs.Sending.{steps_live, steps_is, steps_at, put_step, unput_step}
use Rattle.gp_session_http.proofs.passing.Passing.put.Goals as goal
use Rattle.gp_session_http.proofs.passing.Passing.put.Goals.{in-Ok, in-Err}

pub returns : goal.returns
returns g c =
    let v : LiveView = record { wire = c.live.inside.wire; line = c.live.inside.line; watch = c.live.inside.watch; seat = c.live.inside.seat; charter = record { rules = c.live.inside.routes.now; signer = c.live.inside.signer.now; tag = c.live.inside.tag }; reports = c.live.inside.reports } in
    let s = c.args.self in
    let h : HasGiven v s c.args.part = subst (λ (x : LiveView). HasGiven x s c.args.part) (sym c.live.view_is) c.requires.told in
    let e = c.put_part.ensures in
    let to = c.match-put_part.live in
    let chunked = s.passed.chunked in
    record {
      steps = steps_live v c.args.live.now to chunked c.match-put_part.result c.live.view_is (elim c.match-put_part.branch [
        | in-Ok w ↦ steps_is v to chunked _ _ w.result-is (steps_at v _ to chunked (step.Part s) w.live-is (put_step v c.put_part.new.wire s c.args.part h e.start e.link w.in-Ok.ensures.ok))
        | in-Err w ↦ steps_is v to chunked _ _ w.result-is (steps_at v _ to chunked (step.Next (End w.end_with.result)) w.live-is
            (unput_step v c.put_part.new.wire s c.args.part h e.start e.link w.in-Err.ensures.err w.hang_up.new.self w.hang_up.ensures.moved (λ aims. w.hang_up.ensures.row aims (h.given ++ c.args.part)) w.end_with.result w.end_with.ensures))
      ]);
    }
