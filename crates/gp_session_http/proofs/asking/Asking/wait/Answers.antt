use Rattle.gp_session_http.proofs.Collecting.{counted_in, few_repeats, polls_answer, answer_lost}
use Rattle.gp_session_http.proofs.Rows.{leads_is}
use Rattle.gp_session_http.proofs.asking.Asking.wait.Goals as goal
use Rattle.gp_session_http.proofs.asking.Asking.wait.Goals.{in-Ok, in-Err}

pub pose-posed-requires-clause-counted : goal.pose-posed-requires-clause-counted
pose-posed-requires-clause-counted g c = counted_in c.requires.told.head c.requires.told.content c.args.answer c.requires.told.read

pub pose-posed-requires-clause-few : goal.pose-posed-requires-clause-few
pose-posed-requires-clause-few g c = few_repeats c.args.live.now c.args.self c.args.answer c.requires.told

pub returns : goal.returns
returns g c =
    let l = c.args.live.now in
    record {
      leads = elim c.match-posed.branch [
        | in-Ok w ↦ leads_is l l 2 _ _ w.result-is (polls_answer l c.args.self c.args.answer c.requires.told c.requires.wish w.in-Ok.beginning w.in-Ok.ensures)
        | in-Err w ↦ leads_is l l 2 _ _ w.result-is (answer_lost l c.args.self c.args.answer c.requires.told w.end_with.result w.end_with.ensures)
      ];
    }
