use Rattle.gp_session_http.proofs.Collecting.{answer_lost, askable_answered, holds_answer}
use Rattle.gp_session_http.proofs.Rows.{leads_is}
use Rattle.gp_session_http.proofs.asking.Asking.hold.Goals as goal
use Rattle.gp_session_http.proofs.asking.Asking.hold.Goals.{in-Ok, in-Err}

pub prepare-prepared-requires-clause-askable : goal.prepare-prepared-requires-clause-askable
prepare-prepared-requires-clause-askable g c = askable_answered c.forward_law.ensures c.args.live.now c.args.self c.args.answer c.requires.told

pub prepare-prepared-requires-clause-target : goal.prepare-prepared-requires-clause-target
prepare-prepared-requires-clause-target g c = c.link_law.ensures.answer c.requires.told.head c.requires.told.content c.args.answer c.requires.told.read

pub returns : goal.returns
returns g c =
    let l = c.args.live.now in
    record {
      leads = elim c.match-prepared.branch [
        | in-Ok w ↦ leads_is l l 2 _ _ w.result-is (holds_answer l c.args.self c.args.answer c.requires.told c.requires.wish w.in-Ok.attaching w.in-Ok.ensures)
        | in-Err w ↦ leads_is l l 2 _ _ w.result-is (answer_lost l c.args.self c.args.answer c.requires.told w.end_with.result w.end_with.ensures)
      ];
    }
