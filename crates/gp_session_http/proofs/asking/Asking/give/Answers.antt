use Rattle.gp_session_http.proofs.Collecting.{answer_lost}
use Rattle.gp_session_http.proofs.asking.Asking.give.Goals as goal

pub returns-in-Err : goal.returns-in-Err
returns-in-Err g c = record { leads = answer_lost c.args.live.now c.args.self c.args.answer c.requires.told c.end_with.result c.end_with.ensures }
