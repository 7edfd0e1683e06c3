use Rattle.gp_session_http.proofs.Collecting.{gathers_head}
use Rattle.gp_session_http.proofs.asking.Asking.gather.Goals as goal

pub returns : goal.returns
returns g c = record { leads = gathers_head c.args.live.now c.args.self c.args.head c.empty.result c.empty.ensures c.requires.told c.requires.gathered }
