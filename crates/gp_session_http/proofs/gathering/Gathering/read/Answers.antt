use Rattle.gp_session_http.proofs.Collecting.{read_whole, read_refused, read_lost}
use Rattle.gp_session_http.proofs.gathering.Gathering.read.Goals as goal

pub grant-requires : goal.grant-requires
grant-requires g c = record { told = read_whole c.args.live.now c.args.self c.requires.told c.in-Ok.answer c.in-Ok.ensures.ok }

pub fail-requires : goal.fail-requires
fail-requires g c = record { told = read_refused c.args.live.now c.args.self c.requires.told (rw c.in-Err-Refused.field-0-is at c.in-Err-Refused.ensures.err) }

pub returns-in-Err-NoMemory : goal.returns-in-Err-NoMemory
returns-in-Err-NoMemory g c = record { leads = read_lost c.args.live.now c.args.self c.requires.told c.end_with.result c.end_with.ensures }
