use Rattle.gp_session_http.proofs.Completing.{Laws, completes}
use Rattle.gp_session_http.proofs.session.completes.Goals as goal

pub returns : goal.returns
returns g c =
    let laws : Laws = record { request = c.request_law.ensures; answer = c.answer_law.ensures; page = c.page_law.ensures; failing = c.failing_law.ensures } in
    record { completes = completes laws c.args.live.now c.args.ended.now c.requires.ends }
