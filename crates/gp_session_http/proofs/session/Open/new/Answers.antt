use Rattle.gp_session_http.proofs.Turning.{told_new}
use Rattle.gp_session_http.proofs.session.Open.new.Goals as goal

pub invariant_of-result : goal.invariant_of-result
invariant_of-result g c = told_new c.args.live (record { intake = c.new.result }) c.requires.new c.new.ensures.none c.new.ensures.begun
