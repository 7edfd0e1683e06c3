use Rattle.std.proofs.Common.{arith}
use Rattle.gp_session_publish.proofs.Turning.{told_new}
use Rattle.gp_session_publish.proofs.session.Open.new.Goals as goal

pub invariant_of-result : goal.invariant_of-result
invariant_of-result g c = told_new c.new.result _ c.args.pass (record { intake = c.new-2.result }) c.new.ensures c.requires.fresh (omega (arith, c.spare-some.ensures.spare, c.spare-some.ensures.some.0)) c.new-2.ensures.none c.new-2.ensures.begun
