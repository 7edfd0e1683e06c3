use Rattle.gp_session.proofs.Listening.{heard_more}
use Rattle.gp_session.proofs.hearing.hear.Goals as goal

pub loop-left-preserved : goal.loop-left-preserved
loop-left-preserved g c = heard_more (g.L.Link.tells c.args.link.now) (g.L.Link.tells c.loop-left.link) (g.L.Link.tells c.hear_once.new.link) c.loop-left.left c.loop-left.invariant c.in-Bytes.count c.in-Bytes.ensures
