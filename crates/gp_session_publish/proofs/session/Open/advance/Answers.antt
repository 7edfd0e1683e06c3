use Rattle.std.proofs.Common.{subst}
use Rattle.gp_session_publish.specs.Views.{Moved}
use Rattle.gp_session_publish.specs.Polls.{OpenView}
use Rattle.gp_session_publish.proofs.Rows.{moved_again}
use Rattle.gp_session_publish.proofs.Hearing.{moved_same}
use Rattle.gp_session_publish.proofs.Turning.{ends_at, waits_at}
use Rattle.gp_session_publish.proofs.session.Open.advance.Goals as goal

pub loop-next-init : goal.loop-next-init
loop-next-init g c = record {
  moved = subst (λ (o : OpenView). Moved o.live c.self.inside.live) c.self.view_is (moved_same c.self.inside.live);
  told = c.self.invariant;
}

pub loop-next-preserved : goal.loop-next-preserved
loop-next-preserved g c =
    let leads = c.in-Go.ensures.leads in
    record { moved = moved_again c.args.self.live c.loop-next.live c.advance.new.live c.loop-next.invariant.moved leads.moved; told = leads.to.0 }

pub returns-in-Wait : goal.returns-in-Wait
returns-in-Wait g c = waits_at c.args.self.live c.loop-next.live c.advance.new.live _ c.in-Wait.next c.loop-next.invariant.moved c.in-Wait.ensures.leads

pub returns-in-End : goal.returns-in-End
returns-in-End g c = ends_at c.args.self.live c.loop-next.live c.advance.new.live _ c.in-End.ended _ _ c.loop-next.invariant.moved c.in-End.ensures.leads c.left.ensures
