use Rattle.std.proofs.Common.{arith}
use Rattle.gp_session_http.proofs.Rows.{moved_same, moved_again, leads_from}
use Rattle.gp_session_http.proofs.Collecting.{gathered_less}
use Rattle.gp_session_http.proofs.gathering.Gathering.advance.Goals as goal

pub loop-next-init : goal.loop-next-init
loop-next-init g c = record { moved = moved_same c.args.live.now; told = c.requires.told }

pub loop-next-smaller : goal.loop-next-smaller
loop-next-smaller g c = let more = c.in-More.ensures.gathers.more in let less = gathered_less c.gather.new.live c.in-More.next c.in-More.ensures.gathers.told in omega (arith, more, less)

pub loop-next-preserved : goal.loop-next-preserved
loop-next-preserved g c = record { moved = moved_again c.args.live.now c.loop-next.live c.gather.new.live c.loop-next.invariant.moved c.in-More.ensures.gathers.moved; told = c.in-More.ensures.gathers.told }

pub returns-in-Next : goal.returns-in-Next
returns-in-Next g c = record { leads = leads_from c.args.live.now c.loop-next.live c.gather.new.live 2 2 c.in-Next.next c.loop-next.invariant.moved (omega arith) c.in-Next.ensures.gathers }
