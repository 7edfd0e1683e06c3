use Rattle.std.proofs.Common.{sym, subst}
use Rattle.gp_session.specs.declared.hearing.Heard.TheVariants as heard
use Rattle.gp_session_hold.specs.Rows.{KeptView}
use Rattle.gp_session_wait.specs.Waits.{PollsWait}
use Rattle.gp_session_wait.specs.declared.wait.Polled.TheVariants as polled
use Rattle.gp_session_wait.proofs.Hearing.{gone_heard, waits_heard, went_quiet, went_much, looked}
use Rattle.gp_session_wait.proofs.wait.Wait.poll.Goals as goal

pub look-requires : goal.look-requires
look-requires g c = waits_heard c.args.self c.args.wire.now c.hear.new.self c.args.seat.now heard.NotReady c.in-NotReady.ensures c.requires

pub look-requires-in-Much : goal.look-requires-in-Much
look-requires-in-Much g c = waits_heard c.args.self c.args.wire.now c.hear.new.self c.args.seat.now heard.Much c.in-Much.ensures c.requires

pub returns-in-NotReady : goal.returns-in-NotReady
returns-in-NotReady g c =
    looked c.args.self c.args.wire.now c.hear.new.self c.look.new.wire c.args.seat.now c.look.new.seat c.args.now heard.NotReady c.in-NotReady.ensures
    (went_quiet c.args.wire.now c.hear.new.self c.in-NotReady.ensures) c.look.result c.look.ensures

pub returns-in-Much : goal.returns-in-Much
returns-in-Much g c =
    looked c.args.self c.args.wire.now c.hear.new.self c.look-in-Much.new.wire c.args.seat.now c.look-in-Much.new.seat c.args.now heard.Much c.in-Much.ensures
    (went_much c.args.wire.now c.hear.new.self c.in-Much.ensures) c.look-in-Much.result c.look-in-Much.ensures

pub returns-in-Gone : goal.returns-in-Gone
returns-in-Gone g c =
    subst (λ (k : KeptView). PollsWait c.args.self c.args.wire.now c.hear.new.self c.args.seat.now c.args.seat.now c.args.now (polled.Gone k)) (sym c.into_hold.ensures)
    (gone_heard c.args.self c.args.wire.now c.hear.new.self c.args.seat.now c.args.now c.in-Gone.ensures c.requires)
