use Rattle.std.proofs.Common.{refl}
use Rattle.gp_session_recover.proofs.Advancing.{failed_by, got_by, lost_by, waits_by}
use Rattle.gp_session_recover.proofs.open.Open.advance.Goals as goal

pub returns-in-NotReady : goal.returns-in-NotReady
returns-in-NotReady g c =
    let e = c.in-NotReady.ensures in
    waits_by c.args.self c.args.line.now c.seek.new.self e.moved c.seek.new.recovery.sought c.seek.new.recovery.stage e.sought e.kept e.row e.answers e.gives

pub returns-in-Got : goal.returns-in-Got
returns-in-Got g c =
    let e = c.in-Got.ensures in
    got_by c.args.self c.args.line.now c.seek.new.self e.moved c.seek.new.recovery.sought e.sought c.in-Got.page c.in-Got.page.link refl c.seek.new.recovery.stage e.kept e.row e.answers

pub returns-in-Failed : goal.returns-in-Failed
returns-in-Failed g c =
    let e = c.in-Failed.ensures in
    failed_by c.args.self c.args.line.now c.seek.new.self e.moved c.seek.new.recovery.sought e.sought c.in-Failed.field-0 c.seek.new.recovery.stage e.row e.answers e.gives

pub returns-in-NoMemory : goal.returns-in-NoMemory
returns-in-NoMemory g c =
    let e = c.in-NoMemory.ensures in
    lost_by c.args.self c.args.line.now c.seek.new.self e.moved c.seek.new.recovery.sought e.sought c.seek.new.recovery.stage e.row e.answers
