use Rattle.gp_recover.proofs.Ending.{end_leads, fault_so, lost_so}
use Rattle.std.proofs.Common.{[]}
use Rattle.gp_recover.proofs.Gathering.{head_on, is_headed, none_unrefused}
use Rattle.gp_recover.proofs.Going.{behind, heading_waits}
use Rattle.gp_recover.proofs.heading.Heading.advance.Goals as goal

pub begin-requires : goal.begin-requires
begin-requires g c = is_headed c.args.sought.now c.args.self c.poll.new.exchange (g.D.Dial.tells c.args.dial.now) (g.D.Dial.tells c.poll.new.dial) c.requires c.in-Head.head c.in-Head.ensures

pub returns-in-Head : goal.returns-in-Head
returns-in-Head g c =
    behind c.args.sought.now c.args.self.exchange.place c.poll.new.exchange.place [] [] (g.D.Dial.tells c.args.dial.now) (g.D.Dial.tells c.poll.new.dial) (g.D.Dial.tells c.begin.new.dial)
    (head_on c.args.sought.now c.args.self c.poll.new.exchange (g.D.Dial.tells c.args.dial.now) (g.D.Dial.tells c.poll.new.dial) c.requires c.in-Head.head c.in-Head.ensures)
    c.begin.result c.begin.ensures

pub returns-in-NotReady : goal.returns-in-NotReady
returns-in-NotReady g c = heading_waits c.args.sought.now c.args.self c.poll.new.exchange (g.D.Dial.tells c.args.dial.now) (g.D.Dial.tells c.poll.new.dial) c.requires c.in-NotReady.ensures

pub returns-in-Fault : goal.returns-in-Fault
returns-in-Fault g c =
    end_leads c.args.sought.now c.args.self.exchange.place [] (g.D.Dial.tells c.args.dial.now) (g.D.Dial.tells c.poll.new.dial) c.poll.new.exchange _
    (fault_so c.args.sought.now c.args.self.exchange c.poll.new.exchange [] (g.D.Dial.tells c.args.dial.now) (g.D.Dial.tells c.poll.new.dial) c.requires.asked c.in-Fault.fault (none_unrefused c.args.sought.now c.args.self.exchange.place c.requires.early) c.in-Fault.ensures)
    c.fail.result c.fail.ensures

pub returns-in-NoMemory : goal.returns-in-NoMemory
returns-in-NoMemory g c =
    end_leads c.args.sought.now c.args.self.exchange.place [] (g.D.Dial.tells c.args.dial.now) (g.D.Dial.tells c.poll.new.dial) c.poll.new.exchange _
    (lost_so c.args.sought.now c.args.self.exchange c.poll.new.exchange [] (g.D.Dial.tells c.args.dial.now) (g.D.Dial.tells c.poll.new.dial) c.requires.asked c.in-NoMemory.ensures)
    c.lose.result c.lose.ensures
