use Rattle.gp_recover.proofs.Ending.{end_leads, fault_so, lost_so}
use Rattle.gp_recover.proofs.Gathering.{added_by, found_leads, unrefused}
use Rattle.gp_recover.proofs.reading.Reading.gather.Goals as goal

pub returns-in-Part : goal.returns-in-Part
returns-in-Part g c =
    added_by c.args.sought.now c.args.self c.poll.new.exchange (g.D.Dial.tells c.args.dial.now) (g.D.Dial.tells c.poll.new.dial) c.requires c.in-Part.part c.in-Part.ensures (g.D.Dial.tells c.add.new.dial) c.add.result c.add.ensures

pub returns-in-End : goal.returns-in-End
returns-in-End g c =
    found_leads c.args.sought.now c.args.self c.poll.new.exchange (g.D.Dial.tells c.args.dial.now) (g.D.Dial.tells c.poll.new.dial) c.requires c.in-End.ensures c.finish.result c.finish.ensures

pub returns-in-Fault : goal.returns-in-Fault
returns-in-Fault g c =
    end_leads c.args.sought.now c.args.self.exchange.place c.args.self.reader.content (g.D.Dial.tells c.args.dial.now) (g.D.Dial.tells c.poll.new.dial) c.poll.new.exchange _
    (fault_so c.args.sought.now c.args.self.exchange c.poll.new.exchange c.args.self.reader.content (g.D.Dial.tells c.args.dial.now) (g.D.Dial.tells c.poll.new.dial) c.requires.asked c.in-Fault.fault (unrefused c.args.sought.now c.args.self c.requires) c.in-Fault.ensures)
    c.fail.result c.fail.ensures

pub returns-in-NoMemory : goal.returns-in-NoMemory
returns-in-NoMemory g c =
    end_leads c.args.sought.now c.args.self.exchange.place c.args.self.reader.content (g.D.Dial.tells c.args.dial.now) (g.D.Dial.tells c.poll.new.dial) c.poll.new.exchange _
    (lost_so c.args.sought.now c.args.self.exchange c.poll.new.exchange c.args.self.reader.content (g.D.Dial.tells c.args.dial.now) (g.D.Dial.tells c.poll.new.dial) c.requires.asked c.in-NoMemory.ensures)
    c.lose.result c.lose.ensures
