use Rattle.gp_shifts.proofs.Giving.{given, runs}
use Rattle.gp_shifts.proofs.brief.QuickMaker.publisher.Goals as goal

pub returns-clause-runs : goal.returns-clause-runs
returns-clause-runs c ended = runs c.brief.result.rest c.args.pass c.brief.ensures ended

pub returns-clause-gives : goal.returns-clause-gives
returns-clause-gives c claim over gives = given c.args.self.now.hub.now claim c.args.pass c.brief.result.rest over c.requires.pass c.brief.ensures gives
