use Rattle.std.proofs.Common.{sym}
use Rattle.gp_window.proofs.Searching.{no_repeat}
use Rattle.gp_window.proofs.window.Window.repeats.Goals as goal

pub returns-in-None : goal.returns-in-None
returns-in-None c = sym (no_repeat c.args.self.now.items c.args.item.now c.in-None.is)
