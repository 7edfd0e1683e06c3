use Rattle.std.proofs.Common.{refl}
use Rattle.gp_outside.proofs.Inputs.{drop_nil, left_on}
use Rattle.gp_outside.proofs.Talking.{talks_received}
use Rattle.gp_outside.proofs.mem_dial.MemDial.receive.Goals.{in-Some, in_default}
use Rattle.gp_outside.proofs.mem_dial.MemDial.receive.Goals as goal

pub returns-clause-after : goal.returns-clause-after
returns-clause-after c = elim c.match-self.branch [
  | in-Some w ↦ let k = w.in-Some.kept in rw (w.self-inside-is, ← c.self.view_is, w.in-Some.is, talks_received c.self.inside.bytes.items c.self.inside.over.items k c.args.count, left_on k.answer k.done c.args.count) refl
  | in_default w ↦ rw (w.self-inside-is, ← c.self.view_is, w.in_default.is, drop_nil c.args.count) refl
]
