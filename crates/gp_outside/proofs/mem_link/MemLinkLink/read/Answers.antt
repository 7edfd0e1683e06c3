use Rattle.std.proofs.Common.{refl, arith}
use Rattle.gp_outside.proofs.Inputs.{read_first, read_on, left_on}
use Rattle.gp_outside.proofs.mem_link.MemLinkLink.read.Goals as goal

pub returns-in-Took-clause-read : goal.returns-in-Took-clause-read
returns-in-Took-clause-read c =
    let link = c.self.inside in
    let some = c.in-Took.ensures.some c.requires in
    let first = read_first link.input c.bytes.result.now c.copy_front.new.into _ link.done c.in-Took.count (omega (arith, some.2, c.len.ensures, c.self.invariant.0)) c.bytes.ensures c.copy_front.ensures in
    rw (← c.self.view_is) (record {
      later = record { faults = omega arith; read_waits = omega arith; write_waits = omega arith; ends = omega arith };
      sent = refl;
      write_waits = refl;
      faulted = refl;
      moved = (some.0, omega (arith, c.copy_front.auto.into, some.1), rw (read_on link.input link.done c.in-Took.count, first) refl);
    })

pub returns-in-Took-clause-after : goal.returns-in-Took-clause-after
returns-in-Took-clause-after c =
    let link = c.self.inside in
    rw (← c.self.view_is, read_on link.input link.done c.in-Took.count, left_on link.input link.done c.in-Took.count, c.take_first.ensures.left) refl
