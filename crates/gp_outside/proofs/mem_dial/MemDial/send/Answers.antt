use Rattle.std.proofs.Common.{◌≤◌, arith, length, refl}
use Rattle.gp_outside.proofs.Talking.{added, talks_sent}
use Rattle.gp_outside.proofs.mem_dial.MemDial.send.Goals as goal

pub returns-in-Some : goal.returns-in-Some
returns-in-Some c =
    let dial = c.self.inside in
    let kept = c.in-Some.kept in
    let more = c.args.from.now in
    let room : length more ≤ dial.room = rw (← c.self.view_is, c.in-Some.is) at c.requires in
    let last = rw c.in-Some.is at c.self.invariant.last in
    let items = added c.extend_from_slice.result dial.bytes.items c.extend_from_slice.new.self.items more _ _ c.extend_from_slice.ensures.items c.extend_from_slice.ensures.full (omega (arith, room, c.self.invariant.room)) in
    rw (← c.self.view_is, items, c.in-Some.is, talks_sent dial.bytes.items more dial.over.items kept c.self.invariant.within last.0) refl
