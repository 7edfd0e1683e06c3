use Rattle.std.proofs.Common.{◌≡◌, ◌≤◌, ◌∙◌, ap, arith, length, refl, Some, slice_get}
use Rattle.gp_outside.proofs.Talking.{added, begins, no_talk, talks_begun}
use Rattle.gp_outside.specs.Kept.{talk_of}
use Rattle.gp_outside.proofs.mem_dial.MemDial.begin.Goals as goal

pub returns : goal.returns
returns c =
    let dial = c.self.inside in
    let to = c.args.to.now in
    let host : length c.bytes.result.now ≡ length to.host = ap length c.bytes.ensures in
    let room : length to.host ≤ dial.room = omega (arith, c.len-host.ensures, c.if-host-self.false) in
    let items = added c.extend_from_slice.result dial.bytes.items c.extend_from_slice.new.self.items _ _ _ c.extend_from_slice.ensures.items c.extend_from_slice.ensures.full (omega (arith, host, room, c.self.invariant.room)) in
    let none = no_talk (talk_of dial.bytes.items) dial.present (rw (← c.self.view_is) at c.requires) in
    let first : Some c.in-Some.answer ≡ slice_get dial.answers 0 = c.in-Some.ensures.first in
    begins c.args.self.now to c.in-Some.answer c.requires (rw (← c.self.view_is) room) (rw (← c.self.view_is) first)
    ∙ rw (← c.self.view_is, items, c.bytes.ensures, c.len-host.ensures, c.as_slice-from.ensures.value, talks_begun dial.bytes.items to.host dial.over.items to.port c.in-Some.answer c.self.invariant.within, none, c.in-Some.ensures.left) refl
