use Rattle.std.proofs.Common.{◌≡◌, take}
use Rattle.gp_events.specs.Spellings.{spell}
use Rattle.gp_events.proofs.write.write_events.Given as goal

abbrev pub invariant-loop-event : goal.invariant-loop-event
invariant-loop-event l = l.text.items ≡ spell (take l.event-index l.event-items)
