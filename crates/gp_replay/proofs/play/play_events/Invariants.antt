use Rattle.std.proofs.Common.{string_bytes, ◌≡◌, ◌+◌, ◌≤◌, ◌++◌, List, length, map}
use Rattle.gp_plain.specs.declared.event.Entry.{Entry}
use Rattle.gp_plain.specs.History.{held}
use Rattle.gp_plain.specs.Standing.{StandsFor}
use Rattle.gp_replay.specs.Logs.{log_of}
use Rattle.gp_replay.specs.Outputs.{replies_text}
use Rattle.gp_replay.specs.Scripts.{entries_of}
use Rattle.gp_replay.proofs.play.play_events.Given as goal

abbrev pub invariant-loop-event : goal.invariant-loop-event
invariant-loop-event l = record {
  next : l.registry.next ≤ l.initial.registry.next + length l.yielded;
  stands : (past : List Entry) → StandsFor l.initial.registry past → StandsFor l.registry (past ++ entries_of l.yielded);
  text : (past : List Entry) → StandsFor l.initial.registry past → string_bytes l.out ≡ string_bytes l.initial.out ++ replies_text past l.yielded;
  logs : (past : List Entry) → StandsFor l.initial.registry past → l.initial.logs.items ≡ map log_of (held past) → l.logs.items ≡ map log_of (held (past ++ entries_of l.yielded));
}
