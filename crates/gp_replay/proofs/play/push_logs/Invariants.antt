use Rattle.std.proofs.Common.{string_bytes, ◌≡◌, ◌++◌, List, map, take}
use Rattle.gp_plain.specs.declared.event.Entry.{Entry}
use Rattle.gp_plain.specs.History.{held}
use Rattle.gp_plain.specs.Standing.{StandsFor}
use Rattle.gp_replay.specs.Logs.{log_of}
use Rattle.gp_replay.specs.Outputs.{logs_text}
use Rattle.gp_replay.proofs.play.push_logs.Given as goal

abbrev pub invariant-loop-place : goal.invariant-loop-place
invariant-loop-place l = (past : List Entry) → StandsFor l.registry past → l.logs ≡ map log_of (held past) → string_bytes l.out ≡ string_bytes l.initial.out ++ logs_text 0 (take l.place (held past))
