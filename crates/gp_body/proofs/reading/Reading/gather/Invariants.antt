use Rattle.std.proofs.Common.{◌+◌, ◌-◌, ◌≤◌, length, vec_len, vec_capacity}
use Rattle.gp_body.specs.Readings.{IsSound}
use Rattle.gp_body.specs.Alls.{Gathers}
use Rattle.gp_body.proofs.reading.Reading.gather.Given as goal

abbrev pub invariant-loop-taken : goal.invariant-loop-taken
invariant-loop-taken l = record {
  gathers : Gathers l.initial.self l.bytes l.taken l.self l.initial.into.items l.into.items;
  sound : IsSound l.self;
  room : vec_len l.into + (length l.bytes - l.taken) ≤ vec_capacity l.into;
}

abbrev pub decreases-loop-taken : goal.decreases-loop-taken
decreases-loop-taken l = length l.bytes - l.taken
