use Rattle.std.proofs.Common.{◌≡◌, ◌+◌, ◌-◌, ◌^◌, ◌≤◌, min, true, length, All}
use Rattle.gp_plain.specs.Fit.{fits}
use Rattle.gp_plain.specs.declared.event.Event.{Event}
use Rattle.gp_replay.specs.Reads.{Reads}
use Rattle.gp_replay.proofs.script.read_script.Given as goal

abbrev pub invariant-loop-rest : goal.invariant-loop-rest
invariant-loop-rest l = record {
  reads : Reads l.bytes l.events.items l.rest;
  fit : All (λ (event : Event). fits event ≡ true) l.events.items;
  number : l.number ≡ min (length l.events.items + 1) (2 ^ 32 - 1);
  few : length l.events.items + length l.rest ≤ length l.bytes;
}

abbrev pub decreases-loop-rest : goal.decreases-loop-rest
decreases-loop-rest l = length l.rest
