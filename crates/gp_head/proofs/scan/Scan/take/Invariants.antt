use Rattle.std.proofs.Common.{◌≡◌, take}
use Rattle.gp_head.specs.Scans.{after_all, IsSound}
use Rattle.gp_head.proofs.scan.Scan.take.Given as goal

abbrev pub invariant-loop-byte : goal.invariant-loop-byte
invariant-loop-byte l = record {
  scan : l.self ≡ after_all (take l.byte-index l.bytes) l.initial.self;
  sound : IsSound l.self;
}
