use Rattle.std.proofs.Common.{◌≡◌, ◌++◌, map, take, drop, bit_xor}
use Rattle.gp_sig.proofs.mac.mask.Given as goal

abbrev pub invariant-loop-byte : goal.invariant-loop-byte
invariant-loop-byte l = l.bytes ≡ map (λ b. bit_xor b l.pad) (take l.byte-index l.initial.bytes) ++ drop l.byte-index l.initial.bytes
