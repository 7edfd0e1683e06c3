use Rattle.std.proofs.Common.{ℕ, ◌≡◌, ◌+◌, ◌*◌, ◌%◌, ◌<◌, fold, take}
use Rattle.gp_window.proofs.bucket.mixed.Given as goal

abbrev pub invariant-loop-byte : goal.invariant-loop-byte
invariant-loop-byte l = record {
  small : l.hash < 4294967296;
  so_far : l.hash ≡ fold (λ (hash byte : ℕ). (hash + byte) * 2654435761 % 4294967296) l.initial.hash (take l.byte-index l.bytes);
}
