-- What a call on a device says.
use Rattle.std.specs.Prelude.{ℕ, ◌≡◌, ◌<◌, ◌≤◌, List, length, take, Option}
use mathlib.Core.List.{IsPrefix}
use Rattle.gp_outside.specs.Counts.{Rose, grown}
use Rattle.gp_outside.specs.declared.device.FileRead.{FileRead}
use Rattle.gp_outside.specs.declared.device.FileRead.TheVariants.{Took, TooLong, Failed, NoMemory}
use Rattle.gp_outside.specs.declared.device.Written.{Written}
use Rattle.gp_outside.specs.declared.device.Written.TheVariants.{Took as WriteTook, Failed as WriteFailed}

-- a file whose content is told: the whole of it is read where it has at most 16,777,216 bytes, and it is too long
-- exactly where it has more, unless the read fails or memory is wanting
abbrev pub IsReadOf : List ℕ → FileRead → Type 0
IsReadOf content (Took body) = (body ≡ content) × (length content ≤ 16777216)
IsReadOf content TooLong = 16777216 < length content
IsReadOf content Failed = Unit {0}
IsReadOf content NoMemory = Unit {0}

-- a failed read has its fault, and every other leaves the count of faults as it was
abbrev pub FailsWith : FileRead → ℕ → ℕ → Type 0
FailsWith Failed before now = Rose before now
FailsWith (Took body) before now = now ≡ before
FailsWith TooLong before now = now ≡ before
FailsWith NoMemory before now = now ≡ before

-- what a sink tells: all the bytes that were written, where they can be known, and how many faults there were
pub record SinkTells : Type 0 where
  pub written : Option (List ℕ)
  pub faults : ℕ

-- a write takes the first bytes, at least one, without a fault, or fails with a fault and takes none
abbrev pub IsWrite : SinkTells → SinkTells → List ℕ → Written → Type 0
IsWrite before now from (WriteTook n) = (0 < n) × (n ≤ length from) × (now.written ≡ grown before.written (take n from)) × (now.faults ≡ before.faults)
IsWrite before now from WriteFailed = (now.written ≡ before.written) × Rose before.faults now.faults

-- all the bytes were written, and no fault came
pub record WroteAll (before now : SinkTells) (bytes : List ℕ) : Type 0 where
  pub whole : now.written ≡ grown before.written bytes
  pub quiet : now.faults ≡ before.faults

-- a first part of the bytes was written, and not all of them, and then a fault came
pub record WrotePart (before now : SinkTells) (bytes : List ℕ) : Type 0 where
  pub later : before.faults ≤ now.faults
  pub rose : Rose before.faults now.faults
  pub part : (some : List ℕ) × IsPrefix some bytes × (length some < length bytes) × (now.written ≡ grown before.written some)
