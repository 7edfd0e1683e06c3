-- Devices in memory: each call takes the next turn of a list.
use Rattle.std.specs.Prelude.{ℕ, ◌≡◌, ◌-◌, ◌<◌, ◌≤◌, nat_le, Bool, true, false, ◌&&◌, cond, List, ◌++◌, length, take, drop, slice_get, Option, Some, None}
use Rattle.gp_plain.specs.Names.{same_id}
use Rattle.gp_outside.specs.Counts.{counted}
use Rattle.gp_outside.specs.Devices.{SinkTells}
use Rattle.gp_outside.specs.declared.device.FileRead.{FileRead}
use Rattle.gp_outside.specs.declared.device.FileRead.TheVariants.{Took, TooLong, Failed, NoMemory}
use Rattle.gp_outside.specs.declared.device.Written.{Written}
use Rattle.gp_outside.specs.declared.device.Written.TheVariants.{Took as WriteTook, Failed as WriteFailed}
use Rattle.gp_outside.specs.Turning.{is_ready, let_through}
use Rattle.gp_outside.specs.declared.turn.Turn.{Turn}

-- one file, the turns that are left, and how many faults there were
pub record OneFile : Type 0 where
  pub path : List ℕ
  pub content : List ℕ
  pub reads : List Turn
  pub faults : ℕ

-- the file is read where it has this path and the turn doesn't fail
abbrev pub can_read : OneFile → List ℕ → Bool
can_read file path = same_id path file.path && is_ready (slice_get file.reads 0)

-- what can be read is given whole, or is too long; what can't has failed
abbrev pub IsFileAnswer : Bool → List ℕ → FileRead → Type 0
IsFileAnswer can content (Took body) = (can ≡ true) × (length content ≤ 16777216) × (body ≡ content)
IsFileAnswer can content TooLong = (can ≡ true) × (16777216 < length content)
IsFileAnswer can content Failed = can ≡ false
IsFileAnswer can content NoMemory = (can ≡ true) × (length content ≤ 16777216)

-- a read takes its turn, and a failed one is a fault
abbrev pub after_file_read : OneFile → Bool → OneFile
after_file_read file can = record {
  path = file.path;
  content = file.content;
  reads = drop 1 file.reads;
  faults = cond can file.faults (counted file.faults);
}

-- the content of the one file is told, and of no other
abbrev pub told_content : OneFile → List ℕ → Option (List ℕ)
told_content file path = cond (same_id path file.path) (Some file.content) None

-- what was written, how many bytes there is still room for, the turns that are left, and how many faults there were
pub record Sink : Type 0 where
  pub written : List ℕ
  pub room : ℕ
  pub writes : List Turn
  pub faults : ℕ

-- so many bytes, where there is room for them
abbrev pub roomed : ℕ → Option ℕ → Option ℕ
roomed room None = None
roomed room (Some n) = cond (nat_le n room) (Some n) None

-- how many of so many bytes a write takes, or none where it fails
abbrev pub can_write : Sink → ℕ → Option ℕ
can_write sink all = roomed sink.room (let_through (slice_get sink.writes 0) all)

abbrev pub write_answer : Option ℕ → Written
write_answer None = WriteFailed
write_answer (Some n) = WriteTook n

-- a write takes its turn; it adds the first bytes, or it is a fault and adds none
abbrev pub after_write : Sink → List ℕ → Option ℕ → Sink
after_write sink from None = record { written = sink.written; room = sink.room; writes = drop 1 sink.writes; faults = counted sink.faults }
after_write sink from (Some n) = record { written = sink.written ++ take n from; room = sink.room - n; writes = drop 1 sink.writes; faults = sink.faults }

abbrev pub told_sink : Sink → SinkTells
told_sink sink = record { written = Some sink.written; faults = sink.faults }
