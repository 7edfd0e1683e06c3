-- A head that is being read.
use Rattle.std.specs.Prelude.{◌≡◌, ℕ, List}
use Rattle.gp_head.specs.declared.read.HeadRead.TheVariants.{More}
use Rattle.gp_head.specs.Heads.{IsRead, IsRequestText}
use Rattle.gp_head.specs.declared.scan.Scan.{Scan}
use Rattle.gp_head.specs.Scans.{scan_of}

-- a request's head has begun, and nothing refuses it yet
abbrev pub IsBegun : List ℕ → Type 0
IsBegun received = IsRead IsRequestText received More

-- all bytes were looked at
pub record IsScanned (scan : Scan) (bytes : List ℕ) : Type 0 where
  pub seen : scan ≡ scan_of bytes
  pub begun : IsBegun bytes
