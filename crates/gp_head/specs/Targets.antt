-- How a request target is split (RFC 9112, section 3.2).
use Rattle.std.specs.Prelude.{◌≡◌, ℕ, ◌<◌, List, length, slice_index, Option, Some, None, ⊤}
use Rattle.http_uri.specs.ByteClasses.{slash}
use Rattle.http_uri.specs.Grammar.{or_slash, IsUriText}
use Rattle.gp_head.specs.declared.target.TargetFault.{TargetFault}
use Rattle.gp_head.specs.declared.target.TargetFault.TheVariants.{Form, NoMemory}

-- the text before the fragment of a path that begins with `/`
abbrev pub IsPathForm : List ℕ → List ℕ → Type 0
IsPathForm target kept = (slice_index target 0 ≡ slash) × IsUriText target None None kept

-- a scheme that isn't empty, `://`, an authority, and what is kept of what follows it
abbrev pub IsAbsoluteForm : List ℕ → List ℕ → List ℕ → Type 0
IsAbsoluteForm target authority kept =
    (scheme : List ℕ) × (0 < length scheme) × IsUriText target (Some scheme) (Some authority) kept

-- the path and query, and the authority where there is one; a path and query without a byte reads as `/`
abbrev pub IsSplit : List ℕ → List ℕ → Option (List ℕ) → Type 0
IsSplit target path None = (kept : List ℕ) × IsPathForm target kept × (path ≡ or_slash kept)
IsSplit target path (Some authority) = (kept : List ℕ) × IsAbsoluteForm target authority kept × (path ≡ or_slash kept)

-- `Form` comes where the target is neither
abbrev pub IsTargetFault : List ℕ → TargetFault → Type 0
IsTargetFault target Form = (path : List ℕ) (authority : Option (List ℕ)) → ¬ (IsSplit target path authority)
IsTargetFault target NoMemory = ⊤
