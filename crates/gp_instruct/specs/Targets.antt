-- Which URIs a link may have (RFC 9112, section 3.2).
use Rattle.std.specs.Prelude.{◌≡◌, ℕ, ◌<◌, ◌⊎◌, List, length, slice_index, Some, None}
use Rattle.http_uri.specs.ByteClasses.{slash}
use Rattle.http_uri.specs.Grammar.{IsUriText}

-- a path that begins with `/`
abbrev pub IsPathForm : List ℕ → Type 0
IsPathForm text = (kept : List ℕ) × (slice_index text 0 ≡ slash) × IsUriText text None None kept

-- a scheme that isn't empty, `://` and an authority, and what may follow them
abbrev pub IsAbsoluteForm : List ℕ → Type 0
IsAbsoluteForm text = (scheme authority kept : List ℕ) × (0 < length scheme) × IsUriText text (Some scheme) (Some authority) kept

abbrev pub IsTarget : List ℕ → Type 0
IsTarget text = IsPathForm text ⊎ IsAbsoluteForm text
